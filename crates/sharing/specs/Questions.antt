-- Which questions are declined and by which number, and what a share answers. Assumes nothing.
use Rattle.std.specs.Prelude.{◌≡◌, ℕ, ◌*◌, ◌<◌, ◌≤◌, Bool, not, ◌&&◌, ◌||◌, List, [], ◌∷◌, length, IfOk, None, sum, Option, Result, ◌==◌, nat_lt, slice_index}
use Rattle.std.specs.List.{list_any}
use Rattle.sharing.specs.Declining.{first_of, answered, placed}
use Rattle.sharing.specs.Laws.{Fair}
use Rattle.sharing.specs.declared.refusal.Refusal.{Refusal}
use Rattle.sharing.specs.declared.refusal.Refusal.TheVariants.{Lengths, NothingClaimed, TooLarge}

-- The number by which a refusal is known.
abbrev pub numbered : Refusal → ℕ
numbered Lengths = 21
numbered NothingClaimed = 22
numbered TooLarge = 23

-- Some number of the list is above the limit.
abbrev pub any_above : ℕ → List ℕ → Bool
any_above limit xs = list_any (nat_lt limit) xs

-- Why a share of a total over claims into so many places is declined, if it is: the first condition that holds.
unfoldable pub declined : List ℕ → ℕ → ℕ → Option Refusal
declined claims total places =
    first_of
    ((not (length claims == places) || nat_lt 256 (length claims), Lengths)
    ∷ (sum claims == 0 && nat_lt 0 total, NothingClaimed)
    ∷ (any_above 300000000000 claims || nat_lt 9000000000000000000 (total * sum claims), TooLarge)
    ∷ [])

-- A question, with a place for each claim, that is not declined.
abbrev pub Accepted : List ℕ → ℕ → Type 0
Accepted claims total = declined claims total (length claims) ≡ None

-- What is known of a question that is not declined.
pub record Asked (claims : List ℕ) (total places : ℕ) : Type 0 where
  pub same : length claims ≡ places
  pub few : length claims ≤ 256
  pub zero : sum claims ≡ 0 → total ≡ 0
  pub each : (i : ℕ) → slice_index claims i ≤ 300000000000
  pub whole : sum claims ≤ 76800000000000
  pub small : total * sum claims ≤ 9000000000000000000

-- A share by a rule that means f, and its answer r: the places held old before it, and hold new after it.
pub record Shared (f : List ℕ → ℕ → List ℕ) (claims : List ℕ) (total : ℕ) (old new : List ℕ) (r : Result (Unit {0}) Refusal) : Type 0 where
  pub answer : r ≡ answered (declined claims total (length old)) tt
  pub after : new ≡ placed (declined claims total (length old)) (f claims total) old
  -- and what follows from these by the rule's law, so that a caller need not cite it
  pub fair : IfOk r (λ _. Fair claims total new)
  pub sizes : IfOk r (λ _. Asked claims total (length old))

-- The shares that a month's settlement asks for are never declined.
-- A rank: at most 256 contracts whose energies add up to at most 3,000,000,000, and no more to share than that.
abbrev pub RankAccepted : Type 0
RankAccepted =
    (claims : List ℕ) (total : ℕ) → length claims ≤ 256 → sum claims ≤ 3000000000 → total ≤ sum claims → Accepted claims total

-- A compensation: at most 24 metered energies, not all zero, and at most 100,000,000 fen.
abbrev pub CompensationAccepted : Type 0
CompensationAccepted =
    (claims : List ℕ) (total : ℕ) → length claims ≤ 24 → ((i : ℕ) → slice_index claims i ≤ 3000000000) → 0 < sum claims → total ≤ 100000000 → Accepted claims total
