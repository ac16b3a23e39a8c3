-- The rule of filling in order keeps the laws. Assumes nothing.
use Rattle.std.specs.Prelude.{◌≡◌, ℕ, zero, suc, ◌+◌, ◌-◌, ◌≤◌, List, [], ◌∷◌, length, sum, slice_index, refl}
use Rattle.std.proofs.Common.{sym, ap, ◌∙◌, arith}
use Rattle.std.proofs.lemmas.Bool.Decides.{nat_tests}
use Rattle.sharing.specs.Laws.{Fair}
use Rattle.sharing.specs.Questions.{Accepted}
use Rattle.sharing.specs.Rules.{turn_of, order_from, in_order}
use Rattle.sharing.specs.Asked.{asked}
use Rattle.sharing.specs.Claims.{sum_cons}

-- a turn takes no more than is left, and where nothing is claimed after it leaves nothing
pub turn_le : (left c rest : ℕ) → turn_of left c rest ≤ left
turn_le left c rest = grind (arith, nat_tests)

turn_last : (left c rest : ℕ) → (c + rest ≡ 0 → left ≡ 0) → rest ≡ 0 → left - turn_of left c rest ≡ 0
turn_last left c rest h e = grind (arith, nat_tests)

turn_none : (left c rest : ℕ) → c ≡ 0 → turn_of left c rest ≡ 0
turn_none left c rest e = grind (arith, nat_tests)

turn_within : (left c rest : ℕ) → left ≤ c + rest → (turn_of left c rest ≤ c) × (left - turn_of left c rest ≤ rest)
turn_within left c rest h = (grind (arith, nat_tests), grind (arith, nat_tests))

order_long : (left : ℕ) (cs : List ℕ) → length (order_from left cs) ≡ length cs
order_long left [] = refl
order_long left (c ∷ cs) = ap suc (order_long (left - turn_of left c (sum cs)) cs)

order_sum : (left : ℕ) (cs : List ℕ) → (sum cs ≡ 0 → left ≡ 0) → sum (order_from left cs) ≡ left
order_sum left [] h = sym (h refl)
order_sum left (c ∷ cs) h =
    let p = turn_of left c (sum cs) in
    let tail = order_sum (left - p) cs (turn_last left c (sum cs) (λ e. h (sum_cons c cs ∙ e))) in
    omega (arith, sum_cons p (order_from (left - p) cs), turn_le left c (sum cs))

order_none : (left : ℕ) (cs : List ℕ) (i : ℕ) → slice_index cs i ≡ 0 → slice_index (order_from left cs) i ≡ 0
order_none left [] i e = refl
order_none left (c ∷ cs) zero e = turn_none left c (sum cs) e
order_none left (c ∷ cs) (suc i) e = order_none (left - turn_of left c (sum cs)) cs i e

order_within : (left : ℕ) (cs : List ℕ) → left ≤ sum cs → (i : ℕ) → slice_index (order_from left cs) i ≤ slice_index cs i
order_within left [] h i = omega arith
order_within left (c ∷ cs) h zero = (turn_within left c (sum cs) (omega (arith, sum_cons c cs))).0
order_within left (c ∷ cs) h (suc i) =
    order_within (left - turn_of left c (sum cs)) cs (turn_within left c (sum cs) (omega (arith, sum_cons c cs))).1 i

pub order_fair : (claims : List ℕ) (total : ℕ) → Accepted claims total → Fair claims total (in_order claims total)
order_fair claims total h =
    record {
      long = order_long total claims;
      adds = order_sum total claims (asked claims total (length claims) h).zero;
      none = order_none total claims;
      within = order_within total claims;
    }
