-- Metered energy divided over claims that are filled in order. Assumes nothing.
use Rattle.std.specs.Prelude.{◌≡◌, ℕ, ◌+◌, ◌-◌, ◌<◌, ◌≤◌, min, not, ◌||◌, List, [], ◌∷◌, map, length, IfOk, sum, Option, Result, ◌==◌, nat_lt, slice_index}
use Rattle.units.specs.declared.energy.Energy.{Energy}
use Rattle.sharing.specs.Declining.{first_of, answered, placed}
use Rattle.sharing.specs.Questions.{any_above}
use Rattle.sharing.specs.Rules.{in_order}
use Rattle.market.specs.declared.refusal.Refusal.{Refusal}
use Rattle.market.specs.declared.refusal.Refusal.TheVariants.{PastLimit, SliceLength}

abbrev pub energy : ℕ → Energy
energy n = record { kwh = n }

abbrev pub energies : List ℕ → List Energy
energies ns = map energy ns

abbrev pub kwhs : List Energy → List ℕ
kwhs es = map (λ (e : Energy). e.kwh) es

-- the parts that fill the claims in order from m, or from their sum where that is less
unfoldable pub divided : ℕ → List ℕ → List ℕ
divided m claims = in_order claims (min m (sum claims))

-- what is left over of m, and what stays unfilled of the claims
abbrev pub left_over : ℕ → List ℕ → ℕ
left_over m claims = m - min m (sum claims)

abbrev pub unfilled : ℕ → List ℕ → ℕ
unfilled m claims = sum claims - min m (sum claims)

-- why a division over claims into so many places is declined, if it is
unfoldable pub divide_declined : ℕ → List ℕ → ℕ → Option Refusal
divide_declined m claims places =
    first_of
    ((not (length claims == 7) || not (places == 7), SliceLength)
    ∷ (nat_lt 3000000000 m || any_above 3000000000 claims, PastLimit)
    ∷ [])

-- these parts fill the claims in order from m, with so much left over and so much unfilled
pub record Filled (m : ℕ) (claims parts : List ℕ) (left missing : ℕ) : Type 0 where
  pub long : length parts ≡ length claims
  -- nothing of m and of the claims is lost
  pub spent : sum parts + left ≡ m
  pub claimed : sum parts + missing ≡ sum claims
  -- no part exceeds its claim
  pub within : (i : ℕ) → slice_index parts i ≤ slice_index claims i
  -- a claim gets something only where every claim before it is full
  pub order : (i j : ℕ) → i < j → 0 < slice_index parts j → slice_index parts i ≡ slice_index claims i
  -- something is left over only where every claim is full
  pub over : 0 < left → (i : ℕ) → slice_index parts i ≡ slice_index claims i

-- a division of m over claims and its answer r: the parts held old before it, and hold new after it
pub record Divided (m : ℕ) (claims : List ℕ) (old new : List Energy) (r : Result (Energy × Energy) Refusal) : Type 0 where
  pub answer : r ≡ answered (divide_declined m claims (length old)) (energy (left_over m claims), energy (unfilled m claims))
  pub after : new ≡ placed (divide_declined m claims (length old)) (energies (divided m claims)) old
  -- and what follows from these
  pub filled : IfOk r (λ pair. Filled m claims (kwhs new) pair.0.kwh pair.1.kwh)
