-- The meaning of the two rules: into which parts a total is shared over claims. Assumes nothing.
use Rattle.std.specs.Prelude.{ℕ, ◌+◌, ◌-◌, ◌*◌, ◌/◌, min, cond, ◌&&◌, List, [], ◌∷◌, sum, ◌==◌, nat_lt}

-- What claims that add up to s get together of a total t, where all claims add up to w: in proportion, rounded down.
-- Where nothing is claimed, nothing.
unfoldable pub running_floor : ℕ → ℕ → ℕ → ℕ
running_floor w t s = cond (w == 0) 0 (t * s / w)

-- Equal ratio, for the claims that stand after others adding up to s:
-- a claim gets what the claims up to it get together, less what those before it got.
abbrev pub ratio_from : ℕ → ℕ → ℕ → List ℕ → List ℕ
ratio_from w t s [] = []
ratio_from w t s (c ∷ cs) = (running_floor w t (s + c) - running_floor w t s) ∷ ratio_from w t (s + c) cs

abbrev pub equal_ratio : List ℕ → ℕ → List ℕ
equal_ratio claims total = ratio_from (sum claims) total 0 claims

-- What a claim c gets of what is left, where the claims after it add up to rest:
-- as much as it claims, and all where it is the last claim above zero.
abbrev pub turn_of : ℕ → ℕ → ℕ → ℕ
turn_of left c rest = cond (nat_lt 0 c && rest == 0) left (min left c)

-- In order, for the claims still to come: each takes its turn at what the ones before it left.
abbrev pub order_from : ℕ → List ℕ → List ℕ
order_from left [] = []
order_from left (c ∷ cs) = turn_of left c (sum cs) ∷ order_from (left - turn_of left c (sum cs)) cs

abbrev pub in_order : List ℕ → ℕ → List ℕ
in_order claims total = order_from total claims
