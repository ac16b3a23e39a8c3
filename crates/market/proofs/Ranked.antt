-- Parts dealt to contracts, rank by rank. Assumes nothing.
use Rattle.std.proofs.Common.{◌≡◌, ℕ, zero, suc, ◌+◌, ◌<◌, ◌≤◌, true, false, not, eqb, List, [], ◌∷◌, map, length, get_or, drop, sum, sym, refl, ap, ◌∙◌, ⊎_elim, arith}
use Rattle.std.proofs.lemmas.List.{length-drop, nil_from_length}
use Rattle.std.proofs.lemmas.Bool.{cases_Bool, cond-true, cond-false, both_ways, or_parts, not-false, eqb-true, eq-eqb}
use Rattle.units.specs.declared.energy.Energy.{Energy}
use Rattle.units.specs.declared.price.Price.{Price}
use Rattle.market.specs.declared.figures.Contract.{Contract}
use Rattle.market.specs.declared.kinds.Class.{Class}
use Rattle.market.specs.declared.kinds.Rank.{Rank}
use Rattle.market.specs.declared.kinds.Rank.TheVariants.{InterProvincePriority, InterProvinceMarket, Commissioning, Retained, Aluminium, InProvincePriority, InProvinceMarket}
use Rattle.market.specs.Admitting.{any_not_held}
use Rattle.market.specs.Dealing.{laid_all}
use Rattle.market.specs.Dividing.{energy, kwhs}
use Rattle.market.specs.Figures.{claims_of, after_one, dealt}
use Rattle.market.specs.Kinds.{rank_number, may_hold}
use Rattle.market.specs.Laws.{beside_rank}
use Rattle.market.proofs.Filling.{sum_cons}

abbrev contract : Rank → Energy → Price → Contract
contract r x p = record { rank = r; energy = x; price = p }

holds_first : (class : Class) (c : Contract) (cs : List Contract) → any_not_held class (c ∷ cs) ≡ false → may_hold class c.rank ≡ true
holds_first class c cs h = not-false _ (or_parts (not (may_hold class c.rank)) (any_not_held class cs) h).0

holds_rest : (class : Class) (c : Contract) (cs : List Contract) → any_not_held class (c ∷ cs) ≡ false → any_not_held class cs ≡ false
holds_rest class c cs h = (or_parts (not (may_hold class c.rank)) (any_not_held class cs) h).1

-- no class holds commissioning energy
not_commissioning : (class : Class) (r : Rank) → may_hold class r ≡ true → r ≡ Commissioning → ⊥
not_commissioning class r h e = both_ways (may_hold class r) (ap (may_hold class) e) h

-- the parts laid out rank by rank are dealt to the contracts one by one
deal_one : (class : Class) (r : Rank) (x : Energy) (p : Price) (parts : ℕ → List ℕ) (cs : List Contract) (e : Energy) (es : List Energy) → may_hold class r ≡ true → laid_all (after_one (rank_number r) parts) cs es ≡ dealt (after_one (rank_number r) parts) cs → laid_all parts (contract r x p ∷ cs) (e ∷ es) ≡ dealt parts (contract r x p ∷ cs)
deal_one class InterProvincePriority x p parts cs e es h ih = ap (λ l. energy (get_or (parts 1) 0 0) ∷ l) ih
deal_one class InterProvinceMarket x p parts cs e es h ih = ap (λ l. energy (get_or (parts 2) 0 0) ∷ l) ih
deal_one class Commissioning x p parts cs e es h ih = absurd (both_ways false refl h)
deal_one class Retained x p parts cs e es h ih = ap (λ l. energy (get_or (parts 4) 0 0) ∷ l) ih
deal_one class Aluminium x p parts cs e es h ih = ap (λ l. energy (get_or (parts 5) 0 0) ∷ l) ih
deal_one class InProvincePriority x p parts cs e es h ih = ap (λ l. energy (get_or (parts 6) 0 0) ∷ l) ih
deal_one class InProvinceMarket x p parts cs e es h ih = ap (λ l. energy (get_or (parts 7) 0 0) ∷ l) ih

pub laid_dealt : (class : Class) (parts : ℕ → List ℕ) (cs : List Contract) (es : List Energy) → any_not_held class cs ≡ false → length es ≡ length cs → laid_all parts cs es ≡ dealt parts cs
laid_dealt class parts [] es h e = refl
laid_dealt class parts (c ∷ cs) [] h e = absurd (omega arith)
laid_dealt class parts (c ∷ cs) (x ∷ es) h e =
    deal_one class c.rank c.energy c.price parts cs x es (holds_first class c cs h)
    (laid_dealt class (after_one (rank_number c.rank) parts) cs es (holds_rest class c cs h) (omega arith))

pub dealt_long : (parts : ℕ → List ℕ) (cs : List Contract) → length (kwhs (dealt parts cs)) ≡ length cs
dealt_long parts [] = refl
dealt_long parts (c ∷ cs) = ap suc (dealt_long (after_one (rank_number c.rank) parts) cs)

whole_again : (xs : List ℕ) → 0 < length xs → get_or xs 0 0 ∷ drop 1 xs ≡ xs
whole_again [] h = absurd (omega arith)
whole_again (x ∷ xs) h = refl

-- what stands beside the contracts of a rank is that rank's parts
pub beside_dealt : (n : ℕ) (parts : ℕ → List ℕ) (cs : List Contract) → length (parts n) ≡ length (claims_of n cs) → beside_rank n cs (kwhs (dealt parts cs)) ≡ parts n
beside_dealt n parts [] long = sym (nil_from_length (parts n) long)
beside_dealt n parts (c ∷ cs) long =
    let r = rank_number c.rank in
    let rest = kwhs (dealt (after_one r parts) cs) in
    ⊎_elim
    (λ yes.
    let after : after_one r parts n ≡ drop 1 (parts n) = cond-true (eqb r n) (drop 1 (parts n)) (parts n) yes in
    let claims : length (parts n) ≡ suc (length (claims_of n cs)) = long ∙ ap length (cond-true (eqb r n) (c.energy.kwh ∷ claims_of n cs) (claims_of n cs) yes) in
    let short : length (after_one r parts n) ≡ length (claims_of n cs) = ap length after ∙ length-drop 1 (parts n) ∙ omega arith in
    cond-true (eqb r n) (get_or (parts r) 0 0 ∷ beside_rank n cs rest) (beside_rank n cs rest) yes
    ∙ ap (λ k. get_or (parts k) 0 0 ∷ beside_rank n cs rest) (eqb-true r n yes)
    ∙ ap (λ l. get_or (parts n) 0 0 ∷ l) (beside_dealt n (after_one r parts) cs short ∙ after)
    ∙ whole_again (parts n) (omega arith))
    (λ other.
    let after : after_one r parts n ≡ parts n = cond-false (eqb r n) (drop 1 (parts n)) (parts n) other in
    let claims : length (parts n) ≡ length (claims_of n cs) = long ∙ ap length (cond-false (eqb r n) (c.energy.kwh ∷ claims_of n cs) (claims_of n cs) other) in
    cond-false (eqb r n) (get_or (parts r) 0 0 ∷ beside_rank n cs rest) (beside_rank n cs rest) other
    ∙ beside_dealt n (after_one r parts) cs (ap length after ∙ claims) ∙ after)
    (cases_Bool (eqb r n))

-- parts within the claims of their ranks
abbrev pub Within : (ℕ → List ℕ) → List Contract → Type 0
Within parts cs =
    (r : Rank) → (r ≡ Commissioning → ⊥) → (i : ℕ) → get_or (parts (rank_number r)) i 0 ≤ get_or (claims_of (rank_number r) cs) i 0

first_within : (parts : ℕ → List ℕ) (c : Contract) (cs : List Contract) → Within parts (c ∷ cs) → (c.rank ≡ Commissioning → ⊥) → get_or (parts (rank_number c.rank)) 0 0 ≤ c.energy.kwh
first_within parts c cs h apart =
    let n = rank_number c.rank in
    let same = ap (λ l. get_or l 0 0) (cond-true (eqb n n) (c.energy.kwh ∷ claims_of n cs) (claims_of n cs) (eq-eqb n n refl)) in
    omega (arith, h c.rank apart 0, same)

second : (xs : List ℕ) (i : ℕ) → get_or (drop 1 xs) i 0 ≡ get_or xs (suc i) 0
second [] i = refl
second (x ∷ xs) i = refl

rest_within : (parts : ℕ → List ℕ) (c : Contract) (cs : List Contract) → Within parts (c ∷ cs) → Within (after_one (rank_number c.rank) parts) cs
rest_within parts c cs h r apart i =
    let k = rank_number c.rank in
    let n = rank_number r in
    ⊎_elim
    (λ yes.
    let after = ap (λ l. get_or l i 0) (cond-true (eqb k n) (drop 1 (parts n)) (parts n) yes) in
    let claims = ap (λ l. get_or l (suc i) 0) (cond-true (eqb k n) (c.energy.kwh ∷ claims_of n cs) (claims_of n cs) yes) in
    omega (arith, after, claims, second (parts n) i, h r apart (suc i)))
    (λ other.
    let after = ap (λ l. get_or l i 0) (cond-false (eqb k n) (drop 1 (parts n)) (parts n) other) in
    let claims = ap (λ l. get_or l i 0) (cond-false (eqb k n) (c.energy.kwh ∷ claims_of n cs) (claims_of n cs) other) in
    omega (arith, after, claims, h r apart i))
    (cases_Bool (eqb k n))

pub dealt_within : (class : Class) (parts : ℕ → List ℕ) (cs : List Contract) → any_not_held class cs ≡ false → Within parts cs → (i : ℕ) → get_or (kwhs (dealt parts cs)) i 0 ≤ get_or (map (λ (c : Contract). c.energy.kwh) cs) i 0
dealt_within class parts [] held h i = omega arith
dealt_within class parts (c ∷ cs) held h zero =
    first_within parts c cs h (not_commissioning class c.rank (holds_first class c cs held))
dealt_within class parts (c ∷ cs) held h (suc i) =
    dealt_within class (after_one (rank_number c.rank) parts) cs (holds_rest class c cs held) (rest_within parts c cs h) i

-- numbers beside contracts add up to the sums of the ranks
abbrev sums : List Contract → List ℕ → ℕ
sums cs xs =
    sum (beside_rank 1 cs xs) + sum (beside_rank 2 cs xs) + sum (beside_rank 4 cs xs) + sum (beside_rank 5 cs xs) + sum (beside_rank 6 cs xs) + sum (beside_rank 7 cs xs)

sums_one : (class : Class) (r : Rank) (e : Energy) (p : Price) (cs : List Contract) (x : ℕ) (xs : List ℕ) → may_hold class r ≡ true → sums (contract r e p ∷ cs) (x ∷ xs) ≡ x + sums cs xs
sums_one class InterProvincePriority e p cs x xs h = omega (arith, sum_cons x (beside_rank 1 cs xs))
sums_one class InterProvinceMarket e p cs x xs h = omega (arith, sum_cons x (beside_rank 2 cs xs))
sums_one class Commissioning e p cs x xs h = absurd (both_ways false refl h)
sums_one class Retained e p cs x xs h = omega (arith, sum_cons x (beside_rank 4 cs xs))
sums_one class Aluminium e p cs x xs h = omega (arith, sum_cons x (beside_rank 5 cs xs))
sums_one class InProvincePriority e p cs x xs h = omega (arith, sum_cons x (beside_rank 6 cs xs))
sums_one class InProvinceMarket e p cs x xs h = omega (arith, sum_cons x (beside_rank 7 cs xs))

pub sum_by_rank : (class : Class) (cs : List Contract) (xs : List ℕ) → any_not_held class cs ≡ false → length xs ≡ length cs → sum xs ≡ sums cs xs
sum_by_rank class [] [] held e = refl
sum_by_rank class [] (x ∷ xs) held e = absurd (omega arith)
sum_by_rank class (c ∷ cs) [] held e = absurd (omega arith)
sum_by_rank class (c ∷ cs) (x ∷ xs) held e =
    sum_cons x xs ∙ ap (λ n. x + n) (sum_by_rank class cs xs (holds_rest class c cs held) (omega arith))
    ∙ sym (sums_one class c.rank c.energy c.price cs x xs (holds_first class c cs held))
