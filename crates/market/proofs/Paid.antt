-- Amounts over contracts, one by one. Assumes nothing.
use Rattle.std.proofs.Common.{◌≡◌, ℕ, ◌+◌, ◌<◌, ◌≤◌, List, ◌∷◌, ◌++◌, length, get_or, take, drop, set, false, ℤ, pos, nat_abs, is_some, Some, None, Option, sym, refl, ap, ◌∙◌}
use Rattle.std.proofs.lemmas.List.{drop_more, drop_all}
use Rattle.units.specs.declared.energy.Energy.{Energy}
use Rattle.units.specs.declared.money.Grains.{Grains}
use Rattle.std.proofs.lemmas.Bool.{both_ways}
use Rattle.units.specs.Fits.{grains, grains_if}
use Rattle.units.proofs.Fitting.{grains_held, grains_value}
use Rattle.market.specs.declared.figures.Contract.{Contract}
use Rattle.market.specs.declared.tariff.Tariff.{Tariff}
use Rattle.market.specs.Dividing.{energy}
use Rattle.market.specs.Figures.{amount_of, amounts_of, amount_sum}
use Rattle.market.proofs.Admitted.{blank}
use Rattle.market.proofs.Filling.{places_more, places_all}

-- grains that fit are there
pub held_some : (o : Option Grains) (z : ℤ) → o ≡ grains_if z → nat_abs z ≤ 9000000000000000000 → o ≡ Some (grains z)
held_some None z e h = absurd (both_ways false refl (grains_held None z e h))
held_some (Some g) z e h = ap (λ n. Some (grains n)) (grains_value (Some g) z g e h refl)

pub not_held : (o : Option Grains) (z : ℤ) → o ≡ grains_if z → nat_abs z ≤ 9000000000000000000 → o ≡ None → ⊥
not_held o z e h n = both_ways false refl (ap is_some (sym n) ∙ grains_held o z e h)

pub count_is : (o : Option Grains) (z : ℤ) (g : Grains) → o ≡ Some (grains z) → o ≡ Some g → g.count ≡ z
count_is o z g e is =
    let same : Some g ≡ Some (grains z) = sym is ∙ e in
    let inside : g ≡ grains z = cc in
    ap (λ (x : Grains). x.count) inside

pub sum_at : (t : Tariff) (cs : List Contract) (es : List Energy) (i : ℕ) → i < length cs → i < length es → amount_sum t (drop i cs) (drop i es) ≡ amount_of t (get_or cs i blank) (get_or es i (energy 0)) + amount_sum t (drop (i + 1) cs) (drop (i + 1) es)
sum_at t cs es i h k =
    ap (λ l. amount_sum t l (drop i es)) (drop_more cs i blank h) ∙ ap (λ l. amount_sum t (get_or cs i blank ∷ drop (i + 1) cs) l) (drop_more es i (energy 0) k)

pub sum_end : (t : Tariff) (cs : List Contract) (es : List Energy) (i : ℕ) → length cs ≤ i → amount_sum t (drop i cs) (drop i es) ≡ 0
sum_end t cs es i h = ap (λ l. amount_sum t l (drop i es)) (drop_all i cs h)

amounts_at : (t : Tariff) (cs : List Contract) (es : List Energy) (i : ℕ) → i < length cs → i < length es → amounts_of t (drop i cs) (drop i es) ≡ grains (pos (amount_of t (get_or cs i blank) (get_or es i (energy 0)))) ∷ amounts_of t (drop (i + 1) cs) (drop (i + 1) es)
amounts_at t cs es i h k =
    ap (λ l. amounts_of t l (drop i es)) (drop_more cs i blank h) ∙ ap (λ l. amounts_of t (get_or cs i blank ∷ drop (i + 1) cs) l) (drop_more es i (energy 0) k)

pub amounts_more : (t : Tariff) (cs : List Contract) (es : List Energy) (out : List Grains) (i : ℕ) (v : Grains) → i < length cs → i < length es → i < length out → v.count ≡ pos (amount_of t (get_or cs i blank) (get_or es i (energy 0))) → take (i + 1) (set out i v) ++ amounts_of t (drop (i + 1) cs) (drop (i + 1) es) ≡ take i out ++ amounts_of t (drop i cs) (drop i es)
amounts_more t cs es out i v h k o is =
    places_more out i v (amounts_of t (drop (i + 1) cs) (drop (i + 1) es)) o
    ∙ ap (λ z. take i out ++ (grains z ∷ amounts_of t (drop (i + 1) cs) (drop (i + 1) es))) is
    ∙ ap (λ l. take i out ++ l) (sym (amounts_at t cs es i h k))

pub amounts_all : (t : Tariff) (cs : List Contract) (es : List Energy) (out : List Grains) (i : ℕ) → length cs ≤ i → length out ≤ i → take i out ++ amounts_of t (drop i cs) (drop i es) ≡ out
amounts_all t cs es out i h k = ap (λ l. take i out ++ amounts_of t l (drop i es)) (drop_all i cs h) ∙ places_all out i k
