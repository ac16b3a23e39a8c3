-- Figures that are not declined. Assumes nothing.
use Rattle.std.proofs.Common.{◌≡◌, ℕ, ◌+◌, ◌*◌, ◌≤◌, false, ltb, List, [], ◌∷◌, length, sum_by, None, sym, refl, ap, ◌∙◌, arith}
use Rattle.std.specs.List.{AllByRecursion}
use Rattle.std.proofs.lemmas.List.Sums.{sum_by-cons}
use Rattle.std.proofs.lemmas.Bool.{ltb-false, le-ltb, or_from, or_parts}
use Rattle.std.proofs.lemmas.Bool.Decides.{nat_tests}
use Rattle.market.specs.declared.figures.Contract.{Contract}
use Rattle.market.specs.declared.figures.PlantFigures.{PlantFigures}
use Rattle.market.specs.declared.kinds.Rank.TheVariants.{InterProvincePriority}
use Rattle.market.specs.Admitting.{plant_past, contract_past, any_past, settle_declined, Sound, SoundAccepted}
use Rattle.market.specs.Dividing.{energy}
use Rattle.market.specs.Figures.{contracted}
use Rattle.market.specs.Prices.{micro}

-- what stands past the end of a list of contracts
abbrev pub blank : Contract
blank = record { rank = InterProvincePriority; energy = energy 0; price = micro 0 }

-- the energy of all contracts, as the library adds it up
pub contracted_is : (cs : List Contract) → contracted cs ≡ sum_by (λ (c : Contract). c.energy.kwh) cs
contracted_is [] = refl
contracted_is (c ∷ cs) = ap (λ n. c.energy.kwh + n) (contracted_is cs) ∙ sym (sum_by-cons (λ (x : Contract). x.energy.kwh) c cs)

pub contracted_under : (cs : List Contract) → any_past cs ≡ false → contracted cs ≤ length cs * 3000000000
contracted_under [] h = omega arith
contracted_under (c ∷ cs) h =
    let parts = or_parts (contract_past c) (any_past cs) h in
    let low = ltb-false 3000000000 c.energy.kwh (or_parts (ltb 3000000000 c.energy.kwh) _ parts.0).0 in
    omega (arith, contracted_under cs parts.1)

prices_under : (cs : List Contract) → any_past cs ≡ false → AllByRecursion (λ (c : Contract). c.price.micro ≤ 1000000) cs
prices_under [] h = tt
prices_under (c ∷ cs) h =
    let parts = or_parts (contract_past c) (any_past cs) h in (
      ltb-false 1000000 c.price.micro (or_parts (ltb 3000000000 c.energy.kwh) _ parts.0).1,
      prices_under cs parts.1,
    )

-- figures that are not declined are sound, and the slices are as long as the contracts
pub admitted : (p : PlantFigures) (cs : List Contract) (n m : ℕ) → settle_declined p cs n m ≡ None → Sound p cs × (n ≡ length cs) × (m ≡ length cs)
unfolding settle_declined plant_past
admitted p cs n m h =
    let past : any_past cs ≡ false = grind (arith, nat_tests) in (
      record {
        metered = grind (arith, nat_tests);
        commissioning = grind (arith, nat_tests);
        residential = grind (arith, nat_tests);
        approved = grind (arith, nat_tests);
        side = grind (arith, nat_tests);
        prices = prices_under cs past;
        held = grind (arith, nat_tests);
        few = grind (arith, nat_tests);
        whole = grind (arith, nat_tests);
      },
      grind (arith, nat_tests),
      grind (arith, nat_tests),
    )

none_past : (cs : List Contract) → AllByRecursion (λ (c : Contract). c.price.micro ≤ 1000000) cs → contracted cs ≤ 3000000000 → any_past cs ≡ false
none_past [] h k = refl
none_past (c ∷ cs) h k =
    or_from _ _ (or_from _ _ (le-ltb 3000000000 c.energy.kwh (omega arith)) (le-ltb 1000000 c.price.micro h.0)) (none_past cs h.1 (omega arith))

-- and the other way round
pub accepted : SoundAccepted
unfolding settle_declined plant_past
accepted p cs n m sound e k =
    let past : any_past cs ≡ false = none_past cs sound.prices sound.whole in
    let held = sound.held in
    let metered = sound.metered in
    let commissioning = sound.commissioning in
    let residential = sound.residential in
    let approved = sound.approved in
    let side = sound.side in
    let few = sound.few in
    let whole = sound.whole in
    grind (arith, nat_tests)
