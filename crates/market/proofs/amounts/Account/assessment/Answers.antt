use Rattle.std.proofs.Common.{◌≡◌, ◌*◌, Some, ap, ◌∙◌, arith}
use Rattle.std.proofs.lemmas.Bool.Decides.{nat_tests}
use Rattle.std.proofs.lemmas.Int.{ints}
use Rattle.units.specs.Fits.{grains}
use Rattle.units.proofs.Fitting.{grains_value}
use Rattle.market.specs.Figures.{assessed_of, assessed_at}
use Rattle.market.proofs.Paid.{held_some, not_held}
use Rattle.market.proofs.amounts.Account.assessment.Goals as goal

pub returns-in_err-deviation : goal.returns-in_err-deviation
returns-in_err-deviation c =
    let a = c.args.self in
    let price : c.if-kwh.price.micro ≡ assessed_at a.tariff a.plant.metered.kwh a.contracted.kwh = grind (arith, nat_tests) in
    let product = ap (λ n. n * c.if-kwh.price.micro) c.assessed.ensures ∙ ap (λ n. assessed_of a.plant.metered.kwh a.contracted.kwh * n) price in
    absurd (not_held c.worth.result _ c.worth.ensures (omega (arith, product, a.payable.held_back)) c.in_err-deviation.was)

pub returns-in_err-missing : goal.returns-in_err-missing
returns-in_err-missing c = absurd (not_held c.worth-2.result _ c.worth-2.ensures (omega (arith, c.args.self.payable.held_back)) c.in_err-missing.was)

pub returns : goal.returns
returns c =
    let a = c.args.self in
    let price : c.if-kwh.price.micro ≡ assessed_at a.tariff a.plant.metered.kwh a.contracted.kwh = grind (arith, nat_tests) in
    let product = ap (λ n. n * c.if-kwh.price.micro) c.assessed.ensures ∙ ap (λ n. assessed_of a.plant.metered.kwh a.contracted.kwh * n) price in
    let deviation = grains_value c.worth.result _ c.in_ok-deviation.deviation c.worth.ensures (omega (arith, product, a.payable.held_back)) c.in_ok-deviation.was in
    let missing = grains_value c.worth-2.result _ c.in_ok-missing.missing c.worth-2.ensures (omega (arith, a.payable.held_back)) c.in_ok-missing.was in
    held_some c.checked_add.result _ c.checked_add.ensures (omega (arith, ints, product, deviation, missing, a.payable.held_back))
    ∙ ap (λ z. Some (grains z)) (omega (arith, ints, product, deviation, missing))
