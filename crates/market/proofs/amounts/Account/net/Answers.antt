use Rattle.std.proofs.Common.{Some, ap, ◌∙◌, arith}
use Rattle.std.proofs.lemmas.Int.{ints}
use Rattle.units.specs.Fits.{grains}
use Rattle.units.proofs.Fitting.{grains_value}
use Rattle.market.proofs.Paid.{held_some, not_held, count_is}
use Rattle.market.proofs.amounts.Account.net.Goals as goal

pub returns-in_err-commissioning : goal.returns-in_err-commissioning
returns-in_err-commissioning c =
    absurd (not_held c.worth.result _ c.worth.ensures (omega (arith, c.args.self.payable.commissioned)) c.in_err-commissioning.was)

pub returns-in_err-over_generation : goal.returns-in_err-over_generation
returns-in_err-over_generation c =
    absurd (not_held c.worth-2.result _ c.worth-2.ensures (omega (arith, c.args.self.payable.generated)) c.in_err-over_generation.was)

pub returns-in_err-checked_add : goal.returns-in_err-checked_add
returns-in_err-checked_add c =
    let a = c.args.self.payable in
    let one = grains_value c.worth.result _ c.in_ok-commissioning.commissioning c.worth.ensures (omega (arith, a.commissioned)) c.in_ok-commissioning.was in
    absurd (not_held c.checked_add.result _ c.checked_add.ensures (omega (arith, ints, a.sold, a.commissioned, one)) c.in_err-checked_add.was)

pub returns-in_err-energy_amounts : goal.returns-in_err-energy_amounts
returns-in_err-energy_amounts c =
    let a = c.args.self.payable in
    let one = grains_value c.worth.result _ c.in_ok-commissioning.commissioning c.worth.ensures (omega (arith, a.commissioned)) c.in_ok-commissioning.was in
    let two = grains_value c.worth-2.result _ c.in_ok-over_generation.over_generation c.worth-2.ensures (omega (arith, a.generated)) c.in_ok-over_generation.was in
    let three = grains_value c.checked_add.result _ c.in_ok-checked_add.field-0 c.checked_add.ensures (omega (arith, ints, a.sold, a.commissioned, one)) c.in_ok-checked_add.was in
    absurd (not_held c.checked_add-2.result _ c.checked_add-2.ensures (omega (arith, ints, a.sold, a.commissioned, a.generated, one, two, three)) c.in_err-energy_amounts.was)

pub returns-in_err-net : goal.returns-in_err-net
returns-in_err-net c =
    let a = c.args.self.payable in
    let one = grains_value c.worth.result _ c.in_ok-commissioning.commissioning c.worth.ensures (omega (arith, a.commissioned)) c.in_ok-commissioning.was in
    let two = grains_value c.worth-2.result _ c.in_ok-over_generation.over_generation c.worth-2.ensures (omega (arith, a.generated)) c.in_ok-over_generation.was in
    let three = grains_value c.checked_add.result _ c.in_ok-checked_add.field-0 c.checked_add.ensures (omega (arith, ints, a.sold, a.commissioned, one)) c.in_ok-checked_add.was in
    let four = grains_value c.checked_add-2.result _ c.in_ok-energy_amounts.energy_amounts c.checked_add-2.ensures (omega (arith, ints, a.sold, a.commissioned, a.generated, one, two, three)) c.in_ok-energy_amounts.was in
    let held = count_is c.assessment.result _ c.in_ok-held_back.held_back c.assessment.ensures c.in_ok-held_back.was in
    absurd (not_held c.checked_sub.result _ c.checked_sub.ensures (omega (arith, ints, a.sold, a.commissioned, a.generated, a.held_back, one, two, three, four, held)) c.in_err-net.was)

pub returns : goal.returns
returns c =
    let a = c.args.self.payable in
    let one = grains_value c.worth.result _ c.in_ok-commissioning.commissioning c.worth.ensures (omega (arith, a.commissioned)) c.in_ok-commissioning.was in
    let two = grains_value c.worth-2.result _ c.in_ok-over_generation.over_generation c.worth-2.ensures (omega (arith, a.generated)) c.in_ok-over_generation.was in
    let three = grains_value c.checked_add.result _ c.in_ok-checked_add.field-0 c.checked_add.ensures (omega (arith, ints, a.sold, a.commissioned, one)) c.in_ok-checked_add.was in
    let four = grains_value c.checked_add-2.result _ c.in_ok-energy_amounts.energy_amounts c.checked_add-2.ensures (omega (arith, ints, a.sold, a.commissioned, a.generated, one, two, three)) c.in_ok-energy_amounts.was in
    let held = count_is c.assessment.result _ c.in_ok-held_back.held_back c.assessment.ensures c.in_ok-held_back.was in
    let five = grains_value c.checked_sub.result _ c.in_ok-net.net c.checked_sub.ensures (omega (arith, ints, a.sold, a.commissioned, a.generated, a.held_back, one, two, three, four, held)) c.in_ok-net.was in
    held_some c.checked_add-3.result _ c.checked_add-3.ensures (omega (arith, ints, a.sold, a.commissioned, a.generated, a.held_back, a.side, one, two, three, four, held, five))
    ∙ ap (λ z. Some (grains z)) (omega (arith, ints, one, two, three, four, held, five))
