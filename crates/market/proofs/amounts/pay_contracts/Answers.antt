use Rattle.std.proofs.Common.{get_or, pos, Some, sym, refl, ap, ◌∙◌, arith}
use Rattle.std.proofs.lemmas.Int.{ints}
use Rattle.units.specs.declared.price.Price.{Price}
use Rattle.units.specs.Fits.{grains}
use Rattle.units.proofs.Fitting.{grains_value}
use Rattle.market.specs.Dividing.{energy}
use Rattle.market.specs.Figures.{worth_of}
use Rattle.market.proofs.Paid.{sum_at, sum_end, amounts_more, amounts_all, not_held}
use Rattle.market.proofs.amounts.pay_contracts.Goals as goal

pub returns-in_err-amount-clause-total : goal.returns-in_err-amount-clause-total
returns-in_err-amount-clause-total c =
    let t = c.args.tariff in
    let cs = c.args.contracts.now in
    let es = c.args.energies.now in
    let i = c.loop-i.i in
    let s = sum_at t cs es i (omega arith) (omega arith) in
    let price = ap (λ (p : Price). worth_of (get_or es i (energy 0)).kwh p.micro) c.contract_price.ensures in
    absurd (not_held c.worth.result _ c.worth.ensures (omega (arith, price, s, c.loop-i.invariant.0, c.requires.fits)) c.in_err-amount.was)

pub returns-in_err-amount-clause-after : goal.returns-in_err-amount-clause-after
returns-in_err-amount-clause-after c =
    let t = c.args.tariff in
    let cs = c.args.contracts.now in
    let es = c.args.energies.now in
    let i = c.loop-i.i in
    let s = sum_at t cs es i (omega arith) (omega arith) in
    let price = ap (λ (p : Price). worth_of (get_or es i (energy 0)).kwh p.micro) c.contract_price.ensures in
    absurd (not_held c.worth.result _ c.worth.ensures (omega (arith, price, s, c.loop-i.invariant.0, c.requires.fits)) c.in_err-amount.was)

pub returns-in_err-total-clause-total : goal.returns-in_err-total-clause-total
returns-in_err-total-clause-total c =
    let t = c.args.tariff in
    let cs = c.args.contracts.now in
    let es = c.args.energies.now in
    let i = c.loop-i.i in
    let s = sum_at t cs es i (omega arith) (omega arith) in
    let price = ap (λ (p : Price). worth_of (get_or es i (energy 0)).kwh p.micro) c.contract_price.ensures in
    let amount = grains_value c.worth.result _ c.in_ok-amount.amount c.worth.ensures (omega (arith, price, s, c.loop-i.invariant.0, c.requires.fits)) c.in_ok-amount.was in
    absurd (not_held c.checked_add.result _ c.checked_add.ensures (omega (arith, ints, price, s, amount, c.loop-i.invariant.0, c.loop-i.invariant.1, c.requires.fits)) c.in_err-total.was)

pub returns-in_err-total-clause-after : goal.returns-in_err-total-clause-after
returns-in_err-total-clause-after c =
    let t = c.args.tariff in
    let cs = c.args.contracts.now in
    let es = c.args.energies.now in
    let i = c.loop-i.i in
    let s = sum_at t cs es i (omega arith) (omega arith) in
    let price = ap (λ (p : Price). worth_of (get_or es i (energy 0)).kwh p.micro) c.contract_price.ensures in
    let amount = grains_value c.worth.result _ c.in_ok-amount.amount c.worth.ensures (omega (arith, price, s, c.loop-i.invariant.0, c.requires.fits)) c.in_ok-amount.was in
    absurd (not_held c.checked_add.result _ c.checked_add.ensures (omega (arith, ints, price, s, amount, c.loop-i.invariant.0, c.loop-i.invariant.1, c.requires.fits)) c.in_err-total.was)

pub loop-i-init : goal.loop-i-init
loop-i-init c = (omega arith, c.from_count-total.ensures ∙ ap pos (omega arith), refl)

pub loop-i-preserved : goal.loop-i-preserved
loop-i-preserved c =
    let t = c.args.tariff in
    let cs = c.args.contracts.now in
    let es = c.args.energies.now in
    let i = c.loop-i.i in
    let s = sum_at t cs es i (omega arith) (omega arith) in
    let price = ap (λ (p : Price). worth_of (get_or es i (energy 0)).kwh p.micro) c.contract_price.ensures in
    let amount = grains_value c.worth.result _ c.in_ok-amount.amount c.worth.ensures (omega (arith, price, s, c.loop-i.invariant.0, c.requires.fits)) c.in_ok-amount.was in
    let total = grains_value c.checked_add.result _ c.in_ok-total.total c.checked_add.ensures (omega (arith, ints, price, s, amount, c.loop-i.invariant.0, c.loop-i.invariant.1, c.requires.fits)) c.in_ok-total.was in (
      omega (arith, s, c.loop-i.invariant.0),
      omega (arith, ints, price, s, amount, total, c.loop-i.invariant.0, c.loop-i.invariant.1),
      amounts_more t cs es c.loop-i.amounts i c.in_ok-amount.amount (omega arith) (omega arith) (omega arith) (amount ∙ ap pos price) ∙ c.loop-i.invariant.2,
    )

pub returns : goal.returns
returns c =
    let t = c.args.tariff in
    let cs = c.args.contracts.now in
    let es = c.args.energies.now in
    let end = sum_end t cs es c.loop-i.i (omega arith) in
    record {
      total = ap (λ z. Some (grains z)) (c.loop-i.invariant.1 ∙ ap pos (omega (arith, end)));
      after = sym (amounts_all t cs es c.loop-i.amounts c.loop-i.i (omega arith) (omega arith)) ∙ c.loop-i.invariant.2;
    }
