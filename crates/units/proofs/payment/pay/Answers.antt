use Rattle.std.proofs.Common.{rules}
use Rattle.units.specs.Fits.{grains_if}
use Rattle.units.specs.Payments.{payment_if}
use Rattle.units.proofs.Paying.{sums_fit, split_paid}
use Rattle.units.proofs.payment.pay.Goals as goal

pub returns-in_err-due-clause-value : goal.returns-in_err-due-clause-value
unfolding grains_if payment_if
returns-in_err-due-clause-value c = search rules

pub returns-in_err-due-clause-fits : goal.returns-in_err-due-clause-fits
unfolding grains_if
returns-in_err-due-clause-fits c = search (rules, sums_fit)

pub returns-clause-value : goal.returns-clause-value
unfolding grains_if payment_if
returns-clause-value c = search rules

pub returns-clause-paid : goal.returns-clause-paid
unfolding grains_if
returns-clause-paid c =
    let paid = split_paid c.args.net.count c.args.carry.count in search rules
