use Rattle.std.proofs.Common.{nat_abs, ap, arith}
use Rattle.units.specs.Fees.{fee_of}
use Rattle.units.proofs.Fitting.{grains_held, grains_value}
use Rattle.book.proofs.Figured.{fee_bound}
use Rattle.book.proofs.book.checks.transfer_fee.Goals as goal

pub unwrap-requires : goal.unwrap-requires
unwrap-requires c =
    let bound = fee_bound c.args.energy.kwh c.args.contract.micro c.args.transfer.micro c.requires.energy c.requires.contract c.requires.transfer in
    grains_held c.fee.result (fee_of c.args.energy.kwh c.args.contract.micro c.args.transfer.micro) c.fee.ensures (omega (arith, bound))

pub returns : goal.returns
returns c =
    let bound = fee_bound c.args.energy.kwh c.args.contract.micro c.args.transfer.micro c.requires.energy c.requires.contract c.requires.transfer in
    let value = grains_value c.fee.result (fee_of c.args.energy.kwh c.args.contract.micro c.args.transfer.micro) c.unwrap.result c.fee.ensures (omega (arith, bound)) c.unwrap.ensures in
    record { value = value; bound = omega (arith, ap nat_abs value, bound) }
