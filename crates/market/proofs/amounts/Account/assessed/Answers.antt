use Rattle.std.proofs.Common.{◌*◌, arith}
use Rattle.units.proofs.Fitting.{hundredths_held, hundredths_value}
use Rattle.market.proofs.amounts.Account.assessed.Goals as goal

pub unwrap-hundredths-requires : goal.unwrap-hundredths-requires
unwrap-hundredths-requires c =
    hundredths_held c.hundredths.result (c.from_kwh-deviation.result.kwh * 100) c.hundredths.ensures (omega (arith, c.args.self.payable.metered, c.args.self.payable.contracted))

pub returns : goal.returns
returns c =
    let fits = hundredths_value c.hundredths.result (c.from_kwh-deviation.result.kwh * 100) c.unwrap-hundredths.result c.hundredths.ensures (omega (arith, c.args.self.payable.metered, c.args.self.payable.contracted)) c.unwrap-hundredths.ensures in
    omega (arith, fits)
