use Rattle.std.proofs.Common.{rules}
use Rattle.units.specs.Fits.{grains_if}
use Rattle.units.proofs.money.Grains.from_signed.Goals as goal

pub returns : goal.returns
unfolding grains_if
returns c = search rules
