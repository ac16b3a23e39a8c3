use Rattle.std.proofs.Common.{rules}
use Rattle.units.specs.Fits.{hundredths_if}
use Rattle.units.proofs.energy.Hundredths.from_wide.Goals as goal

pub returns : goal.returns
unfolding hundredths_if
returns c = search rules
