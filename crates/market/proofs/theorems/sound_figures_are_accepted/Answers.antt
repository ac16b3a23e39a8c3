use Rattle.market.proofs.Admitted.{accepted}
use Rattle.market.proofs.theorems.sound_figures_are_accepted.Goals as goal

pub returns : goal.returns
returns c = accepted
