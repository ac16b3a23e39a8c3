use Rattle.market.proofs.Examples.{table_holds}
use Rattle.market.proofs.theorems.examples_hold.Goals as goal

pub returns : goal.returns
returns c = table_holds
