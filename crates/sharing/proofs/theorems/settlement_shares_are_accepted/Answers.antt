use Rattle.sharing.specs.Asked.{rank_accepted, compensation_accepted}
use Rattle.sharing.proofs.theorems.settlement_shares_are_accepted.Goals as goal

pub returns : goal.returns
returns c = record { rank = rank_accepted; compensation = compensation_accepted }
