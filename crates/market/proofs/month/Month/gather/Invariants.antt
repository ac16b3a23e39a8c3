use Rattle.std.proofs.Common.{◌≡◌, ◌≤◌, ◌++◌, length, drop}
use Rattle.market.specs.Figures.{claims_of}
use Rattle.market.specs.Kinds.{rank_number}
use Rattle.market.proofs.month.Month.gather.Given as goal

abbrev pub invariant-loop-contract : goal.invariant-loop-contract
invariant-loop-contract l =
    (length l.claims.items ≤ l.contract-index)
    × (l.claims.items ++ claims_of (rank_number l.rank) (drop l.contract-index l.contract-items) ≡ claims_of (rank_number l.rank) l.contract-items)
