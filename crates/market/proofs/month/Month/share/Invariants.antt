use Rattle.std.proofs.Common.{◌≡◌, ◌-◌, get_or, drop}
use Rattle.market.specs.Dealing.{laid_ranks}
use Rattle.market.specs.Dividing.{kwhs}
use Rattle.market.specs.Figures.{claims_of}
use Rattle.market.proofs.month.Month.share.Given as goal

abbrev pub invariant-loop-rank : goal.invariant-loop-rank
invariant-loop-rank g l =
    laid_ranks (λ n. g.R.Share.shares l.rule (claims_of n l.self.contracts.now) (get_or (kwhs l.settled) (n - 1) 0)) l.self.contracts.now (drop l.rank-index l.rank-items) l.energies
    ≡ laid_ranks (λ n. g.R.Share.shares l.rule (claims_of n l.self.contracts.now) (get_or (kwhs l.settled) (n - 1) 0)) l.self.contracts.now l.rank-items l.initial.energies
