use Rattle.std.proofs.Common.{◌≡◌, ◌++◌, length, take, drop}
use Rattle.market.specs.Dealing.{laid}
use Rattle.market.specs.Figures.{claims_of}
use Rattle.market.specs.Kinds.{rank_number}
use Rattle.market.proofs.ranks.lay_out.Given as goal

abbrev pub invariant-loop-i : goal.invariant-loop-i
invariant-loop-i l =
    (length l.parts.rest.now ≡ length (claims_of (rank_number l.rank) (drop l.i l.contracts)))
    × (drop l.i l.energies ≡ drop l.i l.initial.energies)
    × (take l.i l.energies ++ laid (rank_number l.rank) (drop l.i l.contracts) l.parts.rest.now (drop l.i l.initial.energies) ≡ laid (rank_number l.rank) l.contracts l.initial.parts.rest.now l.initial.energies)
