use Rattle.std.proofs.Common.{◌≡◌, ◌+◌, ◌-◌, ◌++◌, take, drop, sum}
use Rattle.market.specs.Dividing.{energies, kwhs}
use Rattle.market.proofs.Filling.{taken}
use Rattle.market.proofs.division.fill.Given as goal

abbrev pub invariant-loop-i : goal.invariant-loop-i
invariant-loop-i l =
    (l.left - sum (kwhs (drop l.i l.claims)) ≡ l.initial.left - sum (kwhs l.claims))
    × (l.missing + (sum (kwhs (drop l.i l.claims)) - l.left) ≡ sum (kwhs l.claims) - l.initial.left)
    × (take l.i l.parts ++ energies (taken l.left (kwhs (drop l.i l.claims))) ≡ energies (taken l.initial.left (kwhs l.claims)))
