use Rattle.std.proofs.Common.{◌≡◌, ◌++◌, take, drop, sum}
use Rattle.sharing.specs.Rules.{order_from}
use Rattle.sharing.proofs.in_order.fill_in_order.Given as goal

abbrev pub invariant-loop-i : goal.invariant-loop-i
invariant-loop-i l =
    (l.rest ≡ sum (drop l.i l.claims))
    × (take l.i l.parts ++ order_from l.left (drop l.i l.claims) ≡ order_from l.total l.claims)
