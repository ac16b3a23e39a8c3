use Rattle.std.proofs.Common.{◌≡◌, ◌+◌, ◌++◌, take, drop, sum}
use Rattle.sharing.specs.Rules.{running_floor, ratio_from}
use Rattle.sharing.proofs.equal_ratio.fill_by_ratio.Given as goal

abbrev pub invariant-loop-i : goal.invariant-loop-i
invariant-loop-i l =
    (l.so_far + sum (drop l.i l.claims) ≡ sum l.claims)
    × (l.given ≡ running_floor (sum l.claims) l.total l.so_far)
    × (take l.i l.parts ++ ratio_from (sum l.claims) l.total l.so_far (drop l.i l.claims) ≡ ratio_from (sum l.claims) l.total 0 l.claims)
