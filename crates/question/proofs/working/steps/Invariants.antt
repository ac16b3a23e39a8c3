use Rattle.std.proofs.Common.{◌≡◌, ◌+◌, ◌++◌, vec_items, sum}
use Rattle.std.specs.Iterator.Adapters.{zip_first, zip_second}
use Rattle.std.specs.Slice.Iter.{iter_rest}
use Rattle.question.specs.Workings.{steps_after}
use Rattle.question.proofs.working.steps.Given as goal

abbrev pub invariant-loop-claim : goal.invariant-loop-claim
invariant-loop-claim l =
    (goal.iterator-loop-claim).can_next l.claim-iterator
    × (goal.iterator-loop-claim).is_finite l.claim-iterator
    × (l.sum + sum (iter_rest (zip_first l.claim-iterator)) ≡ sum l.claims)
    × (l.given + sum (iter_rest (zip_second l.claim-iterator)) ≡ sum l.parts)
    × (vec_items l.steps ++ steps_after l.sum l.given (iter_rest (zip_first l.claim-iterator)) (iter_rest (zip_second l.claim-iterator)) ≡ steps_after 0 0 l.claims l.parts)
