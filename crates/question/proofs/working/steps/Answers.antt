use Rattle.std.proofs.Common.{◌++◌, vec_items, ap, ◌∙◌, sym}
use Rattle.std.proofs.lemmas.List.{append-nil}
use Rattle.std.proofs.lemmas.Slice.Zip.{either_empty_from_Zip}
use Rattle.question.specs.Workings.{steps_of}
use Rattle.question.proofs.Running.{steps_end}
use Rattle.question.proofs.working.steps.Goals as goal

pub returns : goal.returns
unfolding steps_of
returns c =
    let end = either_empty_from_Zip c.loop-claim.claim-iterator c.next.new.self c.next.result c.in-None.is c.next.ensures.steps in
    sym (append-nil _) ∙ sym (ap (λ l. vec_items c.loop-claim.steps ++ l) (steps_end c.loop-claim.sum c.loop-claim.given _ _ end)) ∙ c.loop-claim.invariant.4
