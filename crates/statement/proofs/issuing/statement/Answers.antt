use Rattle.std.proofs.Common.{◌∙◌}
use Rattle.std.proofs.lemmas.Result.{IfOk-weaker}
use Rattle.statement.proofs.Wholes.{faulted, sound_load, unissued}
use Rattle.statement.proofs.issuing.statement.Goals as goal

pub issue_all-requires : goal.issue_all-requires
issue_all-requires c = unissued c.args.sheet.now _ _ c.in-Ok.ensures.loaded

pub returns-in-Ok : goal.returns-in-Ok
returns-in-Ok c = IfOk-weaker c.issue_all.result _ _ (λ s h. h ∙ sound_load c.args.sheet.now _ _ c.in_ok-book.ensures c.in-Ok.ensures.loaded) c.issue_all.ensures

pub returns : goal.returns
returns c = IfOk-weaker c.fault_line.result _ _ (λ s h. h ∙ faulted c.args.sheet.now _ _ c.in-Err.fault c.in-Err.ensures.loaded) c.fault_line.ensures
