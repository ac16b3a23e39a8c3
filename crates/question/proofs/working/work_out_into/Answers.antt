use Rattle.std.proofs.Common.{◌≡◌, List, ℕ, length, Ok, vec_items, sym, ap, ◌∙◌, subst}
use Rattle.sharing.specs.Questions.{Shared}
use Rattle.question.specs.Asking.{asking}
use Rattle.question.specs.Naming.{shares_by}
use Rattle.question.specs.Workings.{steps_of}
use Rattle.question.proofs.Running.{worked}
use Rattle.question.proofs.working.work_out_into.Goals as goal

pub returns : goal.returns
returns c =
    let q = asking c.args.question.now in
    let old = c.args.parts.now in
    let parts = c.share.new.parts in
    let x = c.in_ok-share.field-0 in
    let is = c.as_slice-claims.ensures.value in
    let S : List ℕ → Type 0 = λ cs. Shared (shares_by q.rule) cs q.total old parts (Ok x) in
    let long : length old ≡ length q.claims = c.requires ∙ sym c.as_slice-claims.ensures.len ∙ ap length is in
    worked q old parts (vec_items c.in_ok-steps.field-0) x long (subst S is c.in_ok-share.ensures) (c.in_ok-steps.ensures ∙ ap (λ cs. steps_of cs parts) is)
