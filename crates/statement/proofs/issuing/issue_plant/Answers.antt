use Rattle.std.proofs.Common.{is_some, ap, ◌∙◌}
use Rattle.book.specs.declared.call.Call.TheVariants.{Issue}
use Rattle.book.specs.Calls.{answer_by, said}
use Rattle.book.specs.Holds.{ledger_of}
use Rattle.book.proofs.Props.{sound_of}
use Rattle.statement.proofs.Metered.{can_issue, paid_ok}
use Rattle.statement.proofs.issuing.issue_plant.Goals as goal

pub unwrap-requires : goal.unwrap-requires
unwrap-requires g c =
    let b = c.args.book.now in
    let f = ledger_of g.R.Share.shares b in
    let p = c.args.plant in
    let can = can_issue f p (sound_of f b.sound) (ap is_some c.requires.reading) c.requires.unissued in
    paid_ok c.issue.result _ (c.issue.ensures.said ∙ ap (λ w. answer_by w (said f (Issue p))) can)
