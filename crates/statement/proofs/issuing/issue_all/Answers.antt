use Rattle.std.proofs.Common.{◌≡◌, ◌+◌, ◌-◌, ◌++◌, Some, None, string_bytes, sym, ap, ◌∙◌, subst, arith}
use Rattle.book.specs.declared.call.Call.TheVariants.{Issue}
use Rattle.book.specs.Calls.{accepted, reading_of}
use Rattle.book.specs.Holds.{ledger_of}
use Rattle.statement.specs.Lines.{plant_text}
use Rattle.statement.specs.Statements.{Unissued, line_of, lines_from}
use Rattle.statement.proofs.Issues.{lines_all, lines_begun, lines_none, lines_some}
use Rattle.statement.proofs.Unissued.{unissued_after}
use Rattle.statement.proofs.issuing.issue_all.Goals as goal
use Rattle.statement.proofs.issuing.issue_all.Goals.{in-Some+in_ok-line+in_ok-plant_line+in_ok-push_str, in_default}

pub loop-plant-init : goal.loop-plant-init
loop-plant-init g c = (lines_begun (ledger_of g.R.Share.shares c.args.book.now) (string_bytes c.new-text.result) c.new-text.ensures.bytes, c.requires)

pub loop-plant-preserved : goal.loop-plant-preserved
loop-plant-preserved g c =
    let shares = g.R.Share.shares in
    let here = ledger_of shares c.loop-plant.book in
    let next = ledger_of shares c.match-reading.book in
    let p = c.loop-plant.plant in
    let text = string_bytes c.loop-plant.text in
    let after = string_bytes c.match-reading.text in
    let inv = c.loop-plant.invariant in
    elim c.match-reading.branch [
      | in-Some+in_ok-line+in_ok-plant_line+in_ok-push_str w ↦
          let r = w.in-Some.reading in
          let read : reading_of here p ≡ Some r = sym c.reading.ensures ∙ w.in-Some.is in
          let line = string_bytes w.in_ok-plant_line.field-0 in
          let told : line ≡ plant_text (line_of here p r) = w.in_ok-plant_line.ensures ∙ ap plant_text w.in_ok-line.ensures.line in
          let longer : after ≡ text ++ line = ap string_bytes w.text-is ∙ w.in_ok-push_str.ensures.bytes ∙ ap (λ l. text ++ l) w.as_str.ensures.value in
          let issued : next ≡ accepted here (Issue p) = ap (ledger_of shares) w.book-is ∙ w.in_ok-line.ensures.issued in
          (lines_some here next p r text line after c.loop-plant-test.true read told longer issued ∙ inv.0, subst (Unissued (p + 1)) (sym issued) (unissued_after here p c.loop-plant.auto.plant inv.1))
      | in_default w ↦
          let none : reading_of here p ≡ None = sym c.reading.ensures ∙ w.in_default.is in
          let same : next ≡ here = ap (ledger_of shares) w.book-is in (
            ap (λ l. l ++ lines_from (25 - (p + 1)) (p + 1) next) (ap string_bytes w.text-is) ∙ ap (λ b. text ++ lines_from (25 - (p + 1)) (p + 1) b) same ∙ ap (λ l. text ++ l) (sym (lines_none here p c.loop-plant-test.true none)) ∙ inv.0,
            subst (Unissued (p + 1)) (sym same) (λ q h. inv.1 q (omega arith)),
          )
    ]

pub returns : goal.returns
returns g c = sym (lines_all (ledger_of g.R.Share.shares c.loop-plant.book) c.loop-plant.plant (string_bytes c.loop-plant.text) c.loop-plant-test.false) ∙ c.loop-plant.invariant.0
