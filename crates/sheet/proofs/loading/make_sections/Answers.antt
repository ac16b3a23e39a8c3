use Rattle.std.proofs.Common.{◌+◌, ◌-◌, drop, Err, sym, ap, ◌∙◌}
use Rattle.sharing.specs.Declining.{answered}
use Rattle.sharing.proofs.Granted.{was_none}
use Rattle.book.specs.Holds.{ledger_of}
use Rattle.sheet.specs.Formats.{calls_of, contents_from, stretches_of}
use Rattle.sheet.specs.Loads.{item_fault}
use Rattle.sheet.proofs.Sequence.{fault_of, faulty_section, left_over_lem, left_of, over, section_made, section_stopped, sound_section}
use Rattle.sheet.proofs.Making.{handed_on, was_some}
use Rattle.sheet.proofs.loading.make_sections.Goals as goal

pub returns-in_err-section : goal.returns-in_err-section
returns-in_err-section g c =
    let here = ledger_of g.R.Share.shares c.loop-done.book in
    let e = c.in_err-section.field-0.0 in
    let step = faulty_section here c.args.count c.loop-done._done c.loop-done.offset (drop c.loop-done.offset c.args.sheet.now) e c.loop-done-test.true c.in_err-section.ensures in
    let inv = c.loop-done.invariant in
    record {
      fault = handed_on c.from_residual.result e c.from_residual.ensures.1 ∙ ap (λ w. answered w tt) (sym step.0 ∙ inv.0);
      left = sym step.1 ∙ inv.1;
    }

pub returns-in_err-make_section : goal.returns-in_err-make_section
returns-in_err-make_section g c =
    let bytes = c.args.sheet.now in
    let n = c.args.count in
    let i = c.loop-done._done in
    let offset = c.loop-done.offset in
    let end = c.in_ok-section.end in
    let s = stretches_of c.in_ok-section.section in
    let read = c.in_ok-section.ensures in
    let here = ledger_of g.R.Share.shares c.loop-done.book in
    let next = ledger_of g.R.Share.shares c.make_section.new.book in
    let more = contents_from (n - (i + 1)) end (drop end bytes) in
    let is = sound_section n i offset end bytes s c.loop-done-test.true read.0 read.1 in
    let e = c.in_err-make_section.field-0.0 in
    let fault = was_some (item_fault here s.offset 0 (calls_of s)) e tt c.in_err-make_section.ensures.fault in
    let step = section_stopped here next s more e fault c.in_err-make_section.ensures.left in
    let inv = c.loop-done.invariant in
    record {
      fault = handed_on c.from_residual-in_err-make_section.result e c.from_residual-in_err-make_section.ensures.1 ∙ ap (λ w. answered w tt) (sym step.0 ∙ ap (fault_of here) (sym is) ∙ inv.0);
      left = sym step.1 ∙ ap (left_of here) (sym is) ∙ inv.1;
    }

pub loop-done-preserved : goal.loop-done-preserved
loop-done-preserved g c =
    let bytes = c.args.sheet.now in
    let n = c.args.count in
    let i = c.loop-done._done in
    let offset = c.loop-done.offset in
    let end = c.in_ok-section.end in
    let s = stretches_of c.in_ok-section.section in
    let read = c.in_ok-section.ensures in
    let here = ledger_of g.R.Share.shares c.loop-done.book in
    let next = ledger_of g.R.Share.shares c.make_section.new.book in
    let more = contents_from (n - (i + 1)) end (drop end bytes) in
    let is = sound_section n i offset end bytes s c.loop-done-test.true read.0 read.1 in
    let none = was_none (item_fault here s.offset 0 (calls_of s)) tt tt c.in_ok-make_section.ensures.fault in
    let step = section_made here next s more none c.in_ok-make_section.ensures.left in
    let inv = c.loop-done.invariant in
    (sym step.0 ∙ ap (fault_of here) (sym is) ∙ inv.0, sym step.1 ∙ ap (left_of here) (sym is) ∙ inv.1)

pub returns-then-offset-sheet-clause-fault : goal.returns-then-offset-sheet-clause-fault
returns-then-offset-sheet-clause-fault g c =
    let here = ledger_of g.R.Share.shares c.loop-done.book in
    let offset = c.loop-done.offset in
    let bytes = c.args.sheet.now in
    let end = (over here c.args.count c.loop-done._done offset (drop offset bytes) c.loop-done-test.false).0 in
    ap Err c.of_sheet.ensures ∙ ap (λ w. answered w tt) (sym (left_over_lem offset bytes c.if-offset-sheet.true) ∙ sym end ∙ c.loop-done.invariant.0)
