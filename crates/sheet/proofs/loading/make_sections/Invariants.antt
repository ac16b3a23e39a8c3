use Rattle.std.proofs.Common.{◌≡◌, ◌-◌, drop}
use Rattle.book.specs.Holds.{ledger_of}
use Rattle.sheet.specs.Formats.{all_calls, contents_from}
use Rattle.sheet.specs.Loads.{fault_in, left_by}
use Rattle.sheet.proofs.loading.make_sections.Given as goal

-- What is left to read and to make gives the fault and the figures.
abbrev pub invariant-loop-done : goal.invariant-loop-done
invariant-loop-done g l =
    let all = contents_from l.count 6 (drop 6 l.sheet) in
    let more = contents_from (l.count - l._done) l.offset (drop l.offset l.sheet) in
    let start = ledger_of g.R.Share.shares l.initial.book in
    let here = ledger_of g.R.Share.shares l.book in
    (fault_in here more.sections more.stop ≡ fault_in start all.sections all.stop)
    × (left_by here (all_calls more.sections) ≡ left_by start (all_calls all.sections))
