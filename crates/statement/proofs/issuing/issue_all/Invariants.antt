use Rattle.std.proofs.Common.{◌≡◌, ◌-◌, ◌++◌, string_bytes}
use Rattle.book.specs.Holds.{ledger_of}
use Rattle.statement.specs.Statements.{Unissued, all_lines, lines_from}
use Rattle.statement.proofs.issuing.issue_all.Given as goal

-- The lines so far, and those of the plants that are left, are the whole text.
abbrev pub invariant-loop-plant : goal.invariant-loop-plant
invariant-loop-plant g l =
    let start = ledger_of g.R.Share.shares l.initial.book in
    let here = ledger_of g.R.Share.shares l.book in
    (string_bytes l.text ++ lines_from (25 - l.plant) l.plant here ≡ all_lines start) × Unissued l.plant here
