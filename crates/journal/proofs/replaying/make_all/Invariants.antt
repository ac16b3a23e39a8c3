use Rattle.std.proofs.Common.{take}
use Rattle.book.specs.Holds.{ledger_of}
use Rattle.book.specs.Tallies.{Run}
use Rattle.journal.proofs.replaying.make_all.Given as goal

abbrev pub invariant-loop-i : goal.invariant-loop-i
invariant-loop-i g l = Run (ledger_of g.R.Share.shares l.initial.book) (take l.i l.calls) (take l.i l.answers) (ledger_of g.R.Share.shares l.book)
