use Rattle.std.proofs.Common.{◌≡◌}
use Rattle.std.specs.Iterator.Adapters.{enumerate_count, enumerate_source, zip_first, zip_second}
use Rattle.std.specs.Slice.Iter.{chunks_exact_rest, chunks_exact_size}
use Rattle.book.specs.Holds.{ledger_of}
use Rattle.sheet.specs.Formats.{Whole, calls_of, head_size, stretches_of, term_size}
use Rattle.sheet.specs.Loads.{item_fault, left_by}
use Rattle.sheet.proofs.Making.{part}
use Rattle.sheet.proofs.loading.make_section.Given as goal

-- The items that are left to make give the fault and the figures.
abbrev pub invariant-loop-item : goal.invariant-loop-item
invariant-loop-item g l =
    let s = stretches_of l.fn.section in
    let heads = zip_first (enumerate_source l.item-iterator) in
    let terms = zip_second (enumerate_source l.item-iterator) in
    let more = part s.kind s.offset (chunks_exact_rest heads) (chunks_exact_rest terms) in
    let start = ledger_of g.R.Share.shares l.initial.book in
    let here = ledger_of g.R.Share.shares l.book in
    (chunks_exact_size heads ≡ head_size s.kind)
    × (chunks_exact_size terms ≡ term_size s.kind)
    × Whole more
    × (item_fault here s.offset (enumerate_count l.item-iterator) (calls_of more) ≡ item_fault start s.offset 0 (calls_of s))
    × (left_by here (calls_of more) ≡ left_by start (calls_of s))
