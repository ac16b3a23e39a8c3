use Rattle.std.proofs.Common.{◌≡◌, rules, sym, ap, ◌∙◌}
use Rattle.std.specs.Iterator.Adapters.{enumerate_count, enumerate_source, zip_first, zip_second}
use Rattle.std.specs.Slice.Iter.{chunks_exact_rest}
use Rattle.sharing.specs.Declining.{answered}
use Rattle.book.specs.Holds.{ledger_of}
use Rattle.sheet.specs.Formats.{call_of, calls_of, stretches_of}
use Rattle.sheet.specs.Loads.{item_fault, left_by}
use Rattle.sheet.proofs.Making.{Refuses, call_made, call_refused, calls_next, handed_on, part}
use Rattle.sheet.proofs.loading.make_section.Goals as goal

pub loop-item-preserved : goal.loop-item-preserved
loop-item-preserved g c =
    let s = stretches_of c.args.section in
    let steps = c.in-Some.ensures.steps in
    let inv = c.loop-item.invariant in
    let count = enumerate_count c.loop-item.item-iterator in
    let next = enumerate_source c.next.new.self in
    let heads = chunks_exact_rest (zip_first next) in
    let terms = chunks_exact_rest (zip_second next) in
    let more = calls_of (part s.kind s.offset heads terms) in
    let here = ledger_of g.R.Share.shares c.loop-item.book in
    let left = ledger_of g.R.Share.shares c.make-answer.new.book in
    let call : c.call_of.result ≡ call_of s.kind c.in-Some.head.now c.in-Some.term.now = c.call_of.ensures ∙ ap (λ k. call_of k c.in-Some.head.now c.in-Some.term.now) c.kind-kind.ensures in
    let calls = calls_next s.kind s.offset _ _ c.in-Some.head.now c.in-Some.term.now heads terms c.call_of.result steps.0.0.1.0 steps.0.1.1.0 (steps.0.0.1.1 ∙ inv.0) (steps.0.1.1.1 ∙ inv.1) inv.2 call in
    let step = call_made here left c.call_of.result c.make-answer.result s.offset count more c.make-answer.ensures (sym c.in_ok-map_err.ensures.variant) in (
      steps.0.0.0 ∙ inv.0,
      steps.0.1.0 ∙ inv.1,
      calls.1,
      ap (λ n. item_fault left s.offset n more) steps.2 ∙ sym step.0 ∙ ap (item_fault here s.offset count) (sym calls.0) ∙ inv.3,
      sym step.1 ∙ ap (left_by here) (sym calls.0) ∙ inv.4,
    )

pub returns-in_err-map_err : goal.returns-in_err-map_err
returns-in_err-map_err g c =
    let s = stretches_of c.args.section in
    let steps = c.in-Some.ensures.steps in
    let inv = c.loop-item.invariant in
    let count = enumerate_count c.loop-item.item-iterator in
    let next = enumerate_source c.next.new.self in
    let heads = chunks_exact_rest (zip_first next) in
    let terms = chunks_exact_rest (zip_second next) in
    let here = ledger_of g.R.Share.shares c.loop-item.book in
    let left = ledger_of g.R.Share.shares c.make-answer.new.book in
    let e = c.in_err-map_err.field-0.0 in
    let told : Refuses c.make-answer.result s.offset count e = search rules in
    let call : c.call_of.result ≡ call_of s.kind c.in-Some.head.now c.in-Some.term.now = c.call_of.ensures ∙ ap (λ k. call_of k c.in-Some.head.now c.in-Some.term.now) c.kind-kind.ensures in
    let calls = calls_next s.kind s.offset _ _ c.in-Some.head.now c.in-Some.term.now heads terms c.call_of.result steps.0.0.1.0 steps.0.1.1.0 (steps.0.0.1.1 ∙ inv.0) (steps.0.1.1.1 ∙ inv.1) inv.2 call in
    let step = call_refused here left c.call_of.result c.make-answer.result s.offset count (calls_of (part s.kind s.offset heads terms)) e c.make-answer.ensures told in
    record {
      fault = handed_on c.from_residual.result e c.from_residual.ensures.1 ∙ ap (λ w. answered w tt) (sym step.0 ∙ ap (item_fault here s.offset count) (sym calls.0) ∙ inv.3);
      left = sym step.1 ∙ ap (left_by here) (sym calls.0) ∙ inv.4;
    }
