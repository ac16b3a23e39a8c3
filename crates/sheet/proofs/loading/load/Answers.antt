use Rattle.std.proofs.Common.{rules, sym, refl, ap, ◌∙◌}
use Rattle.sharing.specs.Declining.{placed}
use Rattle.book.specs.Holds.{ledger_of}
use Rattle.book.specs.Ledgers.{opened}
use Rattle.sheet.specs.Loads.{book_fault}
use Rattle.sheet.proofs.Making.{Refuses, accepted_none, handed_on, refused_some}
use Rattle.sheet.proofs.Whole.{all_bytes, header_is, header_stops, loaded}
use Rattle.sheet.proofs.Writing.{unambiguous}
use Rattle.sheet.proofs.loading.load.Goals as goal

pub returns-in_err-header : goal.returns-in_err-header
returns-in_err-header g c =
    let e = c.in_err-header.field-0.0 in
    let figures = ledger_of g.R.Share.shares c.args.book.now in
    record {
      loaded = header_stops (g.R.Share.shares c.args.rule) c.args.sheet.now figures figures e c.from_residual.result c.in_err-header.ensures (handed_on c.from_residual.result e c.from_residual.ensures.1) refl;
      unambiguous = unambiguous;
    }

pub returns-in_err-map_err : goal.returns-in_err-map_err
returns-in_err-map_err g c =
    let shares = g.R.Share.shares in
    let rule = c.args.rule in
    let bytes = c.args.sheet.now in
    let header = c.in_ok-header.header in
    let read = c.in_ok-header.ensures in
    let before = ledger_of shares c.args.book.now in
    let e = c.in_err-map_err.field-0.0 in
    let r = c.from_residual-in_err-map_err.result in
    let told : Refuses c.open.result 0 0 e = search rules in
    let known = refused_some c.open.result 0 0 e told in
    let same = c.open.ensures.after ∙ ap (λ w. placed w (opened header.month header.residential (shares rule)) before) (sym c.open.ensures.answer ∙ known.1) in
    record {
      loaded = header_stops (shares rule) bytes before (ledger_of shares c.open.new.self) e r (header_is bytes header.month header.residential read.0 read.1 read.3 read.4 ∙ ap (book_fault 0 0) (sym c.open.ensures.answer) ∙ known.2) (handed_on r e c.from_residual-in_err-map_err.ensures.1) same;
      unambiguous = unambiguous;
    }

pub returns : goal.returns
returns g c =
    let shares = g.R.Share.shares in
    let rule = c.args.rule in
    let bytes = c.args.sheet.now in
    let header = c.in_ok-header.header in
    let read = c.in_ok-header.ensures in
    let opens = sym c.open.ensures.answer ∙ accepted_none c.open.result (sym c.in_ok-map_err.ensures.variant) in
    record {
      loaded = loaded (shares rule) (g.met.R.Share.fair rule) bytes header.sections header.month header.residential (ledger_of shares c.args.book.now) (ledger_of shares c.open.new.self) (ledger_of shares c.make_sections.new.book) c.make_sections.result (all_bytes bytes c.type_inv.sheet) read.0 read.1 read.2 read.3 read.4 opens c.open.ensures.after c.make_sections.ensures.fault c.make_sections.ensures.left;
      unambiguous = unambiguous;
    }
