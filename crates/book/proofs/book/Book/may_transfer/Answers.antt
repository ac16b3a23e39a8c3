use Rattle.std.proofs.Common.{◌≡◌, Some, sym, ap, ◌∙◌}
use Rattle.book.specs.Holds.{ledger_of}
use Rattle.book.specs.Rows.{row_of}
use Rattle.book.proofs.Figured.{row_plant}
use Rattle.book.proofs.Props.{sound_of}
use Rattle.book.proofs.RowFacts.{number_found}
use Rattle.book.proofs.Tables.{trade_allowed_lem}
use Rattle.book.proofs.book.Book.may_transfer.Goals as goal

pub find-requires : goal.find-requires
find-requires g c =
    let f = ledger_of g.R.Share.shares c.args.self.now in
    (sound_of f c.args.self.now.sound).rises

pub find-requires-2 : goal.find-requires-2
find-requires-2 g c =
    let f = ledger_of g.R.Share.shares c.args.self.now in
    (sound_of f c.args.self.now.sound).rises

pub holding-requires : goal.holding-requires
holding-requires g c =
    let f = ledger_of g.R.Share.shares c.args.self.now in
    row_plant f c.args.order.old c.in_ok-row.row (sound_of f c.args.self.now.sound) (sym c.find.ensures ∙ c.in_ok-row.ensures.ok_part)

pub trade_allowed-requires : goal.trade_allowed-requires
trade_allowed-requires g c =
    let f = ledger_of g.R.Share.shares c.args.self.now in
    row_plant f c.args.order.old c.in_ok-row.row (sound_of f c.args.self.now.sound) (sym c.find.ensures ∙ c.in_ok-row.ensures.ok_part)

pub transfer_past-requires : goal.transfer_past-requires
transfer_past-requires g c =
    let f = ledger_of g.R.Share.shares c.args.self.now in
    let row = c.in_ok-row.row in
    let found : row_of c.args.order.old f.rows ≡ Some row = sym c.find.ensures ∙ c.in_ok-row.ensures.ok_part in
    record { row = ap (λ m. row_of m f.rows) (number_found c.args.order.old f.rows row found) ∙ found; apart = (trade_allowed_lem f c.args.order.receiver.number row (sym c.if-not-trade_allowed.ensures)).3 }
