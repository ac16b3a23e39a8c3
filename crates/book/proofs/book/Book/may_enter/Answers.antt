use Rattle.book.specs.Holds.{ledger_of}
use Rattle.book.proofs.Props.{sound_of}
use Rattle.book.proofs.book.Book.may_enter.Goals as goal

pub find-requires : goal.find-requires
find-requires g c =
    let f = ledger_of g.R.Share.shares c.args.self.now in
    (sound_of f c.args.self.now.sound).rises
