use Rattle.std.proofs.Common.{sym, refl}
use Rattle.book.specs.declared.call.Call.TheVariants.{Turn}
use Rattle.book.specs.Calls.{accepted}
use Rattle.book.specs.Holds.{ledger_of}
use Rattle.book.proofs.Kept.{turn_sound}
use Rattle.book.proofs.Props.{sound_of, kept}
use Rattle.book.proofs.book.Book.turn.Goals as goal

pub invariant_of-self : goal.invariant_of-self
invariant_of-self g c =
    let b = c.args.self.now in
    let f = ledger_of g.R.Share.shares b in
    let sound = turn_sound f c.args.residential (g.met.R.Share.fair b.rule) (sound_of f b.sound) (sym c.in_ok-may_turn.ensures) in
    record { sound = kept (accepted f (Turn c.args.residential)) _ _ _ _ sound c.next_month-self.ensures refl c.clear.ensures c.turn.ensures }
