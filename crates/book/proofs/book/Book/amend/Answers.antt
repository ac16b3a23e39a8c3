use Rattle.std.proofs.Common.{sym, refl}
use Rattle.book.specs.declared.call.Call.TheVariants.{Amend}
use Rattle.book.specs.Calls.{accepted}
use Rattle.book.specs.Holds.{ledger_of}
use Rattle.book.proofs.Kept.{amend_sound}
use Rattle.book.proofs.Props.{sound_of, kept}
use Rattle.book.proofs.book.Book.amend.Goals as goal

pub set_energy-requires-clause-rises : goal.set_energy-requires-clause-rises
set_energy-requires-clause-rises g c =
    let f = ledger_of g.R.Share.shares c.args.self.now in
    (sound_of f c.args.self.now.sound).rises

pub invariant_of-self : goal.invariant_of-self
invariant_of-self g c =
    let b = c.args.self.now in
    let f = ledger_of g.R.Share.shares b in
    let sound = amend_sound f c.args.number c.args.energy (g.met.R.Share.fair b.rule) (sound_of f b.sound) (sym c.in_ok-may_amend.ensures) in
    record { sound = kept (accepted f (Amend c.args.number c.args.energy)) _ _ _ _ sound refl refl c.set_energy.ensures refl }
