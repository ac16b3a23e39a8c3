use Rattle.std.proofs.Common.{sym, ap, ◌∙◌, rules}
use Rattle.book.specs.declared.call.Call.TheVariants.{Enter}
use Rattle.book.specs.Calls.{enter_within, accepted}
use Rattle.book.specs.Holds.{ledger_of}
use Rattle.book.specs.Ledgers.{Ledger}
use Rattle.book.proofs.Kept.{enter_sound}
use Rattle.book.proofs.Props.{sound_of, kept}
use Rattle.book.proofs.book.Book.enter.Goals as goal

pub insert-requires-clause-rises : goal.insert-requires-clause-rises
insert-requires-clause-rises g c =
    let f = ledger_of g.R.Share.shares c.args.self.now in
    (sound_of f c.args.self.now.sound).rises

pub returns-in_err-plant : goal.returns-in_err-plant
unfolding enter_within
returns-in_err-plant g c = search rules

pub invariant_of-self : goal.invariant_of-self
invariant_of-self g c =
    let b = c.args.self.now in
    let f = ledger_of g.R.Share.shares b in
    let p = c.in_ok-plant.plant.number in
    let told = c.in_ok-row.ensures in
    let sound = enter_sound f c.args.number p c.args.rank c.args.energy c.args.price (g.met.R.Share.fair b.rule) (sound_of f b.sound) (sym told.answer) in
    let now = accepted f (Enter c.args.number p c.args.rank c.args.energy c.args.price) in
    let is = sym told.row in
    record { sound = kept now _ _ _ _ sound (ap (λ (l : Ledger). l.month) is) (ap (λ (l : Ledger). l.residential) is) (c.insert.ensures ∙ ap (λ (l : Ledger). l.rows) is) (ap (λ (l : Ledger). l.accounts) is) }
