use Rattle.std.proofs.Common.{◌≡◌, Some, sym, refl, ap, ◌∙◌, rules}
use Rattle.book.specs.declared.call.Call.TheVariants.{Enrol}
use Rattle.book.specs.Accounts.{account_of, with_account, enrolled_as}
use Rattle.book.specs.Calls.{enrol_within, accepted}
use Rattle.book.specs.Holds.{ledger_of}
use Rattle.book.proofs.Kept.{enrol_sound}
use Rattle.book.proofs.Props.{sound_of, kept}
use Rattle.book.proofs.book.Book.enrol.Goals as goal

pub returns-in_err-plant : goal.returns-in_err-plant
unfolding enrol_within
returns-in_err-plant g c = search rules

pub invariant_of-self : goal.invariant_of-self
invariant_of-self g c =
    let b = c.args.self.now in
    let f = ledger_of g.R.Share.shares b in
    let told = c.in_ok-class.ensures in
    let sound = enrol_sound f c.in_ok-plant.plant.number c.args.class c.args.approved (g.met.R.Share.fair b.rule) (sound_of f b.sound) (sym told.answer) in
    let left = c.change.ensures in
    let after : left.0 ≡ enrolled_as (Some c.in_ok-class.class) c.args.approved (account_of c.in_ok-plant.plant.number f.accounts) = search rules in
    let rows = left.2 ∙ ap (λ a. with_account c.in_ok-plant.plant.number (λ _. a) f.accounts) after in
    record {
      sound =
          kept (accepted f (Enrol c.in_ok-plant.plant.number c.args.class c.args.approved)) _ _ _ _ sound refl refl refl
          (rows ∙ ap (λ k. with_account c.in_ok-plant.plant.number (enrolled_as k c.args.approved) f.accounts) (sym told.kind));
    }
