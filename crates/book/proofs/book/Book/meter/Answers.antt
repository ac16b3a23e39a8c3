use Rattle.std.proofs.Common.{◌≡◌, sym, refl, ap, ◌∙◌, rules}
use Rattle.book.specs.declared.call.Call.TheVariants.{Meter}
use Rattle.book.specs.Accounts.{account_of, with_account, with_reading}
use Rattle.book.specs.Calls.{accepted}
use Rattle.book.specs.Holds.{ledger_of}
use Rattle.book.proofs.Kept.{meter_sound}
use Rattle.book.proofs.Props.{sound_of, kept}
use Rattle.book.proofs.book.Book.meter.Goals as goal

pub invariant_of-self : goal.invariant_of-self
invariant_of-self g c =
    let b = c.args.self.now in
    let f = ledger_of g.R.Share.shares b in
    let sound = meter_sound f c.in_ok-plant.plant.number c.args.metered c.args.commissioning (g.met.R.Share.fair b.rule) (sound_of f b.sound) (sym c.in_ok-may_meter.ensures) in
    let p = c.in_ok-plant.plant.number in
    let left = c.change.ensures in
    let after : left.0 ≡ with_reading record { metered = c.args.metered; commissioning = c.args.commissioning } (account_of p f.accounts) = search rules in
    let rows = left.2 ∙ ap (λ a. with_account p (λ _. a) f.accounts) after in
    record { sound = kept (accepted f (Meter c.in_ok-plant.plant.number c.args.metered c.args.commissioning)) _ _ _ _ sound refl refl refl rows }
