use Rattle.std.proofs.Common.{◌≡◌, sym, refl, ap, ◌∙◌, rules}
use Rattle.book.specs.declared.call.Call.TheVariants.{Issue}
use Rattle.book.specs.Accounts.{account_of, with_account, issued_at}
use Rattle.book.specs.Calls.{accepted}
use Rattle.book.specs.Holds.{ledger_of}
use Rattle.book.proofs.Kept.{issue_sound}
use Rattle.book.proofs.Props.{sound_of, kept}
use Rattle.book.proofs.book.Book.issue.Goals as goal

pub invariant_of-self : goal.invariant_of-self
invariant_of-self g c =
    let b = c.args.self.now in
    let f = ledger_of g.R.Share.shares b in
    let sound = issue_sound f c.in_ok-plant.plant.number (g.met.R.Share.fair b.rule) (sound_of f b.sound) (sym c.in_ok-may_issue.ensures) in
    let p = c.in_ok-plant.plant.number in
    let left = c.change.ensures in
    let after : left.0 ≡ issued_at c.net-net.result.count (account_of p f.accounts) = search rules in
    let rows = left.2 ∙ ap (λ a. with_account p (λ _. a) f.accounts) after in
    record {
      sound =
          kept (accepted f (Issue c.in_ok-plant.plant.number)) _ _ _ _ sound refl refl refl
          (rows ∙ ap (λ z. with_account c.in_ok-plant.plant.number (issued_at z) f.accounts) c.net-net.ensures.value);
    }
