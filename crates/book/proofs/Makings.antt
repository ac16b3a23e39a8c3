-- One call, from what its code found and left. Assumes nothing.
use Rattle.std.proofs.Common.{◌≡◌, List, Some, None, Err, refl, ap, ◌∙◌}
use Rattle.book.specs.declared.account.Account.{Account}
use Rattle.book.specs.declared.call.Call.{Call}
use Rattle.book.specs.declared.refusal.Refusal.{Refusal}
use Rattle.book.specs.declared.row.Row.{Row}
use Rattle.book.specs.Calls.{Answer, declined, accepted, said, Makes}
use Rattle.book.specs.Ledgers.{Ledger, with_rows, with_accounts}

pub makes_accepted : (f : Ledger) (c : Call) (g : Ledger) (a : Answer) → declined f c ≡ None → g ≡ accepted f c → a ≡ said f c → Makes f c g a
makes_accepted f c g a none left told = record { left = rw none left; said = rw none told }

pub same_figures : (f : Ledger) (rows new : List Row) (accounts now : List Account) → rows ≡ new → accounts ≡ now → record { month = f.month; residential = f.residential; shares = f.shares; rows = rows; accounts = accounts } ≡ with_rows new (with_accounts now f)
same_figures f rows new accounts now e h =
    ap (λ cs. record { month = f.month; residential = f.residential; shares = f.shares; rows = cs; accounts = accounts }) e
    ∙ ap (λ xs. record { month = f.month; residential = f.residential; shares = f.shares; rows = new; accounts = xs }) h

pub same_accounts : (f : Ledger) (accounts now : List Account) → accounts ≡ now → with_accounts accounts f ≡ with_accounts now f
same_accounts f accounts now h = ap (λ xs. with_accounts xs f) h

pub makes_declined : (f : Ledger) (c : Call) (why : Refusal) → declined f c ≡ Some why → Makes f c f (Err why)
makes_declined f c why h = record { left = rw h refl; said = rw h refl }
