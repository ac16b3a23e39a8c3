-- Accounts as the code leaves them. Assumes nothing.
use Rattle.std.proofs.Common.{◌≡◌, true, ℤ, ◌+ℤ◌, ◌-ℤ◌, Some, sym, ap, ◌∙◌}
use Rattle.units.specs.declared.money.Grains.{Grains}
use Rattle.book.specs.declared.account.Account.{Account}
use Rattle.book.specs.Accounts.{with_side, closed_at, issued_net}

pub moved_is : (a : Account) (g : Grains) (z : ℤ) → g.count ≡ z → record { enrolment = a.enrolment; reading = a.reading; side = g; carry = a.carry; issued = a.issued; closed = a.closed } ≡ with_side z a
moved_is a g z e = ap (λ y. with_side y a) e

pub closed_is : (a : Account) (net : ℤ) (was g : Grains) → a.issued ≡ Some was → g.count ≡ a.carry.count +ℤ (net -ℤ was.count) → record { enrolment = a.enrolment; reading = a.reading; side = a.side; carry = g; issued = a.issued; closed = true } ≡ closed_at net a
closed_is a net was g e f =
    let is : issued_net a ≡ was.count = rw e in
    let made : ℤ → Account = λ y. record { enrolment = a.enrolment; reading = a.reading; side = a.side; carry = record { count = y }; issued = a.issued; closed = true } in
    ap made (f ∙ ap (λ n. a.carry.count +ℤ (net -ℤ n)) (sym is))
