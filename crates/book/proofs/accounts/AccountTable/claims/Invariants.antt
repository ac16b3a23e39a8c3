use Rattle.std.proofs.Common.{◌≡◌, ◌≤◌, ◌++◌, length, drop}
use Rattle.book.specs.Accounts.{metered_claims}
use Rattle.book.proofs.accounts.AccountTable.claims.Given as goal

abbrev pub invariant-loop-account : goal.invariant-loop-account
invariant-loop-account l =
    (length l.claims.items ≤ l.account-index) × (l.claims.items ++ metered_claims (drop l.account-index l.self.rows) ≡ metered_claims l.self.rows)
