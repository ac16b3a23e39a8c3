use Rattle.book.proofs.AccountLoops.{Debiting}
use Rattle.book.proofs.accounts.AccountTable.debit.Given as goal

abbrev pub invariant-loop-account : goal.invariant-loop-account
invariant-loop-account l = Debiting l.fn.self.rows l.fn.parts l.account-index l.account-items l.parts.rest.now
