use Rattle.std.proofs.Common.{◌≡◌, ◌++◌, map, length, take, drop}
use Rattle.book.specs.Accounts.{turned}
use Rattle.book.proofs.accounts.AccountTable.turn.Given as goal

abbrev pub invariant-loop-account : goal.invariant-loop-account
invariant-loop-account l = (length l.account-items ≡ 24) × (l.account-items ≡ map turned (take l.account-index l.fn.self.rows) ++ drop l.account-index l.fn.self.rows)
