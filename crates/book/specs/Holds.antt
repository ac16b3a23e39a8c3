-- The figures that a book holds. Assumes nothing.
use Rattle.std.specs.Prelude.{ℕ, List, vec_items}
use Rattle.book.specs.declared.book.Book.{Book}
use Rattle.book.specs.Ledgers.{Ledger}

-- At the meaning of the book's rule, as the trait of sharing rules has it.
abbrev pub ledger_of : {R : Type 0} → (R → List ℕ → ℕ → List ℕ) → Book R → Ledger
ledger_of shares b = record { month = b.month; residential = b.residential; shares = shares b.rule; rows = vec_items b.contracts.rows; accounts = b.accounts.rows }
