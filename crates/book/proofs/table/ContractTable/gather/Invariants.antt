use Rattle.std.proofs.Common.{◌≡◌, ◌≤◌, ◌++◌, length, drop}
use Rattle.book.specs.Rows.{contracts_of}
use Rattle.book.proofs.table.ContractTable.gather.Given as goal

abbrev pub invariant-loop-row : goal.invariant-loop-row
invariant-loop-row l =
    (length l.contracts.items ≤ l.row-index) × (l.contracts.items ++ contracts_of l.plant (drop l.row-index l.self.rows.items) ≡ contracts_of l.plant l.self.rows.items)
