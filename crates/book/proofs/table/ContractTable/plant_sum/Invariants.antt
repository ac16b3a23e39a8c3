use Rattle.std.proofs.Common.{◌≡◌, ◌+◌, drop}
use Rattle.book.specs.Rows.{plant_sum}
use Rattle.book.proofs.table.ContractTable.plant_sum.Given as goal

abbrev pub invariant-loop-row : goal.invariant-loop-row
invariant-loop-row l = l.sum + plant_sum l.plant (drop l.row-index l.rows) ≡ plant_sum l.plant l.rows
