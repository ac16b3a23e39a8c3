use Rattle.std.proofs.Common.{ap, arith}
use Rattle.std.proofs.lemmas.List.{at_drop_all}
use Rattle.book.specs.Rows.{plant_sum}
use Rattle.book.proofs.TableLoops.{sum_hit, sum_miss}
use Rattle.book.proofs.table.ContractTable.plant_sum.Goals as goal
use Rattle.book.proofs.table.ContractTable.plant_sum.Goals.{then-row-plant, else-row-plant}

pub overflow_add-sum : goal.overflow_add-sum
overflow_add-sum c =
    let hit = sum_hit c.args.plant c.as_slice-rows.result.now c.loop-row.row-index _ c.loop-row-test.true c.if-row-plant.true in
    let all = ap (plant_sum c.args.plant) c.as_slice-rows.ensures.value in
    omega (arith, hit, all, c.loop-row.invariant, c.kwh-sum.ensures, c.requires)

pub loop-row-preserved : goal.loop-row-preserved
loop-row-preserved c =
    elim c.if-row-plant.branch [
      | then-row-plant w ↦
          let hit = sum_hit c.args.plant c.as_slice-rows.result.now c.loop-row.row-index _ c.loop-row-test.true w.if-row-plant.true in
          omega (arith, hit, c.loop-row.invariant, w.kwh-sum.ensures, w.sum-is)
      | else-row-plant w ↦
          let miss = sum_miss c.args.plant c.as_slice-rows.result.now c.loop-row.row-index _ c.loop-row-test.true w.if-row-plant.false in
          omega (arith, miss, c.loop-row.invariant, w.sum-is)
    ]

pub returns : goal.returns
returns c =
    let all = ap (plant_sum c.args.plant) c.as_slice-rows.ensures.value in
    let end = at_drop_all (plant_sum c.args.plant) c.as_slice-rows.result.now c.loop-row.row-index c.loop-row-test.false in
    omega (arith, all, end, c.loop-row.invariant, c.from_kwh.ensures)
