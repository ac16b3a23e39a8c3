use Rattle.std.proofs.Common.{ℕ, cond, eqb, sym, ◌∙◌, arith, rules, tests}
use Rattle.std.proofs.lemmas.Iterator.{YieldsList-from_slice, YieldsList-from_map}
use Rattle.std.proofs.lemmas.Iterator.Consumers.{sum_by_from_yields_List, fits_by_from_yields_list}
use Rattle.book.specs.declared.row.Row.{Row}
use Rattle.book.proofs.RowFacts.{length_contracts}
use Rattle.book.proofs.TableLoops.{count_by}
use Rattle.book.proofs.table.ContractTable.count.Goals as goal

pub sum-requires-clause-fits : goal.sum-requires-clause-fits
sum-requires-clause-fits c =
    let rows = c.args.self.now.rows in
    let own : Row → ℕ = λ x. cond (eqb x.plant c.args.plant) 1 0 in
    fits_by_from_yields_list _ _ c.map.result _ (YieldsList-from_map _ own (YieldsList-from_slice rows.items cc) c.map.ensures.closure (λ x r q k. search (rules, tests))) (omega (arith, count_by c.args.plant rows.items, length_contracts c.args.plant rows.items, rows.ok.0))

pub returns : goal.returns
returns c =
    let rows = c.args.self.now.rows.items in
    let own : Row → ℕ = λ x. cond (eqb x.plant c.args.plant) 1 0 in
    sum_by_from_yields_List _ _ c.map.result _ c.sum.ensures.ran (YieldsList-from_map _ own (YieldsList-from_slice rows cc) c.map.ensures.closure (λ x r q k. search (rules, tests))) ∙ sym (count_by c.args.plant rows)
