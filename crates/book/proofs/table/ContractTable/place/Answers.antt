use Rattle.std.proofs.Common.{ltb, ap, ◌∙◌, rules}
use Rattle.std.proofs.lemmas.List.Sorted.{IsPartitionPoint-from_clause}
use Rattle.book.specs.declared.row.Row.{Row}
use Rattle.book.specs.Rows.{place_of, rising}
use Rattle.book.proofs.TableLoops.{below_first, place_is}
use Rattle.book.proofs.table.ContractTable.place.Goals as goal

pub returns : goal.returns
returns c =
    let rows = c.deref.result.now in
    let parted = below_first c.args.number rows (ap rising c.deref.ensures.value ∙ c.requires) in
    let point = IsPartitionPoint-from_clause (λ (r : Row). ltb r.number c.args.number) rows _ c.partition_point.ensures.partitioned parted (λ a r q k. search rules) in
    place_is c.args.number rows _ c.partition_point.ensures.bound point ∙ ap (place_of c.args.number) c.deref.ensures.value
