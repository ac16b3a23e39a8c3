use Rattle.std.proofs.Common.{arith}
use Rattle.book.proofs.TableLoops.{place_within, inserted_held}
use Rattle.book.proofs.table.ContractTable.insert.Goals as goal

pub insert-requires : goal.insert-requires
insert-requires c =
    let p = place_within c.args.row.number c.args.self.now.rows.items in omega (arith, p, c.place-i.ensures, c.args.self.now.rows.ok.0)

pub returns : goal.returns
returns c =
    let t = c.args.self.now in
    inserted_held c.args.row t.rows.items c.insert.new.self.items c.place-i.result _ c.insert.ensures.items
    (c.insert.ensures.succeeds (omega (arith, t.room, c.requires.room, t.rows.ok.0))) c.place-i.ensures
