use Rattle.std.proofs.Common.{set, ap, ◌∙◌, arith}
use Rattle.book.proofs.TableLoops.{energy_within, energy_set}
use Rattle.book.proofs.table.ContractTable.set_energy.Goals as goal

pub index_mut-requires : goal.index_mut-requires
index_mut-requires c =
    let t = c.args.self.now in
    omega (arith, energy_within c.args.number c.args.energy t.rows.items c.requires.rises c.requires.held c.place-i.result c.place-i.ensures, t.rows.ok.0)

pub returns : goal.returns
returns c =
    let t = c.args.self.now in
    ap (set t.rows.items c.place-i.result) c.set_energy.ensures ∙ energy_set c.args.number c.args.energy t.rows.items c.requires.rises c.requires.held c.place-i.result c.place-i.ensures c.index_mut.result.now c.index_mut.ensures.value
