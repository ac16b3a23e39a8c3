use Rattle.std.proofs.Common.{nat_abs, sym, ap, ◌∙◌, arith}
use Rattle.std.proofs.lemmas.List.{length-take-le}
use Rattle.market.specs.declared.figures.Settlement.{Settlement}
use Rattle.book.specs.Holds.{ledger_of}
use Rattle.book.specs.Ledgers.{net_of_plant}
use Rattle.book.proofs.PlantFacts.{few_held, net_bound}
use Rattle.book.proofs.Props.{sound_of}
use Rattle.book.proofs.Tables.{plant_parts}
use Rattle.book.proofs.book.Book.net.Goals as goal

pub slice_bounds-energies-end : goal.slice_bounds-energies-end
slice_bounds-energies-end g c =
    let f = ledger_of g.R.Share.shares c.args.self.now in
    few_held f c.args.plant.number _ c.contract_count-count.ensures (sound_of f c.args.self.now.sound)

pub slice_bounds-energies-end-2 : goal.slice_bounds-energies-end-2
slice_bounds-energies-end-2 g c =
    let f = ledger_of g.R.Share.shares c.args.self.now in
    sym (length-take-le _ _ (few_held f c.args.plant.number _ c.contract_count-count.ensures (sound_of f c.args.self.now.sound)))

pub settlement-requires-clause-energies : goal.settlement-requires-clause-energies
settlement-requires-clause-energies g c =
    let f = ledger_of g.R.Share.shares c.args.self.now in
    length-take-le _ _ (few_held f c.args.plant.number _ c.contract_count-count.ensures (sound_of f c.args.self.now.sound)) ∙ c.contract_count-count.ensures

pub slice_bounds-amounts-end : goal.slice_bounds-amounts-end
slice_bounds-amounts-end g c =
    let f = ledger_of g.R.Share.shares c.args.self.now in
    few_held f c.args.plant.number _ c.contract_count-count.ensures (sound_of f c.args.self.now.sound)

pub slice_bounds-amounts-end-2 : goal.slice_bounds-amounts-end-2
slice_bounds-amounts-end-2 g c =
    let f = ledger_of g.R.Share.shares c.args.self.now in
    sym (length-take-le _ _ (few_held f c.args.plant.number _ c.contract_count-count.ensures (sound_of f c.args.self.now.sound)))

pub settlement-requires-clause-amounts : goal.settlement-requires-clause-amounts
settlement-requires-clause-amounts g c =
    let f = ledger_of g.R.Share.shares c.args.self.now in
    length-take-le _ _ (few_held f c.args.plant.number _ c.contract_count-count.ensures (sound_of f c.args.self.now.sound)) ∙ c.contract_count-count.ensures

pub returns : goal.returns
unfolding net_of_plant
returns g c =
    let b = c.args.self.now in
    let f = ledger_of g.R.Share.shares b in
    let p = c.args.plant.number in
    let value = ap (λ (s : Settlement). s.net.count) c.settlement.ensures.answer in
    record { value = value; bound = omega (arith, ap nat_abs value, net_bound f p (plant_parts p c.args.plant.known).1 (g.met.R.Share.fair b.rule) (sound_of f b.sound)) }
