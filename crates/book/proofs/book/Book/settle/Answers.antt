use Rattle.std.proofs.Common.{◌≡◌, List, length, None, Ok, sym, ap, ◌∙◌, subst}
use Rattle.sharing.specs.Declining.{answered, placed}
use Rattle.units.specs.declared.energy.Energy.{Energy}
use Rattle.market.specs.declared.figures.Settlement.{Settlement}
use Rattle.market.specs.Figures.{settled_energies, settled_amounts, settlement_of}
use Rattle.market.specs.Laws.{Settles}
use Rattle.book.specs.declared.refusal.Refusal.{Refusal}
use Rattle.book.specs.Calls.{settle_declined}
use Rattle.book.specs.Holds.{ledger_of}
use Rattle.book.specs.Ledgers.{plant_in}
use Rattle.book.proofs.Figured.{settles_for}
use Rattle.book.proofs.PlantFacts.{plant_settles}
use Rattle.book.proofs.Props.{sound_of}
use Rattle.book.proofs.Tables.{plant_parts}
use Rattle.book.proofs.book.Book.settle.Goals as goal

pub returns : goal.returns
returns g c =
    let b = c.args.self.now in
    let f = ledger_of g.R.Share.shares b in
    let p = c.in_ok-plant.plant.number in
    let es = c.args.energies.now in
    let old = c.args.amounts.now in
    let none : settle_declined f p (length es) (length old) ≡ None = sym c.in_ok-may_settle.ensures in
    let told = c.settlement.ensures in
    let kept = plant_settles f p (plant_parts p c.in_ok-plant.plant.known).1 (g.met.R.Share.fair b.rule) (sound_of f b.sound) in
    settles_for c.in_ok-plant.ensures (record {
      answer = ap Ok told.answer ∙ ap (λ w. answered {E = Refusal} w (settlement_of (plant_in f p))) (sym none);
      energies = told.energies ∙ ap (λ w. placed w (settled_energies (plant_in f p)) es) (sym none);
      amounts = told.amounts ∙ ap (λ w. placed w (settled_amounts (plant_in f p)) old) (sym none);
      settles = subst (λ (s : Settlement). Settles (plant_in f p) c.settlement.new.energies s) (sym told.answer) (subst (λ (l : List Energy). Settles (plant_in f p) l (settlement_of (plant_in f p))) (sym told.energies) kept);
    })
