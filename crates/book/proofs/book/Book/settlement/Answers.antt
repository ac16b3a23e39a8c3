use Rattle.std.proofs.Common.{◌≡◌, length, None, sym, ap, ◌∙◌}
use Rattle.sharing.specs.Declining.{placed}
use Rattle.sharing.proofs.Granted.{was_value}
use Rattle.market.specs.Admitting.{settle_declined}
use Rattle.market.specs.Figures.{settled_energies, settled_amounts, settlement_of}
use Rattle.market.specs.Laws.{figures_of}
use Rattle.market.proofs.Admitted.{accepted}
use Rattle.market.proofs.Declining.{is_answered}
use Rattle.book.specs.Holds.{ledger_of}
use Rattle.book.specs.Ledgers.{plant_in}
use Rattle.book.proofs.PlantFacts.{plant_sound}
use Rattle.book.proofs.Props.{sound_of}
use Rattle.book.proofs.Tables.{plant_parts}
use Rattle.book.proofs.book.Book.settlement.Goals as goal

pub unwrap-requires : goal.unwrap-requires
unwrap-requires g c =
    let f = ledger_of g.R.Share.shares c.args.self.now in
    let p = c.args.plant.number in
    let n = length c.args.energies.now in
    let m = length c.args.amounts.now in
    let figures = c.figures-figures.result in
    let cs = c.as_slice.result.now in
    let held : cs ≡ (plant_in f p).contracts = c.as_slice.ensures.value ∙ c.gather.ensures in
    let sound = plant_sound f p (plant_parts p c.args.plant.known).1 (sound_of f c.args.self.now.sound) in
    let none : settle_declined figures cs n m ≡ None =
    ap (λ x. settle_declined x cs n m) c.figures-figures.ensures ∙ ap (λ l. settle_declined (plant_in f p).plant l n m) held ∙ accepted (plant_in f p).plant (plant_in f p).contracts n m sound c.requires.energies c.requires.amounts in
    is_answered c.settle.result (settle_declined figures cs n m) _ c.settle.ensures.answer none

pub returns : goal.returns
returns g c =
    let f = ledger_of g.R.Share.shares c.args.self.now in
    let p = c.args.plant.number in
    let shares = g.R.Share.shares c.args.self.now.rule in
    let n = length c.args.energies.now in
    let m = length c.args.amounts.now in
    let figures = c.figures-figures.result in
    let cs = c.as_slice.result.now in
    let held : cs ≡ (plant_in f p).contracts = c.as_slice.ensures.value ∙ c.gather.ensures in
    let sound = plant_sound f p (plant_parts p c.args.plant.known).1 (sound_of f c.args.self.now.sound) in
    let is : figures_of figures cs shares ≡ plant_in f p = ap (λ x. figures_of x cs shares) c.figures-figures.ensures ∙ ap (λ l. figures_of (plant_in f p).plant l shares) held in
    let none : settle_declined figures cs n m ≡ None =
    ap (λ x. settle_declined x cs n m) c.figures-figures.ensures ∙ ap (λ l. settle_declined (plant_in f p).plant l n m) held ∙ accepted (plant_in f p).plant (plant_in f p).contracts n m sound c.requires.energies c.requires.amounts in
    let told = c.settle.ensures in
    record {
      answer = was_value (settle_declined figures cs n m) c.unwrap.result (settlement_of (figures_of figures cs shares)) (sym c.unwrap.ensures ∙ told.answer) ∙ ap settlement_of is;
      energies = told.energies ∙ ap (λ w. placed w (settled_energies (figures_of figures cs shares)) c.args.energies.now) none ∙ ap settled_energies is;
      amounts = told.amounts ∙ ap (λ w. placed w (settled_amounts (figures_of figures cs shares)) c.args.amounts.now) none ∙ ap settled_amounts is;
    }
