use Rattle.std.proofs.Common.{◌≡◌, length, is_ok, ap, ◌∙◌, rules}
use Rattle.sharing.specs.Declining.{answered}
use Rattle.market.specs.Figures.{settlement_of}
use Rattle.book.specs.Holds.{ledger_of}
use Rattle.book.specs.Ledgers.{plant_in}
use Rattle.book.proofs.Props.{sound_of}
use Rattle.statement.proofs.Metered.{can_settle}
use Rattle.statement.proofs.issuing.settle_plant.Goals as goal

pub unwrap-requires : goal.unwrap-requires
unwrap-requires g c =
    let b = c.args.book.now in
    let f = ledger_of g.R.Share.shares b in
    let p = c.args.plant in
    let long : length c.as_mut_slice.result.now ≡ c.contract_count-count.result = search rules in
    let wide : length c.as_mut_slice-2.result.now ≡ c.contract_count-count.result = search rules in
    let can = can_settle f p _ _ (sound_of f b.sound) c.requires (long ∙ c.contract_count-count.ensures) (wide ∙ c.contract_count-count.ensures) in
    ap is_ok (c.settle-settlement.ensures.answer ∙ ap (λ w. answered w (settlement_of (plant_in f p))) can)
