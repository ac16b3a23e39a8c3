use Rattle.std.proofs.Common.{◌≡◌, List, length, None, sym, ap, ◌∙◌, subst}
use Rattle.units.specs.declared.energy.Energy.{Energy}
use Rattle.market.specs.declared.figures.Settlement.{Settlement}
use Rattle.market.specs.declared.figures.PlantFigures.{PlantFigures}
use Rattle.market.specs.Admitting.{settle_declined}
use Rattle.market.specs.Figures.{settled_energies, settled_amounts, settlement_of}
use Rattle.market.specs.Laws.{figures_of, Settles}
use Rattle.sharing.specs.Declining.{answered, placed}
use Rattle.market.proofs.Admitted.{admitted}
use Rattle.market.proofs.Settled.{settles}
use Rattle.market.proofs.settling.settle.Goals as goal

pub settle-requires-clause-energies : goal.settle-requires-clause-energies
settle-requires-clause-energies g c =
    let known = admitted c.args.plant c.args.contracts.now (length c.args.energies.now) (length c.args.amounts.now) c.in_ok-month.ensures.admitted in
    known.1 ∙ sym (ap length c.in_ok-month.ensures.same.1)

pub settle-requires-clause-amounts : goal.settle-requires-clause-amounts
settle-requires-clause-amounts g c =
    let known = admitted c.args.plant c.args.contracts.now (length c.args.energies.now) (length c.args.amounts.now) c.in_ok-month.ensures.admitted in
    known.2 ∙ sym (ap length c.in_ok-month.ensures.same.1)

pub returns : goal.returns
returns g c =
    let p = c.args.plant in
    let cs = c.args.contracts.now in
    let before = c.args.energies.now in
    let old = c.args.amounts.now in
    let shares = g.R.Share.shares c.args.rule.now in
    let f = figures_of p cs shares in
    let month = c.in_ok-month.month in
    let none : settle_declined p cs (length before) (length old) ≡ None = c.in_ok-month.ensures.admitted in
    let same : figures_of month.plant month.contracts.now shares ≡ f = ap (λ (q : PlantFigures). figures_of q month.contracts.now shares) c.in_ok-month.ensures.same.0 ∙ ap (λ l. figures_of p l shares) c.in_ok-month.ensures.same.1 in
    let told = c.settle.ensures in
    let answer = told.answer ∙ ap settlement_of same in
    let energies = told.energies ∙ ap settled_energies same in
    let kept = settles f (g.met.R.Share.fair c.args.rule.now) (admitted p cs (length before) (length old) none).0 in
    record {
      answer = ap (answered None) answer ∙ ap (λ w. answered w (settlement_of f)) (sym none);
      energies = energies ∙ ap (λ w. placed w (settled_energies f) before) (sym none);
      amounts = told.amounts ∙ ap settled_amounts same ∙ ap (λ w. placed w (settled_amounts f) old) (sym none);
      settles = subst (λ (s : Settlement). Settles f c.settle.new.energies s) (sym answer) (subst (λ (es : List Energy). Settles f es (settlement_of f)) (sym energies) kept);
    }
