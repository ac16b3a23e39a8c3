use Rattle.std.proofs.Common.{◌≡◌, get_or, sum, pos, sym, ap, ◌∙◌, subst, arith}
use Rattle.units.specs.declared.energy.Energy.{Energy}
use Rattle.market.specs.declared.kinds.Rank.TheVariants.{Aluminium}
use Rattle.market.specs.Dealing.{Covered}
use Rattle.market.specs.Dividing.{energy, kwhs, divided, left_over}
use Rattle.market.specs.Figures.{rank_parts}
use Rattle.market.specs.Kinds.{rank_number}
use Rattle.market.specs.Laws.{figures_of}
use Rattle.market.proofs.Admitted.{contracted_is}
use Rattle.market.proofs.Dealt.{get_d_kwhs, rank_claims_sum}
use Rattle.market.proofs.Filling.{kwhs_energies}
use Rattle.market.proofs.Paid.{count_is}
use Rattle.market.proofs.Settled.{covered, shared_are, rank_is, amounts_are, paid_is, paid_le, Steps, payable, concluded_is}
use Rattle.market.proofs.month.Month.settle.Goals as goal

pub fill-requires-clause-fits : goal.fill-requires-clause-fits
fill-requires-clause-fits g c =
    let month = c.args.self.now in
    omega (arith, ap sum c.claims-claims.ensures, rank_claims_sum month.plant.commissioning.kwh month.contracts.now, month.sound.whole, month.sound.commissioning, month.sound.metered)

pub share-requires-clause-covered : goal.share-requires-clause-covered
share-requires-clause-covered g c =
    let cs = c.args.self.now.contracts.now in
    let f = figures_of c.args.self.now.plant cs (g.R.Share.shares c.args.rule.now) in
    let is = c.claims-claims.ensures in
    let after : kwhs c.fill.new.parts ≡ rank_parts f = ap kwhs c.fill.ensures.after ∙ kwhs_energies _ ∙ ap (divided f.plant.metered.kwh) is in
    subst (Covered cs) (sym after) (covered f)

pub pay_contracts-requires-clause-fits : goal.pay_contracts-requires-clause-fits
pay_contracts-requires-clause-fits g c =
    let cs = c.args.self.now.contracts.now in
    let f = figures_of c.args.self.now.plant cs (g.R.Share.shares c.args.rule.now) in
    let sound = c.args.self.now.sound in
    let is = c.claims-claims.ensures in
    let after : kwhs c.fill.new.parts ≡ rank_parts f = ap kwhs c.fill.ensures.after ∙ kwhs_energies _ ∙ ap (divided f.plant.metered.kwh) is in
    let es = shared_are f sound c.fill.new.parts c.args.energies.now c.share.new.energies after c.requires.energies c.share.ensures in
    omega (arith, paid_is f c.tariff-tariff.result c.share.new.energies c.tariff-tariff.ensures es, paid_le f (g.met.R.Share.fair c.args.rule.now) sound)

pub overflow_sub-missing : goal.overflow_sub-missing
overflow_sub-missing g c =
    let cs = c.args.self.now.contracts.now in
    let f = figures_of c.args.self.now.plant cs (g.R.Share.shares c.args.rule.now) in
    let is = c.claims-claims.ensures in
    let after : kwhs c.fill.new.parts ≡ rank_parts f = ap kwhs c.fill.ensures.after ∙ kwhs_energies _ ∙ ap (divided f.plant.metered.kwh) is in
    let claimed = c.kwh.ensures ∙ ap (λ k. (get_or c.claims-claims.result k (energy 0)).kwh) c.place.ensures.value ∙ get_d_kwhs c.claims-claims.result 4 ∙ ap (λ l. get_or l 4 0) is in
    let given = c.kwh-2.ensures ∙ ap (λ k. (get_or c.fill.new.parts k (energy 0)).kwh) c.place-2.ensures.value ∙ rank_is f c.fill.new.parts 4 after in
    omega (arith, claimed, given, covered f Aluminium (λ e. omega (arith, ap rank_number e)))

pub total_energy-requires : goal.total_energy-requires
total_energy-requires g c = omega (arith, contracted_is c.args.self.now.contracts.now, c.args.self.now.sound.whole)

pub invariant_of-account : goal.invariant_of-account
invariant_of-account g c =
    let cs = c.args.self.now.contracts.now in
    let f = figures_of c.args.self.now.plant cs (g.R.Share.shares c.args.rule.now) in
    let sound = c.args.self.now.sound in
    let is = c.claims-claims.ensures in
    let after : kwhs c.fill.new.parts ≡ rank_parts f = ap kwhs c.fill.ensures.after ∙ kwhs_energies _ ∙ ap (divided f.plant.metered.kwh) is in
    let es = shared_are f sound c.fill.new.parts c.args.energies.now c.share.new.energies after c.requires.energies c.share.ensures in
    let claimed = c.kwh.ensures ∙ ap (λ k. (get_or c.claims-claims.result k (energy 0)).kwh) c.place.ensures.value ∙ get_d_kwhs c.claims-claims.result 4 ∙ ap (λ l. get_or l 4 0) is in
    let given = c.kwh-2.ensures ∙ ap (λ k. (get_or c.fill.new.parts k (energy 0)).kwh) c.place-2.ensures.value ∙ rank_is f c.fill.new.parts 4 after in
    let t = c.tariff-tariff.result in
    let lawful = g.met.R.Share.fair c.args.rule.now in
    let third = (get_or c.fill.new.parts c.place-3.result (energy 0)).kwh in
    let steps : Steps f t c.total_energy.result.kwh c.unwrap-paid.result.count third c.fill.result.0.kwh c.from_kwh.result.kwh =
    record {
      tariff = c.tariff-tariff.ensures;
      contracts = c.total_energy.ensures ∙ sym (contracted_is cs);
      sold = count_is _ _ _ c.pay_contracts.ensures.total c.unwrap-paid.ensures ∙ ap pos (paid_is f t c.share.new.energies c.tariff-tariff.ensures es);
      third = ap (λ k. (get_or c.fill.new.parts k (energy 0)).kwh) c.place-3.ensures.value ∙ rank_is f c.fill.new.parts 2 after;
      over = ap (λ (e : Energy). e.kwh) c.fill.ensures.left ∙ ap (left_over f.plant.metered.kwh) is;
      fifth = omega (arith, c.from_kwh.ensures, claimed, given);
    } in
    record { payable = payable f t _ _ _ _ _ steps lawful sound }

pub returns-clause-answer : goal.returns-clause-answer
returns-clause-answer g c =
    let cs = c.args.self.now.contracts.now in
    let f = figures_of c.args.self.now.plant cs (g.R.Share.shares c.args.rule.now) in
    let sound = c.args.self.now.sound in
    let is = c.claims-claims.ensures in
    let after : kwhs c.fill.new.parts ≡ rank_parts f = ap kwhs c.fill.ensures.after ∙ kwhs_energies _ ∙ ap (divided f.plant.metered.kwh) is in
    let es = shared_are f sound c.fill.new.parts c.args.energies.now c.share.new.energies after c.requires.energies c.share.ensures in
    let claimed = c.kwh.ensures ∙ ap (λ k. (get_or c.claims-claims.result k (energy 0)).kwh) c.place.ensures.value ∙ get_d_kwhs c.claims-claims.result 4 ∙ ap (λ l. get_or l 4 0) is in
    let given = c.kwh-2.ensures ∙ ap (λ k. (get_or c.fill.new.parts k (energy 0)).kwh) c.place-2.ensures.value ∙ rank_is f c.fill.new.parts 4 after in
    let t = c.tariff-tariff.result in
    let third = (get_or c.fill.new.parts c.place-3.result (energy 0)).kwh in
    let steps : Steps f t c.total_energy.result.kwh c.unwrap-paid.result.count third c.fill.result.0.kwh c.from_kwh.result.kwh =
    record {
      tariff = c.tariff-tariff.ensures;
      contracts = c.total_energy.ensures ∙ sym (contracted_is cs);
      sold = count_is _ _ _ c.pay_contracts.ensures.total c.unwrap-paid.ensures ∙ ap pos (paid_is f t c.share.new.energies c.tariff-tariff.ensures es);
      third = ap (λ k. (get_or c.fill.new.parts k (energy 0)).kwh) c.place-3.ensures.value ∙ rank_is f c.fill.new.parts 2 after;
      over = ap (λ (e : Energy). e.kwh) c.fill.ensures.left ∙ ap (left_over f.plant.metered.kwh) is;
      fifth = omega (arith, c.from_kwh.ensures, claimed, given);
    } in
    c.settlement.ensures ∙ concluded_is f t _ _ _ _ _ steps

pub returns-clause-energies : goal.returns-clause-energies
returns-clause-energies g c =
    let cs = c.args.self.now.contracts.now in
    let f = figures_of c.args.self.now.plant cs (g.R.Share.shares c.args.rule.now) in
    let sound = c.args.self.now.sound in
    let is = c.claims-claims.ensures in
    let after : kwhs c.fill.new.parts ≡ rank_parts f = ap kwhs c.fill.ensures.after ∙ kwhs_energies _ ∙ ap (divided f.plant.metered.kwh) is in
    shared_are f sound c.fill.new.parts c.args.energies.now c.share.new.energies after c.requires.energies c.share.ensures

pub returns-clause-amounts : goal.returns-clause-amounts
returns-clause-amounts g c =
    let cs = c.args.self.now.contracts.now in
    let f = figures_of c.args.self.now.plant cs (g.R.Share.shares c.args.rule.now) in
    let sound = c.args.self.now.sound in
    let is = c.claims-claims.ensures in
    let after : kwhs c.fill.new.parts ≡ rank_parts f = ap kwhs c.fill.ensures.after ∙ kwhs_energies _ ∙ ap (divided f.plant.metered.kwh) is in
    let es = shared_are f sound c.fill.new.parts c.args.energies.now c.share.new.energies after c.requires.energies c.share.ensures in
    amounts_are f c.tariff-tariff.result c.share.new.energies c.pay_contracts.new.amounts c.tariff-tariff.ensures es c.pay_contracts.ensures.after
