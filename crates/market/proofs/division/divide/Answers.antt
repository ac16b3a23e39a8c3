use Rattle.std.proofs.Common.{◌≡◌, length, None, sym, ap, ◌∙◌, subst, arith}
use Rattle.std.proofs.lemmas.List.{length-map}
use Rattle.units.specs.declared.energy.Energy.{Energy}
use Rattle.market.specs.Dividing.{kwhs, energy, energies, divided, left_over, unfilled, divide_declined, Filled}
use Rattle.sharing.specs.Declining.{answered, placed}
use Rattle.sharing.proofs.Granted.{was_none}
use Rattle.market.proofs.Declining.{same_pair, division_long}
use Rattle.market.proofs.Filling.{divided_filled, kwhs_energies}
use Rattle.market.proofs.division.divide.Goals as goal

pub fill-requires : goal.fill-requires
fill-requires c =
    let m = c.args.metered.kwh in
    let xs = kwhs c.args.claims.now in
    let n = length c.args.parts.now in
    let known = division_long m xs n (was_none (divide_declined m xs n) tt tt c.in_ok-admit.ensures) in
    record {
      long = omega (arith, known.0, known.1, length-map c.args.claims.now (λ (e : Energy). e.kwh));
      fits = omega (arith, known.2);
    }

pub returns : goal.returns
returns c =
    let m = c.args.metered.kwh in
    let xs = kwhs c.args.claims.now in
    let old = c.args.parts.now in
    let none : divide_declined m xs (length old) ≡ None = was_none (divide_declined m xs (length old)) tt tt c.in_ok-admit.ensures in
    let left : c.fill.result.0.kwh ≡ left_over m xs = ap (λ (e : Energy). e.kwh) c.fill.ensures.left in
    let missing : c.fill.result.1.kwh ≡ unfilled m xs = ap (λ (e : Energy). e.kwh) c.fill.ensures.missing in
    let parts : kwhs c.fill.new.parts ≡ divided m xs = ap kwhs c.fill.ensures.after ∙ kwhs_energies (divided m xs) in
    let pair : Energy × Energy = (energy (left_over m xs), energy (unfilled m xs)) in
    let same : c.fill.result ≡ pair = same_pair c.fill.result pair c.fill.ensures.left c.fill.ensures.missing in
    record {
      answer = ap (λ x. answered None x) same ∙ ap (λ w. answered w pair) (sym none);
      after = c.fill.ensures.after ∙ ap (λ w. placed w (energies (divided m xs)) old) (sym none);
      filled = subst (λ l. Filled m xs (kwhs c.fill.new.parts) l c.fill.result.1.kwh) (sym left) (subst (λ k. Filled m xs (kwhs c.fill.new.parts) (left_over m xs) k) (sym missing) (subst (λ ps. Filled m xs ps (left_over m xs) (unfilled m xs)) (sym parts) (divided_filled m xs)));
    }
