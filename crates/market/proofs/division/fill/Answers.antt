use Rattle.std.proofs.Common.{◌≡◌, drop, sum, sym, refl, ap, ◌∙◌, arith}
use Rattle.std.proofs.lemmas.List.{at_drop_all}
use Rattle.market.specs.Dividing.{energy, energies, kwhs}
use Rattle.market.proofs.Filling.{taken, divided_is, sum_drop, fill_more, fill_all}
use Rattle.market.proofs.division.fill.Goals as goal

pub overflow_add-missing : goal.overflow_add-missing
overflow_add-missing c = let s = sum_drop c.args.claims.now c.loop-i.i c.loop-i-test.true in omega arith

pub loop-i-init : goal.loop-i-init
loop-i-init c = (refl, omega arith, refl)

pub loop-i-preserved : goal.loop-i-preserved
loop-i-preserved c =
    let s = sum_drop c.args.claims.now c.loop-i.i c.loop-i-test.true in (
      omega arith,
      omega arith,
      fill_more c.loop-i.left c.args.claims.now c.loop-i.parts c.loop-i.i c.kwh-taken.result c.part_of-part.result (omega arith) (omega arith) (omega arith) (omega arith)
          ∙ c.loop-i.invariant.2,
    )

pub returns : goal.returns
returns c =
    let xs = c.args.claims.now in
    let none : sum (kwhs (drop c.loop-i.i xs)) ≡ 0 = at_drop_all (λ l. sum (kwhs l)) xs c.loop-i.i c.loop-i-test.false in
    let m = c.kwh-left.ensures in
    record {
      left = ap energy (omega arith);
      missing = ap energy (omega arith);
      after =
          sym (fill_all c.loop-i.left xs c.loop-i.parts c.loop-i.i (omega arith) (omega arith))
          ∙ c.loop-i.invariant.2 ∙ ap (λ n. energies (taken n (kwhs xs))) m ∙ ap energies (sym (divided_is c.args.metered.kwh (kwhs xs)));
    }
