use Rattle.std.proofs.Common.{◌≡◌, length, arith}
use Rattle.std.proofs.lemmas.List.{length-map}
use Rattle.std.proofs.lemmas.Bool.Decides.{nat_tests}
use Rattle.units.specs.declared.energy.Energy.{Energy}
use Rattle.market.specs.Dividing.{divide_declined, kwhs}
use Rattle.market.proofs.Declining.{above_is}
use Rattle.market.proofs.division.admit.Goals as goal
use Rattle.market.proofs.division.admit.Goals.{then-not-within_limit-via-then-not-within_limit, then-not-within_limit-via-else-not-within_limit+then-any_past_limit}

pub returns-then-claims-ne-RANKS : goal.returns-then-claims-ne-RANKS
unfolding divide_declined
returns-then-claims-ne-RANKS c =
    let long : length (kwhs c.args.claims.now) ≡ length c.args.claims.now = length-map c.args.claims.now (λ (e : Energy). e.kwh) in
    grind (arith, nat_tests)

pub returns-then-not-within_limit : goal.returns-then-not-within_limit
unfolding divide_declined
returns-then-not-within_limit c =
    let long : length (kwhs c.args.claims.now) ≡ length c.args.claims.now = length-map c.args.claims.now (λ (e : Energy). e.kwh) in
    let above = above_is 3000000000 c.args.claims.now in
    elim c.then-not-within_limit.branch [
      | then-not-within_limit-via-then-not-within_limit w ↦ let no = w.if-not-within_limit.true in grind (arith, nat_tests)
      | then-not-within_limit-via-else-not-within_limit+then-any_past_limit w ↦ let yes = w.if-any_past_limit.true in let is = w.any_past_limit.ensures in grind (arith, nat_tests)
    ]

pub returns : goal.returns
unfolding divide_declined
returns c =
    let long : length (kwhs c.args.claims.now) ≡ length c.args.claims.now = length-map c.args.claims.now (λ (e : Energy). e.kwh) in
    let above = above_is 3000000000 c.args.claims.now in
    grind (arith, nat_tests)
