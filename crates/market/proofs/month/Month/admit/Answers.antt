use Rattle.std.proofs.Common.{◌≡◌, None, sym, ◌∙◌, arith}
use Rattle.std.proofs.lemmas.Bool.Decides.{nat_tests}
use Rattle.market.specs.Admitting.{settle_declined}
use Rattle.market.proofs.Admitted.{contracted_is, contracted_under, admitted}
use Rattle.market.proofs.month.Month.admit.Goals as goal
use Rattle.market.proofs.month.Month.admit.Goals.{then-past_limit-via-then-past_limit, then-past_limit-via-else-past_limit+then-any_past_limit}

pub returns-then-past_limit-clause-declined : goal.returns-then-past_limit-clause-declined
unfolding settle_declined
returns-then-past_limit-clause-declined c =
    elim c.then-past_limit.branch [
      | then-past_limit-via-then-past_limit w ↦ let yes = w.if-past_limit.true in grind (arith, nat_tests)
      | then-past_limit-via-else-past_limit+then-any_past_limit w ↦ let yes = w.if-any_past_limit.true in let is = w.any_past_limit.ensures in grind (arith, nat_tests)
    ]

pub returns-then-any_not_held-clause-declined : goal.returns-then-any_not_held-clause-declined
unfolding settle_declined
returns-then-any_not_held-clause-declined c = grind (arith, nat_tests)

pub returns-then-kwh-clause-declined : goal.returns-then-kwh-clause-declined
unfolding settle_declined
returns-then-kwh-clause-declined c = grind (arith, nat_tests)

pub returns-then-contracts-gt-MOST_CONTRACTS-clause-declined : goal.returns-then-contracts-gt-MOST_CONTRACTS-clause-declined
unfolding settle_declined
returns-then-contracts-gt-MOST_CONTRACTS-clause-declined c = grind (arith, nat_tests)

pub total_energy-requires : goal.total_energy-requires
total_energy-requires c =
    omega (arith, contracted_is c.args.contracts.now, contracted_under c.args.contracts.now (sym c.any_past_limit.ensures ∙ c.if-any_past_limit.false))

pub returns-then-not-within_limit-clause-declined : goal.returns-then-not-within_limit-clause-declined
unfolding settle_declined
returns-then-not-within_limit-clause-declined c = let is = contracted_is c.args.contracts.now in grind (arith, nat_tests)

pub returns-then-energies-contracts-clause-declined : goal.returns-then-energies-contracts-clause-declined
unfolding settle_declined
returns-then-energies-contracts-clause-declined c = let is = contracted_is c.args.contracts.now in grind (arith, nat_tests)

pub returns-clause-admitted : goal.returns-clause-admitted
unfolding settle_declined
returns-clause-admitted c = let is = contracted_is c.args.contracts.now in grind (arith, nat_tests)

pub invariant_of-result : goal.invariant_of-result
unfolding settle_declined
invariant_of-result c =
    let is = contracted_is c.args.contracts.now in
    let none : settle_declined c.args.plant c.args.contracts.now c.args.energies c.args.amounts ≡ None = grind (arith, nat_tests) in
    record { sound = (admitted c.args.plant c.args.contracts.now c.args.energies c.args.amounts none).0 }
