use Rattle.std.proofs.Common.{neg_ℤ, arith}
use Rattle.std.proofs.lemmas.Int.{ints}
use Rattle.units.proofs.Fitting.{grains_held, grains_value}
use Rattle.book.proofs.account.reversed.Goals as goal

pub unwrap-requires : goal.unwrap-requires
unwrap-requires c = grains_held c.checked_neg.result (neg_ℤ c.args.amount.count) c.checked_neg.ensures (omega (arith, ints, c.requires))

pub returns : goal.returns
returns c = grains_value c.checked_neg.result (neg_ℤ c.args.amount.count) c.unwrap.result c.checked_neg.ensures (omega (arith, ints, c.requires)) c.unwrap.ensures
