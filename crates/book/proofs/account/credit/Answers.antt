use Rattle.std.proofs.Common.{pos, ◌*ℤ◌, arith}
use Rattle.std.proofs.lemmas.Int.{ints}
use Rattle.units.proofs.Fitting.{grains_held, grains_value}
use Rattle.book.proofs.account.credit.Goals as goal

pub unwrap-requires : goal.unwrap-requires
unwrap-requires c =
    grains_held c.grains.result (c.from_count.result.count *ℤ pos 1000000) c.grains.ensures (omega (arith, ints, c.from_count.ensures, c.requires))

pub returns : goal.returns
returns c =
    let value = grains_value c.grains.result (c.from_count.result.count *ℤ pos 1000000) c.unwrap.result c.grains.ensures (omega (arith, ints, c.from_count.ensures, c.requires)) c.unwrap.ensures in
    omega (arith, ints, value, c.from_count.ensures, c.requires)
