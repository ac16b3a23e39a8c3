use Rattle.std.proofs.Common.{◌+ℤ◌, ap, ◌∙◌, arith}
use Rattle.std.proofs.lemmas.Int.{ints}
use Rattle.units.specs.Limits.{side_balance}
use Rattle.units.proofs.Fitting.{grains_held, grains_value}
use Rattle.book.proofs.book.checks.side_allows.Goals as goal

pub unwrap-requires : goal.unwrap-requires
unwrap-requires c =
    grains_held c.checked_add.result (c.args.side.count +ℤ c.args.amount.count) c.checked_add.ensures (omega (arith, ints, c.requires.side, c.requires.amount))

pub returns : goal.returns
returns c =
    c.within_side_limit.ensures
    ∙ ap side_balance (grains_value c.checked_add.result (c.args.side.count +ℤ c.args.amount.count) c.unwrap.result c.checked_add.ensures (omega (arith, ints, c.requires.side, c.requires.amount)) c.unwrap.ensures)
