use Rattle.std.proofs.Common.{◌+ℤ◌, arith}
use Rattle.std.proofs.lemmas.Int.{ints}
use Rattle.units.proofs.Fitting.{grains_held, grains_value}
use Rattle.book.proofs.AccountMoves.{moved_is}
use Rattle.book.proofs.account.Account.move_side.Goals as goal

pub unwrap-self-requires : goal.unwrap-self-requires
unwrap-self-requires c =
    grains_held c.checked_add.result (c.args.self.now.side.count +ℤ c.args.amount.count) c.checked_add.ensures (omega (arith, ints, c.requires.side, c.requires.amount))

pub returns : goal.returns
returns c =
    moved_is c.args.self.now c.unwrap-self.result _
    (grains_value c.checked_add.result (c.args.self.now.side.count +ℤ c.args.amount.count) c.unwrap-self.result c.checked_add.ensures (omega (arith, ints, c.requires.side, c.requires.amount)) c.unwrap-self.ensures)
