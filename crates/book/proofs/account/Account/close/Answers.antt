use Rattle.std.proofs.Common.{◌+ℤ◌, ◌-ℤ◌, ap, ◌∙◌, arith}
use Rattle.std.proofs.lemmas.Int.{ints}
use Rattle.units.proofs.Fitting.{grains_held, grains_value}
use Rattle.book.proofs.AccountMoves.{closed_is}
use Rattle.book.proofs.account.Account.close.Goals as goal

pub unwrap-change-requires : goal.unwrap-change-requires
unwrap-change-requires c =
    grains_held c.checked_sub.result (c.args.net.count -ℤ c.args.at_issue.count) c.checked_sub.ensures (omega (arith, ints, c.requires.net, c.requires.issued))

pub unwrap-self-requires : goal.unwrap-self-requires
unwrap-self-requires c =
    let change = grains_value c.checked_sub.result (c.args.net.count -ℤ c.args.at_issue.count) c.unwrap-change.result c.checked_sub.ensures (omega (arith, ints, c.requires.net, c.requires.issued)) c.unwrap-change.ensures in
    grains_held c.checked_add.result (c.args.self.now.carry.count +ℤ c.unwrap-change.result.count) c.checked_add.ensures (omega (arith, ints, change, c.requires.net, c.requires.issued, c.requires.carry))

pub returns : goal.returns
returns c =
    let change = grains_value c.checked_sub.result (c.args.net.count -ℤ c.args.at_issue.count) c.unwrap-change.result c.checked_sub.ensures (omega (arith, ints, c.requires.net, c.requires.issued)) c.unwrap-change.ensures in
    let carry = grains_value c.checked_add.result (c.args.self.now.carry.count +ℤ c.unwrap-change.result.count) c.unwrap-self.result c.checked_add.ensures (omega (arith, ints, change, c.requires.net, c.requires.issued, c.requires.carry)) c.unwrap-self.ensures in
    closed_is c.args.self.now c.args.net.count c.args.at_issue c.unwrap-self.result c.requires.same (carry ∙ ap (λ z. c.args.self.now.carry.count +ℤ z) change)
