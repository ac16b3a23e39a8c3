use Rattle.std.proofs.Common.{get_or, set, ap, ◌∙◌, arith, length-set}
use Rattle.std.proofs.lemmas.List.{get_or_default}
use Rattle.std.proofs.lemmas.List.Edits.{map_over_more}
use Rattle.book.specs.Accounts.{turned, blank}
use Rattle.book.proofs.accounts.AccountTable.turn.Goals as goal

pub loop-account-preserved : goal.loop-account-preserved
loop-account-preserved c =
    let xs = c.args.self.now.rows in
    let ys = c.loop-account.account-items in
    let i = c.loop-account.account-index in
    let x = get_or ys i blank in
    let v = c.loop-account.invariant in (
      length-set ys i _ ∙ v.0,
      ap (set ys i) c.turn.ensures ∙ map_over_more turned xs ys i x (omega (arith, c.args.self.now.all, c.loop-account-test.true)) v.1 (get_or_default ys i blank x (omega (arith, v.0, c.loop-account-test.true))),
    )
