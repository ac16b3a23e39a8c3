use Rattle.std.proofs.Common.{◌≡◌, ◌<◌, length, get_or, neg_ℤ, nat_abs, sym, ap, ◌∙◌, arith}
use Rattle.std.proofs.lemmas.Grind.{common_steps}
use Rattle.book.specs.Accounts.{blank, side_moved}
use Rattle.book.proofs.AccountLoops.{unpaid, part_left, pays, skips}
use Rattle.book.proofs.accounts.AccountTable.debit.Goals as goal
use Rattle.book.proofs.accounts.AccountTable.debit.Goals.{then-is_some+in-Some, then-is_some+in_default, else-is_some}

pub move_side-requires-clause-side : goal.move_side-requires-clause-side
move_side-requires-clause-side c =
    let v = c.loop-account in
    let same = unpaid c.args.self.now.rows c.args.parts.now v.account-index v.account-items v.parts.rest.now blank v.invariant (omega (arith, c.args.self.now.all, c.loop-account-test.true)) in
    omega (arith, ap (λ a. nat_abs a.side.count) same, c.requires.bounded v.account-index)

pub loop-account-preserved : goal.loop-account-preserved
loop-account-preserved c =
    let v = c.loop-account in
    let xs = c.args.self.now.rows in
    let here : v.account-index < length xs = omega (arith, c.args.self.now.all, c.loop-account-test.true) in
    elim c.if-is_some.branch [
      | then-is_some+in-Some w ↦ rw (w.parts-is, w.account-items-is) (pays xs c.args.parts.now v.account-index v.account-items v.parts.rest.now blank v.invariant here w.in-Some.part.now _ _ w.in-Some.ensures.steps (sym w.if-is_some.ensures) (w.move_side.ensures ∙ ap (λ z. side_moved z (get_or v.account-items v.account-index blank)) (w.reversed.ensures ∙ ap neg_ℤ w.credit.ensures)))
      | then-is_some+in_default w ↦ let out : length v.parts.rest.now ≡ 0 = grind (arith, common_steps) in absurd (part_left xs c.args.parts.now v.account-index v.account-items v.parts.rest.now blank v.invariant here (sym w.if-is_some.ensures) out)
      | else-is_some w ↦ rw (w.parts-is, w.account-items-is) (skips xs c.args.parts.now v.account-index v.account-items v.parts.rest.now blank v.invariant here (sym w.if-is_some.ensures))
    ]
