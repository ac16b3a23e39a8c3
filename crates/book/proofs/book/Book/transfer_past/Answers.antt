use Rattle.std.proofs.Common.{◌≡◌, true, nat_abs, ap, ◌∙◌, arith, rules}
use Rattle.std.proofs.lemmas.Bool.{leb-true}
use Rattle.std.proofs.lemmas.Int.{ints}
use Rattle.book.specs.declared.account.Account.{Account}
use Rattle.book.specs.Accounts.{account_of}
use Rattle.book.specs.Calls.{transfer_past}
use Rattle.book.specs.Holds.{ledger_of}
use Rattle.book.specs.Rows.{row_ok}
use Rattle.book.proofs.Figured.{row_plant, receiver_sum, fair_of}
use Rattle.book.proofs.Props.{sound_of}
use Rattle.book.proofs.RowFacts.{all_found}
use Rattle.book.proofs.Tables.{within, transfer_within_lem}
use Rattle.book.proofs.book.Book.transfer_past.Goals as goal

pub transfer_fee-paid-requires : goal.transfer_fee-paid-requires
transfer_fee-paid-requires g c =
    let f = ledger_of g.R.Share.shares c.args.self.now in
    let s = sound_of f c.args.self.now.sound in
    let row = c.args.row in
    let w = within row (all_found (λ c. row_ok c ≡ true) row.number f.rows row s.each c.requires.row) in
    let o = c.args.order in
    let limits = transfer_within_lem o.new o.old o.receiver.number o.energy o.price o.within in
    record { energy = leb-true _ _ limits.4; contract = w.price; transfer = leb-true _ _ limits.5 }

pub plant_sum-held-requires : goal.plant_sum-held-requires
plant_sum-held-requires g c =
    let f = ledger_of g.R.Share.shares c.args.self.now in (sound_of f c.args.self.now.sound).sums c.args.order.receiver.number

pub overflow_add-kwh : goal.overflow_add-kwh
overflow_add-kwh g c =
    let f = ledger_of g.R.Share.shares c.args.self.now in
    let most = (sound_of f c.args.self.now.sound).sums c.args.order.receiver.number in
    let o = c.args.order in
    let small = leb-true _ _ (transfer_within_lem o.new o.old o.receiver.number o.energy o.price o.within).4 in
    search rules

pub holding-requires : goal.holding-requires
holding-requires g c =
    let f = ledger_of g.R.Share.shares c.args.self.now in
    row_plant f c.args.row.number c.args.row (sound_of f c.args.self.now.sound) c.requires.row

pub side_allows-requires : goal.side_allows-requires
side_allows-requires g c =
    let f = ledger_of g.R.Share.shares c.args.self.now in
    let s = sound_of f c.args.self.now.sound in
    let fair = fair_of f c.args.row.plant s (row_plant f c.args.row.number c.args.row s c.requires.row) in
    record { side = omega (arith, ap (λ (a : Account). nat_abs a.side.count) (c.at.ensures ∙ ap (λ n. account_of n f.accounts) c.holding.ensures), fair.side); amount = c.transfer_fee-paid.ensures.bound }

pub side_allows-requires-else-not-side_allows : goal.side_allows-requires-else-not-side_allows
side_allows-requires-else-not-side_allows g c =
    let f = ledger_of g.R.Share.shares c.args.self.now in
    let s = sound_of f c.args.self.now.sound in
    let fair = fair_of f c.args.order.receiver.number s c.args.order.receiver.known in
    record { side = omega (arith, ap (λ (a : Account). nat_abs a.side.count) c.at-2.ensures, fair.side); amount = omega (arith, ints, c.reversed.ensures, c.transfer_fee-paid.ensures.bound) }

pub returns-then-not-side_allows : goal.returns-then-not-side_allows
unfolding transfer_past
returns-then-not-side_allows g c =
    let f = ledger_of g.R.Share.shares c.args.self.now in
    let s = sound_of f c.args.self.now.sound in
    let sum = receiver_sum c.args.order.new c.args.order.receiver.number c.args.order.energy c.args.row f.rows s.rises c.requires.row c.requires.apart in
    search rules

pub returns-else-not-side_allows : goal.returns-else-not-side_allows
unfolding transfer_past
returns-else-not-side_allows g c =
    let f = ledger_of g.R.Share.shares c.args.self.now in
    let s = sound_of f c.args.self.now.sound in
    let sum = receiver_sum c.args.order.new c.args.order.receiver.number c.args.order.energy c.args.row f.rows s.rises c.requires.row c.requires.apart in
    search rules
