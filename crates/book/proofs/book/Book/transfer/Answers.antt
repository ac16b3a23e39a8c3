use Rattle.std.proofs.Common.{◌≡◌, ◌-◌, ◌≤◌, length, neg_ℤ, nat_abs, is_some, Some, sym, refl, ap, ◌∙◌, arith, rules}
use Rattle.std.proofs.lemmas.Int.{ints}
use Rattle.book.specs.declared.account.Account.{Account}
use Rattle.book.specs.declared.call.Call.TheVariants.{Transfer}
use Rattle.book.specs.Accounts.{account_of, with_account, side_moved}
use Rattle.book.specs.Calls.{accepted, transferred, fee_for}
use Rattle.book.specs.Holds.{ledger_of}
use Rattle.book.specs.Ledgers.{Ledger}
use Rattle.book.specs.Rows.{rising, row_of, with_row, with_energy, split_off}
use Rattle.book.proofs.AccountFacts.{account_other}
use Rattle.book.proofs.Figured.{transferable, row_plant, fair_of, makes_for, order_call}
use Rattle.book.proofs.Kept.{transfer_sound}
use Rattle.book.proofs.Makings.{makes_accepted, same_figures}
use Rattle.book.proofs.Props.{sound_of, kept}
use Rattle.book.proofs.RowFacts.{length_energy, number_found, rising_energy}
use Rattle.book.proofs.Tables.{plant_parts}
use Rattle.book.proofs.book.Book.transfer.Goals as goal

pub transfer_fee-paid-requires : goal.transfer_fee-paid-requires
transfer_fee-paid-requires g c =
    let o = c.in_ok-order.order in
    let f = ledger_of g.R.Share.shares c.args.self.now in
    let told = c.in_ok-row.ensures in
    let t = transferable f o.new o.old o.receiver.number o.energy o.price c.in_ok-row.row (sound_of f c.args.self.now.sound) told.row (sym told.answer) in
    record { energy = t.energy; contract = t.price; transfer = t.transfer }

pub set_energy-requires : goal.set_energy-requires
set_energy-requires g c =
    let o = c.in_ok-order.order in
    let f = ledger_of g.R.Share.shares c.args.self.now in
    let row = c.in_ok-row.row in
    let found = c.in_ok-row.ensures.row in
    record {
      held = ap is_some (ap (λ m. row_of m f.rows) (number_found o.old f.rows row found) ∙ found);
      rises = (sound_of f c.args.self.now.sound).rises;
    }

pub insert-requires : goal.insert-requires
insert-requires g c =
    let o = c.in_ok-order.order in
    let f = ledger_of g.R.Share.shares c.args.self.now in
    let told = c.in_ok-row.ensures in
    let s = sound_of f c.args.self.now.sound in
    let n = c.in_ok-row.row.number in
    let t = transferable f o.new o.old o.receiver.number o.energy o.price c.in_ok-row.row s told.row (sym told.answer) in
    record {
      room = omega (arith, ap length c.set_energy.ensures, length_energy n c.from_kwh-rest.result f.rows, t.room);
      rises = ap rising c.set_energy.ensures ∙ rising_energy n c.from_kwh-rest.result f.rows ∙ s.rises;
    }

pub holding-giver-requires : goal.holding-giver-requires
holding-giver-requires g c =
    let f = ledger_of g.R.Share.shares c.args.self.now in
    row_plant f c.in_ok-order.order.old c.in_ok-row.row (sound_of f c.args.self.now.sound) c.in_ok-row.ensures.row

pub change-requires : goal.change-requires
change-requires g c = λ account e.
    let o = c.in_ok-order.order in
    let f = ledger_of g.R.Share.shares c.args.self.now in
    let told = c.in_ok-row.ensures in
    let s = sound_of f c.args.self.now.sound in
    let t = transferable f o.new o.old o.receiver.number o.energy o.price c.in_ok-row.row s told.row (sym told.answer) in
    let giving = ap (λ n. nat_abs (account_of n f.accounts).side.count) c.holding-giver.ensures in
    let side : nat_abs account.now.side.count ≤ 400000000000000000 = omega (arith, ap (λ (a : Account). nat_abs a.side.count) e, giving, (fair_of f c.in_ok-row.row.plant s t.giver).side) in
    let amount : nat_abs c.transfer_fee-paid.result.count ≤ 400000000000000000 = omega (arith, c.transfer_fee-paid.ensures.bound) in
    search rules

pub change-requires-2 : goal.change-requires-2
change-requires-2 g c = λ account e.
    let o = c.in_ok-order.order in
    let f = ledger_of g.R.Share.shares c.args.self.now in
    let told = c.in_ok-row.ensures in
    let s = sound_of f c.args.self.now.sound in
    let row = c.in_ok-row.row in
    let t = transferable f o.new o.old o.receiver.number o.energy o.price row s told.row (sym told.answer) in
    let other = account_other o.receiver.number row.plant (λ _. c.change.ensures.0) f.accounts (plant_parts o.receiver.number t.receiver).0 (plant_parts row.plant t.giver).0 (λ e. t.apart (sym e)) in
    let same = ap (account_of o.receiver.number) (c.change.ensures.2 ∙ ap (λ n. with_account n (λ _. c.change.ensures.0) f.accounts) c.holding-giver.ensures) ∙ other in
    let side : nat_abs account.now.side.count ≤ 400000000000000000 = omega (arith, ap (λ (a : Account). nat_abs a.side.count) (e ∙ same), (fair_of f o.receiver.number s t.receiver).side) in
    let amount : nat_abs c.reversed-back.result.count ≤ 400000000000000000 = omega (arith, ints, c.reversed-back.ensures, c.transfer_fee-paid.ensures.bound) in
    search rules

pub invariant_of-self : goal.invariant_of-self
invariant_of-self g c =
    let o = c.in_ok-order.order in
    let b = c.args.self.now in
    let f = ledger_of g.R.Share.shares b in
    let told = c.in_ok-row.ensures in
    let row = c.in_ok-row.row in
    let sound = transfer_sound f o.new o.old o.receiver.number o.energy o.price (g.met.R.Share.fair b.rule) (sound_of f b.sound) (sym told.answer) in
    let now = accepted f (Transfer o.new o.old o.receiver.number o.energy o.price) in
    let is : transferred f o.new o.receiver.number o.energy o.price (Some row) ≡ now = ap (transferred f o.new o.receiver.number o.energy o.price) (sym told.row) in
    let rest : c.from_kwh-rest.result ≡ record { kwh = row.contract.energy.kwh - o.energy.kwh } = ap (λ n. record { kwh = n }) (omega (arith, c.from_kwh-rest.ensures, c.kwh.ensures, c.kwh-2.ensures)) in
    let rows = c.insert.ensures ∙ ap (with_row (split_off o.new o.receiver.number o.energy row)) (c.set_energy.ensures ∙ ap (λ x. with_energy row.number x f.rows) rest) in
    let fee = c.transfer_fee-paid.ensures.value in
    let back = c.reversed-back.ensures ∙ ap neg_ℤ fee in
    let gives : c.change.ensures.0 ≡ side_moved c.transfer_fee-paid.result.count (account_of c.holding-giver.result.number f.accounts) = search rules in
    let takes : c.change-2.ensures.0 ≡ side_moved c.reversed-back.result.count (account_of o.receiver.number c.change.new.self.rows) = search rules in
    let given = c.change.ensures.2 ∙ ap (λ a. with_account c.holding-giver.result.number (λ _. a) f.accounts) gives ∙ ap (λ n. with_account n (side_moved c.transfer_fee-paid.result.count) f.accounts) c.holding-giver.ensures ∙ ap (λ z. with_account row.plant (side_moved z) f.accounts) fee in
    let accounts = c.change-2.ensures.2 ∙ ap (λ a. with_account o.receiver.number (λ _. a) c.change.new.self.rows) takes ∙ ap (λ z. with_account o.receiver.number (side_moved z) c.change.new.self.rows) back ∙ ap (with_account o.receiver.number (side_moved (neg_ℤ (fee_for o.energy o.price row)))) given in
    record { sound = kept now _ _ _ _ sound (ap (λ (l : Ledger). l.month) is) (ap (λ (l : Ledger). l.residential) is) (rows ∙ ap (λ (l : Ledger). l.rows) is) (accounts ∙ ap (λ (l : Ledger). l.accounts) is) }

pub returns : goal.returns
returns g c =
    let o = c.in_ok-order.order in
    let b = c.args.self.now in
    let f = ledger_of g.R.Share.shares b in
    let told = c.in_ok-row.ensures in
    let row = c.in_ok-row.row in
    let call = Transfer o.new o.old o.receiver.number o.energy o.price in
    let is : transferred f o.new o.receiver.number o.energy o.price (Some row) ≡ accepted f call = ap (transferred f o.new o.receiver.number o.energy o.price) (sym told.row) in
    let rest : c.from_kwh-rest.result ≡ record { kwh = row.contract.energy.kwh - o.energy.kwh } = ap (λ n. record { kwh = n }) (omega (arith, c.from_kwh-rest.ensures, c.kwh.ensures, c.kwh-2.ensures)) in
    let rows = c.insert.ensures ∙ ap (with_row (split_off o.new o.receiver.number o.energy row)) (c.set_energy.ensures ∙ ap (λ x. with_energy row.number x f.rows) rest) in
    let fee = c.transfer_fee-paid.ensures.value in
    let back = c.reversed-back.ensures ∙ ap neg_ℤ fee in
    let gives : c.change.ensures.0 ≡ side_moved c.transfer_fee-paid.result.count (account_of c.holding-giver.result.number f.accounts) = search rules in
    let takes : c.change-2.ensures.0 ≡ side_moved c.reversed-back.result.count (account_of o.receiver.number c.change.new.self.rows) = search rules in
    let given = c.change.ensures.2 ∙ ap (λ a. with_account c.holding-giver.result.number (λ _. a) f.accounts) gives ∙ ap (λ n. with_account n (side_moved c.transfer_fee-paid.result.count) f.accounts) c.holding-giver.ensures ∙ ap (λ z. with_account row.plant (side_moved z) f.accounts) fee in
    let accounts = c.change-2.ensures.2 ∙ ap (λ a. with_account o.receiver.number (λ _. a) c.change.new.self.rows) takes ∙ ap (λ z. with_account o.receiver.number (side_moved z) c.change.new.self.rows) back ∙ ap (with_account o.receiver.number (side_moved (neg_ℤ (fee_for o.energy o.price row)))) given in
    let same : call ≡ Transfer c.args.new c.args.old c.args.receiver c.args.energy c.args.price = order_call o c.args.new c.args.old c.args.receiver c.args.energy c.args.price c.in_ok-order.ensures in
    makes_for same (makes_accepted f call _ _ (sym told.answer) (same_figures f _ _ _ _ rows accounts ∙ is) refl)
