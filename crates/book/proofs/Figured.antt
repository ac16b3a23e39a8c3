-- What the book's checks and questions work out. Assumes nothing.
use Rattle.std.proofs.Common.{◌≡◌, ℕ, zero, suc, ◌+◌, ◌-◌, ◌*◌, ◌<◌, ◌≤◌, Bool, true, cond, not, ◌&&◌, ltb, leb, List, [], ◌∷◌, length, get_or, drop, ℤ, pos, negsuc, ◌-ℤ◌, ◌*ℤ◌, neg_ℤ, nat_abs, Some, None, Ok, Result, refl, ap, ◌∙◌, subst, mul-le-mul, arith}
use Rattle.std.specs.List.{AllByRecursion}
use Rattle.std.proofs.lemmas.Int.{ints}
use Rattle.std.proofs.lemmas.List.{get_or-drop}
use Rattle.std.proofs.lemmas.Bool.{cond_both, and_parts, leb-true, leb-false, ltb-false, not-false}
use Rattle.units.specs.declared.energy.Energy.{Energy}
use Rattle.units.specs.declared.money.Fen.{Fen}
use Rattle.units.specs.declared.money.Grains.{Grains}
use Rattle.units.specs.declared.price.Price.{Price}
use Rattle.market.specs.declared.figures.Settlement.{Settlement}
use Rattle.sharing.specs.Declining.{first_of}
use Rattle.units.specs.Fees.{fee_of}
use Rattle.book.specs.declared.account.Account.{Account}
use Rattle.book.specs.declared.call.Call.{Call}
use Rattle.book.specs.declared.order.Order.{Order}
use Rattle.book.specs.declared.refusal.Refusal.{Refusal}
use Rattle.book.specs.declared.refusal.Refusal.TheVariants.{SumPastLimit}
use Rattle.book.specs.declared.row.Row.{Row}
use Rattle.book.specs.Accounts.{blank, account_of, is_enrolled, side_moved, any_account, has_generated, is_past_side_limit, debit_of, debited}
use Rattle.book.specs.declared.call.Call.TheVariants.{Transfer, Compensate}
use Rattle.book.specs.Calls.{Answer, Makes, SettledIn, conditions, declined, before_shares, compensated_in, trade_allowed}
use Rattle.book.specs.Ledgers.{Ledger}
use Rattle.book.specs.Orders.{NamesOrder}
use Rattle.book.specs.Rows.{plant_ok, energy_ok, price_ok, row_ok, rising, row_of, with_energy, at_energy, plant_sum, split_rows, split_off}
use Rattle.book.specs.Sound.{Sound, Fair}
use Rattle.book.proofs.AccountFacts.{fair_at}
use Rattle.book.proofs.RowFacts.{all_found, number_found, share_own, plant_with, plant_energy, plant_energy_other}
use Rattle.book.proofs.Tables.{plant_parts, passed, said_of, within, transfer_within_lem, trade_allowed_lem, shared_parts}

abs_neg : (n : ℕ) → nat_abs (neg_ℤ (pos n)) ≡ n
abs_neg n = omega (arith, ints)

abs_times : (a : ℕ) (z : ℤ) → nat_abs (pos a *ℤ z) ≡ a * nat_abs z
abs_times a (pos n) = refl
abs_times a (negsuc n) = abs_neg (a * nat_abs (negsuc n))

-- no fee is larger than a side balance may be
pub fee_bound : (e c t : ℕ) → e ≤ 3000000000 → c ≤ 1000000 → t ≤ 1000000 → nat_abs (fee_of e c t) ≤ 300000000000000000
fee_bound e c t he hc ht =
    let rate : nat_abs (pos c -ℤ pos t) ≤ 1000000 = omega (arith, ints) in
    let many : e * 100 ≤ 300000000000 = omega arith in
    let m : e * 100 * nat_abs (pos c -ℤ pos t) ≤ 300000000000 * 1000000 = mul-le-mul many rate in
    omega (arith, m, abs_times (e * 100) (pos c -ℤ pos t))

-- a contract that is found
pub row_plant : (f : Ledger) (n : ℕ) (c : Row) → Sound f → row_of n f.rows ≡ Some c → plant_ok c.plant ≡ true
row_plant f n c s h =
    let ok = all_found (λ c. row_ok c ≡ true) n f.rows c s.each h in
    let a = and_parts (leb 1 c.number && plant_ok c.plant && energy_ok c.contract.energy) (price_ok c.contract.price) ok in
    let b = and_parts (leb 1 c.number && plant_ok c.plant) (energy_ok c.contract.energy) a.0 in
    (and_parts (leb 1 c.number) (plant_ok c.plant) b.0).1

-- its energy is among its plant's
pub owner_sum : (n : ℕ) (e : Energy) (xs : List Row) (c : Row) → rising xs ≡ true → row_of n xs ≡ Some c → plant_sum c.plant (with_energy n e xs) + c.contract.energy.kwh ≡ plant_sum c.plant xs + e.kwh
owner_sum n e xs c r h =
    omega (arith, plant_energy c.plant n e xs c r h, share_own c.plant c refl, share_own c.plant (at_energy e c) refl)

pub owner_le : (n : ℕ) (xs : List Row) (c : Row) → rising xs ≡ true → row_of n xs ≡ Some c → c.contract.energy.kwh ≤ plant_sum c.plant xs
owner_le n xs c r h = omega (arith, owner_sum n (record { kwh = 0 }) xs c r h)

-- the receiver's energy after a transfer
pub receiver_sum : (n p : ℕ) (e : Energy) (c : Row) (xs : List Row) → rising xs ≡ true → row_of c.number xs ≡ Some c → (c.plant ≡ p → ⊥) → plant_sum p (split_rows n p e c xs) ≡ plant_sum p xs + e.kwh
receiver_sum n p e c xs r h apart =
    let less : Energy = record { kwh = c.contract.energy.kwh - e.kwh } in
    omega (arith, plant_with p (split_off n p e c) (with_energy c.number less xs), share_own p (split_off n p e c) refl, plant_energy_other p c.number less xs c r h apart)

-- the fair account of a plant
pub fair_of : (f : Ledger) (p : ℕ) → Sound f → plant_ok p ≡ true → Fair (account_of p f.accounts)
fair_of f p s ok = let w = plant_parts p ok in fair_at p f.accounts (omega (arith, s.full, w.0, w.1)) s.fair

-- ---- a transfer that is not declined

pub record Transferable (f : Ledger) (p : ℕ) (e : Energy) (q : Price) (c : Row) : Type 0 where
  pub own : row_of c.number f.rows ≡ Some c
  pub giver : plant_ok c.plant ≡ true
  pub receiver : plant_ok p ≡ true
  pub price : c.contract.price.micro ≤ 1000000
  pub energy : e.kwh ≤ 3000000000
  pub transfer : q.micro ≤ 1000000
  pub enough : e.kwh ≤ c.contract.energy.kwh
  pub room : length f.rows < 256
  pub apart : c.plant ≡ p → ⊥

pub transferable : (f : Ledger) (n o p : ℕ) (e : Energy) (q : Price) (c : Row) → Sound f → row_of o f.rows ≡ Some c → declined f (Transfer n o p e q) ≡ None → Transferable f p e q c
transferable f n o p e q c s found h =
    let t = passed (conditions f (Transfer n o p e q)) h in
    let w = transfer_within_lem n o p e q (not-false _ t.0) in
    let late = t.1.1.1.1.1 in
    let trade = trade_allowed_lem f p c (not-false _ (said_of (row_of o f.rows) c (λ c. not (trade_allowed f p c)) found late.0)) in
    let limits = within c (all_found (λ c. row_ok c ≡ true) o f.rows c s.each found) in
    record {
      own = ap (λ m. row_of m f.rows) (number_found o f.rows c found) ∙ found;
      giver = row_plant f o c s found;
      receiver = w.2;
      price = limits.price;
      energy = leb-true _ _ w.4;
      transfer = leb-true _ _ w.5;
      enough = ltb-false _ _ (said_of (row_of o f.rows) c (λ (c : Row). ltb c.contract.energy.kwh e.kwh) found late.1.0);
      room = leb-false _ _ late.1.1.0;
      apart = trade.3;
    }

-- ---- a compensation

-- when its shares are known, only a side balance past its limit declines it
pub compensation_decides : (f : Ledger) (p : ℕ) (a : Fen) (b : Bool) → first_of (before_shares f p a) ≡ None → any_account is_past_side_limit (compensated_in f p a) ≡ b → declined f (Compensate p a) ≡ cond b (Some SumPastLimit) None
compensation_decides f p a b h e =
    let t = passed (before_shares f p a) h in
    let one = t.0 in
    let two = t.1.0 in
    let three = t.1.1.0 in
    let four = t.1.1.1.0 in
    rw (one, two, three, four, e)

pub generated : (f : Ledger) (p : ℕ) (a : Fen) → first_of (before_shares f p a) ≡ None → any_account has_generated f.accounts ≡ true
generated f p a h = (shared_parts f (passed (before_shares f p a) h).1.1.1.0).1

pub side_bound : (xs : List Account) → AllByRecursion Fair xs → (k : ℕ) → nat_abs (get_or xs k blank).side.count ≤ 300000000000000000
side_bound [] h k = omega arith
side_bound (a ∷ xs) h zero = h.0.side
side_bound (a ∷ xs) h (suc k) = side_bound xs h.1 k

pub debited_bound : (xs : List Account) (ps : List ℕ) → ((k : ℕ) → nat_abs (get_or xs k blank).side.count ≤ 300000000000000000) → ((k : ℕ) → get_or ps k 0 ≤ 100000000) → (i : ℕ) → nat_abs (get_or (debited xs ps) i blank).side.count ≤ 400000000000000000
debited_bound [] ps h small i = omega arith
debited_bound (a ∷ xs) ps h small zero =
    cond_both (is_enrolled a) (side_moved (debit_of (get_or ps 0 0)) a ∷ debited xs (drop 1 ps)) (a ∷ debited xs ps) (λ l. nat_abs (get_or l 0 blank).side.count ≤ 400000000000000000)
    (λ _. omega (arith, ints, h 0, small 0)) (λ _. omega (arith, h 0))
debited_bound (a ∷ xs) ps h small (suc i) =
    cond_both (is_enrolled a) (side_moved (debit_of (get_or ps 0 0)) a ∷ debited xs (drop 1 ps)) (a ∷ debited xs ps) (λ l. nat_abs (get_or l (suc i) blank).side.count ≤ 400000000000000000)
    (λ _. debited_bound xs (drop 1 ps) (λ k. h (suc k)) (λ k. omega (arith, get_or-drop 1 ps k 0, small (1 + k))) i)
    (λ _. debited_bound xs ps (λ k. h (suc k)) small i)

-- ---- the plant of a call is the one that its number names

pub makes_for : {f g : Ledger} {c d : Call} {a : Answer} → c ≡ d → Makes f c g a → Makes f d g a
makes_for {f} {g} {c} {d} {a} e m = subst (λ y. Makes f y g a) e m

pub settles_for : {f : Ledger} {p q : ℕ} {before after' : List Energy} {old new : List Grains} {r : Result Settlement Refusal} → p ≡ q → SettledIn f p before after' old new r → SettledIn f q before after' old new r
settles_for {f} {p} {q} {before} {after'} {old} {new} {r} e m = subst (λ y. SettledIn f y before after' old new r) e m

pub order_call : (order : Order) (n o p : ℕ) (e : Energy) (q : Price) → NamesOrder n o p e q (Ok order) → Transfer order.new order.old order.receiver.number order.energy order.price ≡ Transfer n o p e q
order_call order n o p e q t = cc (t.0, t.1, t.2, t.3, t.4)
