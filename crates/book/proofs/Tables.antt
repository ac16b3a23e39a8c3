-- What a table of conditions that declines nothing tells, and the limits of the calls one by one. Assumes nothing.
use Rattle.std.proofs.Common.{◌≡◌, ℕ, ◌≤◌, Bool, true, false, cond, not, ◌&&◌, ◌||◌, eqb, ltb, leb, List, [], ◌∷◌, ℤ, pos, negsuc, ◌+ℤ◌, neg_ℤ, nat_abs, is_some, Some, None, Option, sym, refl, ap, ◌∙◌, arith}
use lib.Signed.{le_z}
use Rattle.std.specs.List.{AllByRecursion}
use Rattle.std.proofs.lemmas.Bool.{true≢false, false≢true, not-true, not-false, and_parts, or_parts, leb-true, ltb-false, eqb-false}
use Rattle.units.specs.declared.energy.Energy.{Energy}
use Rattle.units.specs.declared.price.Price.{Price}
use Rattle.units.specs.Limits.{compensation, side_balance}
use Rattle.sharing.specs.Declining.{first_of}
use Rattle.market.specs.Kinds.{class_of, rank_of}
use Rattle.book.specs.declared.row.Row.{Row}
use Rattle.book.specs.Accounts.{any_account, is_unmetered, has_generated, may_be_held, may_trade}
use Rattle.book.specs.Calls.{at, says, open_within, enrol_within, enter_within, transfer_within, trade_allowed, fee_for, transfer_past, unshared}
use Rattle.book.specs.Ledgers.{Ledger}
use Rattle.book.specs.Rows.{plant_ok, energy_ok, price_ok, row_ok, plant_sum, split_rows}

row_passed : {E : Type 0} (b : Bool) (why : E) (rest : Option E) → cond b (Some why) rest ≡ None → (b ≡ false) × (rest ≡ None)
row_passed true why rest e = let z : ◌≡◌ {A = ℕ} 0 1 = cc in absurd (omega arith)
row_passed false why rest e = (refl, e)

-- Where a table declines nothing, none of its conditions holds.
pub passed : {E : Type 0} (t : List (Bool × E)) → first_of t ≡ None → AllByRecursion (λ (r : Bool × E). r.0 ≡ false) t
passed [] e = tt
passed (r ∷ rest) e = let p = row_passed r.0 r.1 (first_of rest) e in (p.0, passed rest p.1)

pub some_of : {X : Type 0} (o : Option X) → is_some o ≡ true → (x : X) × (o ≡ Some x)
some_of None h = absurd (true≢false (sym h))
some_of (Some x) h = (x, refl)

-- A test of the contract that stands under a number.
pub said_of : (o : Option Row) (c : Row) (test : Row → Bool) → o ≡ Some c → says o test ≡ false → test c ≡ false
said_of o c test h e = sym (ap (λ y. says y test) h) ∙ e

pub plant_parts : (p : ℕ) → plant_ok p ≡ true → (1 ≤ p) × (p ≤ 24)
plant_parts p h = let a = and_parts (leb 1 p) (leb p 24) h in (leb-true _ _ a.0, leb-true _ _ a.1)

-- The limits that a contract keeps, one by one.
pub record Within (c : Row) : Type 0 where
  pub number : 1 ≤ c.number
  pub low : 1 ≤ c.plant
  pub high : c.plant ≤ 24
  pub energy : c.contract.energy.kwh ≤ 3000000000
  pub price : c.contract.price.micro ≤ 1000000

pub within : (c : Row) → row_ok c ≡ true → Within c
within c h =
    let a = and_parts (leb 1 c.number && plant_ok c.plant && energy_ok c.contract.energy) (price_ok c.contract.price) h in
    let b = and_parts (leb 1 c.number && plant_ok c.plant) (energy_ok c.contract.energy) a.0 in
    let d = and_parts (leb 1 c.number) (plant_ok c.plant) b.0 in
    let p = plant_parts c.plant d.1 in
    record { number = leb-true _ _ d.0; low = p.0; high = p.1; energy = leb-true _ _ b.1; price = leb-true _ _ a.1 }

pub open_within_lem : (m : ℕ) (q : Price) → open_within m q ≡ true → (1 ≤ m) × (m ≤ 12) × (q.micro ≤ 1000000)
unfolding open_within
open_within_lem m q h =
    let a = and_parts (leb 1 m && leb m 12) (price_ok q) h in
    let b = and_parts (leb 1 m) (leb m 12) a.0 in
    (leb-true _ _ b.0, leb-true _ _ b.1, leb-true _ _ a.1)

pub enrol_within_lem : (p k : ℕ) (q : Price) → enrol_within p k q ≡ true → (plant_ok p ≡ true) × (is_some (class_of k) ≡ true) × (q.micro ≤ 1000000)
unfolding enrol_within
enrol_within_lem p k q h =
    let a = and_parts (plant_ok p && is_some (class_of k)) (price_ok q) h in
    let b = and_parts (plant_ok p) (is_some (class_of k)) a.0 in
    (b.0, b.1, leb-true _ _ a.1)

pub enter_within_lem : (n p k : ℕ) (e : Energy) (q : Price) → enter_within n p k e q ≡ true → (leb 1 n ≡ true) × (plant_ok p ≡ true) × (is_some (rank_of k) ≡ true) × (energy_ok e ≡ true) × (price_ok q ≡ true)
unfolding enter_within
enter_within_lem n p k e q h =
    let a = and_parts (leb 1 n && plant_ok p && is_some (rank_of k) && energy_ok e) (price_ok q) h in
    let b = and_parts (leb 1 n && plant_ok p && is_some (rank_of k)) (energy_ok e) a.0 in
    let c = and_parts (leb 1 n && plant_ok p) (is_some (rank_of k)) b.0 in
    let d = and_parts (leb 1 n) (plant_ok p) c.0 in
    (d.0, d.1, c.1, b.1, a.1)

pub transfer_within_lem : (n o p : ℕ) (e : Energy) (q : Price) → transfer_within n o p e q ≡ true → (leb 1 n ≡ true) × (leb 1 o ≡ true) × (plant_ok p ≡ true) × (leb 1 e.kwh ≡ true) × (energy_ok e ≡ true) × (price_ok q ≡ true)
unfolding transfer_within
transfer_within_lem n o p e q h =
    let a = and_parts (leb 1 n && leb 1 o && plant_ok p && leb 1 e.kwh && energy_ok e) (price_ok q) h in
    let b = and_parts (leb 1 n && leb 1 o && plant_ok p && leb 1 e.kwh) (energy_ok e) a.0 in
    let c = and_parts (leb 1 n && leb 1 o && plant_ok p) (leb 1 e.kwh) b.0 in
    let d = and_parts (leb 1 n && leb 1 o) (plant_ok p) c.0 in
    let g = and_parts (leb 1 n) (leb 1 o) d.0 in
    (g.0, g.1, d.1, c.1, b.1, a.1)

pub trade_allowed_lem : (f : Ledger) (p : ℕ) (c : Row) → trade_allowed f p c ≡ true → (may_trade (at f c.plant).enrolment ≡ true) × (may_trade (at f p).enrolment ≡ true) × (may_be_held (at f p).enrolment c.contract.rank ≡ true) × (c.plant ≡ p → ⊥)
unfolding trade_allowed
trade_allowed_lem f p c h =
    let a = and_parts (may_trade (at f c.plant).enrolment && may_trade (at f p).enrolment && may_be_held (at f p).enrolment c.contract.rank) (not (eqb c.plant p)) h in
    let b = and_parts (may_trade (at f c.plant).enrolment && may_trade (at f p).enrolment) (may_be_held (at f p).enrolment c.contract.rank) a.0 in
    let d = and_parts (may_trade (at f c.plant).enrolment) (may_trade (at f p).enrolment) b.0 in
    (d.0, d.1, b.1, eqb-false _ _ (not-true _ a.1))

pub side_within : (z : ℤ) → side_balance z ≡ true → nat_abs z ≤ 300000000000000000
side_within z h = leb-true _ _ h

pub transfer_past_lem : (f : Ledger) (n p : ℕ) (e : Energy) (q : Price) (c : Row) → transfer_past f n p e q c ≡ false → (plant_sum p (split_rows n p e c f.rows) ≤ 3000000000) × (nat_abs ((at f c.plant).side.count +ℤ fee_for e q c) ≤ 300000000000000000) × (nat_abs ((at f p).side.count +ℤ neg_ℤ (fee_for e q c)) ≤ 300000000000000000)
unfolding transfer_past
transfer_past_lem f n p e q c h =
    let a = or_parts (ltb 3000000000 (plant_sum p (split_rows n p e c f.rows)) || not (side_balance ((at f c.plant).side.count +ℤ fee_for e q c))) (not (side_balance ((at f p).side.count +ℤ neg_ℤ (fee_for e q c)))) h in
    let b = or_parts (ltb 3000000000 (plant_sum p (split_rows n p e c f.rows))) (not (side_balance ((at f c.plant).side.count +ℤ fee_for e q c))) a.0 in (
      ltb-false _ _ b.0,
      side_within ((at f c.plant).side.count +ℤ fee_for e q c) (not-false _ b.1),
      side_within ((at f p).side.count +ℤ neg_ℤ (fee_for e q c)) (not-false _ a.1),
    )

pub shared_parts : (f : Ledger) → unshared f ≡ false → (any_account is_unmetered f.accounts ≡ false) × (any_account has_generated f.accounts ≡ true)
unfolding unshared
shared_parts f h = let a = or_parts (any_account is_unmetered f.accounts) (not (any_account has_generated f.accounts)) h in (a.0, not-false _ a.1)

fen_limit : (z : ℤ) → le_z (pos 0) z ≡ true → le_z z (pos 100000000) ≡ true → nat_abs z ≤ 100000000
fen_limit (pos n) a b = leb-true _ _ b
fen_limit (negsuc n) a b = absurd (false≢true a)

pub compensation_within : (z : ℤ) → compensation z ≡ true → nat_abs z ≤ 100000000
compensation_within z h = let a = and_parts (le_z (pos 0) z) (le_z z (pos 100000000)) h in fen_limit z a.0 a.1
