-- Every accepted call keeps what every book that exists keeps. Assumes nothing.
use Rattle.std.proofs.Common.{◌≡◌, ℕ, ◌+◌, ◌-◌, ◌<◌, ◌≤◌, true, false, not, ◌&&◌, eqb, ltb, leb, List, length, ℤ, ◌+ℤ◌, neg_ℤ, nat_abs, is_some, Some, None, sym, refl, ap, ◌∙◌, subst, arith}
use lib.ListN.{length-map}
use Rattle.std.specs.List.{AllByRecursion}
use Rattle.std.proofs.lemmas.Bool.{not-false, and_parts, and_from, cond_both, leb-true, leb-false, ltb-false, eqb-false, le-leb}
use Rattle.units.specs.declared.energy.Energy.{Energy}
use Rattle.units.specs.declared.money.Fen.{Fen}
use Rattle.units.specs.declared.price.Price.{Price}
use Rattle.units.specs.Limits.{compensation}
use Rattle.sharing.specs.Laws as sharing
use Rattle.sharing.specs.Asked.{compensation_accepted}
use Rattle.market.specs.Kinds.{class_of, rank_of}
use Rattle.market.specs.Laws.{Lawful}
use Rattle.book.specs.declared.account.Account.{Account}
use Rattle.book.specs.declared.call.Call.{Call}
use Rattle.book.specs.declared.call.Call.TheVariants.{Enrol, Enter, Amend, Transfer, Meter, Compensate, Issue, Close, Turn}
use Rattle.book.specs.declared.row.Row.{Row}
use Rattle.book.specs.Accounts.{account_of, with_account, enrolled_as, with_reading, side_moved, issued_at, closed_at, turned, metered_claims, may_be_held}
use Rattle.book.specs.Calls.{at, holds_not, open_within, trade_allowed, fee_for, transfer_past, conditions, declined, entered, fee_paid, transferred, next_month, accepted}
use Rattle.book.specs.Ledgers.{Ledger, with_rows, with_accounts, opened, net_of_plant}
use Rattle.book.specs.Rows.{plant_ok, energy_ok, row_ok, row_of, with_energy, plant_sum, split_off, split_rows}
use Rattle.book.specs.Sound.{Fair, Sound}
use Rattle.book.proofs.AccountFacts.{account_other, fair_at, fair_with, length_account, enrolment_of, owned_same, same_with, owned_enrol, sides_kept, sides_turned, sides_blank, claims_few, claims_each, claims_some, fair_enrolled, fair_metered, fair_side, fair_issued, fair_closed, all_turned, all_blank, fair_compensated, sides_compensated, length_compensated, same_compensated, same_fee, sides_fee}
use Rattle.book.proofs.PlantFacts.{net_bound}
use Rattle.book.proofs.RowFacts.{kwh_of, rising_with, rising_energy, still_fresh, length_with, length_energy, all_with, all_energy, all_found, number_found, ok_energy, limit_with, limit_energy, limit_split}
use Rattle.book.proofs.Tables.{passed, some_of, said_of, plant_parts, within, open_within_lem, enrol_within_lem, enter_within_lem, transfer_within_lem, trade_allowed_lem, transfer_past_lem, shared_parts, compensation_within}

pub opened_sound : (m : ℕ) (q : Price) (shares : List ℕ → ℕ → List ℕ) → open_within m q ≡ true → Sound (opened m q shares)
opened_sound m q shares h =
    let w = open_within_lem m q h in
    record {
      first = w.0;
      last = w.1;
      residential = w.2;
      rises = refl;
      few = omega arith;
      each = tt;
      owned = tt;
      sums = λ p. omega arith;
      full = refl;
      fair = all_blank 24;
      balanced = sides_blank 24;
    }

-- ---- changes of accounts and of rows

-- One account changes, and not its enrolment or its side balance.
one_account : (f : Ledger) (p : ℕ) (g : Account → Account) → p ≤ 24 → (g (at f p)).enrolment ≡ (at f p).enrolment → (g (at f p)).side.count ≡ (at f p).side.count → Fair (g (at f p)) → Sound f → Sound (with_accounts (with_account p g f.accounts) f)
one_account f p g high e z k s = record {
  first = s.first;
  last = s.last;
  residential = s.residential;
  rises = s.rises;
  few = s.few;
  each = s.each;
  sums = s.sums;
  owned = owned_same f.accounts (with_account p g f.accounts) f.rows (same_with enrolment_of p g f.accounts e) s.owned;
  full = length_account p g f.accounts ∙ s.full;
  fair = fair_with p g f.accounts k s.fair;
  balanced = sides_kept p g f.accounts (omega (arith, s.full)) z ∙ s.balanced;
}

pub fee_sound : (f : Ledger) (from to : ℕ) (z : ℤ) → 1 ≤ from → from ≤ 24 → 1 ≤ to → to ≤ 24 → (to ≡ from → ⊥) → nat_abs ((at f to).side.count +ℤ z) ≤ 300000000000000000 → nat_abs ((at f from).side.count +ℤ neg_ℤ z) ≤ 300000000000000000 → Sound f → Sound (with_accounts (fee_paid from to z f.accounts) f)
fee_sound f from to z f1 f2 t1 t2 apart more less s =
    let xs = f.accounts in
    let mid = with_account to (side_moved z) xs in
    let same : account_of from mid ≡ account_of from xs = account_other from to (side_moved z) xs f1 t1 (λ e. apart (sym e)) in
    let long : length mid ≡ 24 = length_account to (side_moved z) xs ∙ s.full in
    let all : AllByRecursion Fair mid = fair_with to (side_moved z) xs (fair_side ((at f to).side.count +ℤ z) (at f to) more (fair_at to xs (omega (arith, s.full)) s.fair)) s.fair in
    let still : nat_abs ((account_of from mid).side.count +ℤ neg_ℤ z) ≤ 300000000000000000 = subst (λ (a : Account). nat_abs (a.side.count +ℤ neg_ℤ z) ≤ 300000000000000000) (sym same) less in
    record {
      first = s.first;
      last = s.last;
      residential = s.residential;
      rises = s.rises;
      few = s.few;
      each = s.each;
      sums = s.sums;
      owned = owned_same xs (fee_paid from to z xs) f.rows (same_fee enrolment_of (λ _ _. refl) from to z xs) s.owned;
      full = length_account from (side_moved (neg_ℤ z)) mid ∙ long;
      fair = fair_with from (side_moved (neg_ℤ z)) mid (fair_side ((account_of from mid).side.count +ℤ neg_ℤ z) (account_of from mid) still (fair_at from mid (omega (arith, long)) all)) all;
      balanced = sides_fee from to z xs (omega (arith, s.full)) (omega (arith, s.full)) ∙ s.balanced;
    }

pub split_sound : (f : Ledger) (n p : ℕ) (e : Energy) (c : Row) → leb 1 n ≡ true → plant_ok p ≡ true → energy_ok e ≡ true → row_of c.number f.rows ≡ Some c → is_some (row_of n f.rows) ≡ false → may_be_held (at f p).enrolment c.contract.rank ≡ true → length f.rows < 256 → plant_sum p (split_rows n p e c f.rows) ≤ 3000000000 → Sound f → Sound (with_rows (split_rows n p e c f.rows) f)
split_sound f n p e c hn hp he own fresh held room limit s =
    let less : Energy = record { kwh = kwh_of c - e.kwh } in
    let mid = with_energy c.number less f.rows in
    let old = within c (all_found (λ c. row_ok c ≡ true) c.number f.rows c s.each own) in
    let fewer : energy_ok less ≡ true = le-leb _ _ (omega (arith, old.energy)) in
    record {
      first = s.first;
      last = s.last;
      residential = s.residential;
      full = s.full;
      fair = s.fair;
      balanced = s.balanced;
      rises = rising_with (split_off n p e c) mid (rising_energy c.number less f.rows ∙ s.rises) (still_fresh n c.number less f.rows fresh);
      few = omega (arith, length_with (split_off n p e c) mid, length_energy c.number less f.rows, room);
      each = all_with (λ c. row_ok c ≡ true) (split_off n p e c) mid (and_from _ _ (and_from _ _ (and_from _ _ hn hp) he) (le-leb _ _ old.price)) (all_energy (λ c. row_ok c ≡ true) c.number less f.rows (λ c h. ok_energy less c fewer h) s.each);
      owned = all_with (λ (c : Row). may_be_held (at f c.plant).enrolment c.contract.rank ≡ true) (split_off n p e c) mid held (all_energy (λ (c : Row). may_be_held (at f c.plant).enrolment c.contract.rank ≡ true) c.number less f.rows (λ c h. h) s.owned);
      sums = limit_split n p e c f.rows s.rises own s.sums limit;
    }

-- ---- the calls, one by one

pub enrol_sound : (f : Ledger) (p k : ℕ) (q : Price) → Lawful f.shares → Sound f → declined f (Enrol p k q) ≡ None → Sound (accepted f (Enrol p k q))
enrol_sound f p k q lawful s h =
    let t = passed (conditions f (Enrol p k q)) h in
    let w = enrol_within_lem p k q (not-false _ t.0) in
    let high = (plant_parts p w.0).1 in
    let there : p - 1 < length f.accounts = omega (arith, high, s.full) in
    let class = some_of (class_of k) w.1 in
    let g = enrolled_as (Some class.0) q in
    let new : Sound (with_accounts (with_account p g f.accounts) f) = record {
      first = s.first;
      last = s.last;
      residential = s.residential;
      rises = s.rises;
      few = s.few;
      each = s.each;
      sums = s.sums;
      owned = owned_enrol p g f.accounts f.rows t.1.0 s.owned;
      full = length_account p g f.accounts ∙ s.full;
      fair = fair_with p g f.accounts (fair_enrolled class.0 q (at f p) w.2 (fair_at p f.accounts there s.fair)) s.fair;
      balanced = sides_kept p g f.accounts there refl ∙ s.balanced;
    } in
    subst (λ o. Sound (with_accounts (with_account p (enrolled_as o q) f.accounts) f)) (sym class.1) new

pub enter_sound : (f : Ledger) (n p k : ℕ) (e : Energy) (q : Price) → Lawful f.shares → Sound f → declined f (Enter n p k e q) ≡ None → Sound (accepted f (Enter n p k e q))
enter_sound f n p k e q lawful s h =
    let t = passed (conditions f (Enter n p k e q)) h in
    let w = enter_within_lem n p k e q (not-false _ t.0) in
    let rank = some_of (rank_of k) w.2 in
    let x : Row = record { number = n; plant = p; contract = record { rank = rank.0; energy = e; price = q } } in
    let held : may_be_held (at f p).enrolment rank.0 ≡ true = not-false _ (ap (holds_not (at f p)) (sym rank.1) ∙ t.1.1.1.1.0) in
    let new : Sound (entered f n p (Some rank.0) e q) = record {
      first = s.first;
      last = s.last;
      residential = s.residential;
      full = s.full;
      fair = s.fair;
      balanced = s.balanced;
      rises = rising_with x f.rows s.rises t.1.1.0;
      few = omega (arith, length_with x f.rows, leb-false _ _ t.1.1.1.1.1.0);
      each = all_with (λ c. row_ok c ≡ true) x f.rows (and_from _ _ (and_from _ _ (and_from _ _ w.0 w.1) w.3) w.4) s.each;
      owned = all_with (λ (c : Row). may_be_held (at f c.plant).enrolment c.contract.rank ≡ true) x f.rows held s.owned;
      sums = limit_with x f.rows s.sums (ltb-false _ _ t.1.1.1.1.1.1.0);
    } in
    subst (λ o. Sound (entered f n p o e q)) (sym rank.1) new

pub amend_sound : (f : Ledger) (n : ℕ) (e : Energy) → Lawful f.shares → Sound f → declined f (Amend n e) ≡ None → Sound (accepted f (Amend n e))
amend_sound f n e lawful s h =
    let t = passed (conditions f (Amend n e)) h in
    let ok = (and_parts (leb 1 n) (energy_ok e) (not-false _ t.0)).1 in
    let c = some_of (row_of n f.rows) (not-false _ t.1.0) in
    record {
      first = s.first;
      last = s.last;
      residential = s.residential;
      full = s.full;
      fair = s.fair;
      balanced = s.balanced;
      rises = rising_energy n e f.rows ∙ s.rises;
      few = omega (arith, length_energy n e f.rows, s.few);
      each = all_energy (λ c. row_ok c ≡ true) n e f.rows (λ c h. ok_energy e c ok h) s.each;
      owned = all_energy (λ (c : Row). may_be_held (at f c.plant).enrolment c.contract.rank ≡ true) n e f.rows (λ c h. h) s.owned;
      sums = limit_energy n e f.rows c.0 s.rises c.1 s.sums (ltb-false _ _ (said_of (row_of n f.rows) c.0 (λ (c : Row). ltb 3000000000 (plant_sum c.plant (with_energy n e f.rows))) c.1 t.1.1.1.0));
    }

pub transfer_sound : (f : Ledger) (n o p : ℕ) (e : Energy) (q : Price) → Lawful f.shares → Sound f → declined f (Transfer n o p e q) ≡ None → Sound (accepted f (Transfer n o p e q))
transfer_sound f n o p e q lawful s h =
    let t = passed (conditions f (Transfer n o p e q)) h in
    let w = transfer_within_lem n o p e q (not-false _ t.0) in
    let found = some_of (row_of o f.rows) (not-false _ t.1.1.0) in
    let c = found.0 in
    let late = t.1.1.1.1.1 in
    let trade = trade_allowed_lem f p c (not-false _ (said_of (row_of o f.rows) c (λ c. not (trade_allowed f p c)) found.1 late.0)) in
    let past = transfer_past_lem f n p e q c (said_of (row_of o f.rows) c (transfer_past f n p e q) found.1 late.1.1.1.0) in
    let own : row_of c.number f.rows ≡ Some c = ap (λ m. row_of m f.rows) (number_found o f.rows c found.1) ∙ found.1 in
    let giver = within c (all_found (λ c. row_ok c ≡ true) o f.rows c s.each found.1) in
    let receiver = plant_parts p w.2 in
    let fee = fee_for e q c in
    let g = with_accounts (fee_paid p c.plant fee f.accounts) f in
    let paid : Sound g = fee_sound f p c.plant fee receiver.0 receiver.1 giver.low giver.high trade.3 past.1 past.2 s in
    let held : may_be_held (at g p).enrolment c.contract.rank ≡ true = ap (λ x. may_be_held x c.contract.rank) (same_fee enrolment_of (λ _ _. refl) p c.plant fee f.accounts (p - 1)) ∙ trade.2 in
    let new : Sound (transferred f n p e q (Some c)) = split_sound g n p e c w.0 w.2 w.4 own t.1.1.1.0 held (leb-false _ _ late.1.1.0) past.0 paid in
    subst (λ x. Sound (transferred f n p e q x)) (sym found.1) new

pub meter_sound : (f : Ledger) (p : ℕ) (m c : Energy) → Lawful f.shares → Sound f → declined f (Meter p m c) ≡ None → Sound (accepted f (Meter p m c))
meter_sound f p m c lawful s h =
    let t = passed (conditions f (Meter p m c)) h in
    let a = and_parts (plant_ok p && energy_ok m) (energy_ok c) (not-false _ t.0) in
    let b = and_parts (plant_ok p) (energy_ok m) a.0 in
    let high = (plant_parts p b.0).1 in
    let old : Fair (at f p) = fair_at p f.accounts (omega (arith, high, s.full)) s.fair in
    one_account f p (with_reading record { metered = m; commissioning = c }) high refl refl
    (fair_metered record { metered = m; commissioning = c } (at f p) (leb-true _ _ b.1) (ltb-false _ _ t.1.1.1.0) (not-false _ t.1.0) old)
    s

pub compensate_sound : (f : Ledger) (p : ℕ) (a : Fen) → Lawful f.shares → Sound f → declined f (Compensate p a) ≡ None → Sound (accepted f (Compensate p a))
compensate_sound f p a lawful s h =
    let t = passed (conditions f (Compensate p a)) h in
    let w = and_parts (plant_ok p) (compensation a.count) (not-false _ t.0) in
    let high = (plant_parts p w.0).1 in
    let xs = f.accounts in
    let fen = nat_abs a.count in
    let there : p - 1 < length xs = omega (arith, high, s.full) in
    let fair : sharing.Fair (metered_claims xs) fen (f.shares (metered_claims xs) fen) = lawful (metered_claims xs) fen
    (compensation_accepted (metered_claims xs) fen (omega (arith, claims_few xs, s.full)) (claims_each xs s.fair) (claims_some xs (shared_parts f t.1.1.1.0).1) (compensation_within a.count w.1)) in
    record {
      first = s.first;
      last = s.last;
      residential = s.residential;
      rises = s.rises;
      few = s.few;
      each = s.each;
      sums = s.sums;
      owned = owned_same xs (accepted f (Compensate p a)).accounts f.rows (same_compensated f.shares p fen xs there enrolment_of (λ _ _. refl)) s.owned;
      full = length_compensated f.shares p fen xs there ∙ s.full;
      fair = fair_compensated f.shares p fen xs there s.fair t.1.1.1.1.0;
      balanced = sides_compensated f.shares p fen xs there fair.long fair.adds ∙ s.balanced;
    }

pub issue_sound : (f : Ledger) (p : ℕ) → Lawful f.shares → Sound f → declined f (Issue p) ≡ None → Sound (accepted f (Issue p))
issue_sound f p lawful s h =
    let t = passed (conditions f (Issue p)) h in
    let high = (plant_parts p (not-false _ t.0)).1 in
    let old : Fair (at f p) = fair_at p f.accounts (omega (arith, high, s.full)) s.fair in
    one_account f p (issued_at (net_of_plant f p)) high refl refl (fair_issued (net_of_plant f p) (at f p) (net_bound f p high lawful s) (not-false _ t.1.1.1.0) old) s

pub close_sound : (f : Ledger) (p : ℕ) → Lawful f.shares → Sound f → declined f (Close p) ≡ None → Sound (accepted f (Close p))
close_sound f p lawful s h =
    let t = passed (conditions f (Close p)) h in
    let high = (plant_parts p (not-false _ t.0)).1 in
    let old : Fair (at f p) = fair_at p f.accounts (omega (arith, high, s.full)) s.fair in
    one_account f p (closed_at (net_of_plant f p)) high refl refl (fair_closed (net_of_plant f p) (at f p) (net_bound f p high lawful s) (not-false _ t.1.1.1.0) t.1.1.0 old) s

next_month_lem : (m : ℕ) → 1 ≤ m → m ≤ 12 → (1 ≤ next_month m) × (next_month m ≤ 12)
next_month_lem m low high =
    cond_both (eqb m 12) 1 (m + 1) (λ n. (1 ≤ n) × (n ≤ 12))
    (λ _. (omega arith, omega arith))
    (λ t. let other = eqb-false m 12 t in (omega arith, omega arith))

pub turn_sound : (f : Ledger) (q : Price) → Lawful f.shares → Sound f → declined f (Turn q) ≡ None → Sound (accepted f (Turn q))
turn_sound f q lawful s h =
    let t = passed (conditions f (Turn q)) h in
    let m = next_month_lem f.month s.first s.last in
    record {
      first = m.0;
      last = m.1;
      residential = leb-true _ _ (not-false _ t.0);
      rises = refl;
      few = omega arith;
      each = tt;
      owned = tt;
      sums = λ p. omega arith;
      full = length-map f.accounts turned ∙ s.full;
      fair = all_turned f.accounts s.fair;
      balanced = sides_turned f.accounts;
    }

pub accepted_sound : (f : Ledger) (c : Call) → Lawful f.shares → Sound f → declined f c ≡ None → Sound (accepted f c)
accepted_sound f (Enrol p k q) lawful s h = enrol_sound f p k q lawful s h
accepted_sound f (Enter n p k e q) lawful s h = enter_sound f n p k e q lawful s h
accepted_sound f (Amend n e) lawful s h = amend_sound f n e lawful s h
accepted_sound f (Transfer n o p e q) lawful s h = transfer_sound f n o p e q lawful s h
accepted_sound f (Meter p m c) lawful s h = meter_sound f p m c lawful s h
accepted_sound f (Compensate p a) lawful s h = compensate_sound f p a lawful s h
accepted_sound f (Issue p) lawful s h = issue_sound f p lawful s h
accepted_sound f (Close p) lawful s h = close_sound f p lawful s h
accepted_sound f (Turn q) lawful s h = turn_sound f q lawful s h
