-- A call on figures without carries does the same, but for the carries, as on the figures. Assumes nothing.
use Rattle.std.proofs.Common.{◌≡◌, ℕ, ◌-◌, ◌*◌, true, false, cond, List, [], ◌∷◌, map, get_or, drop, set, ℤ, pos, neg_ℤ, nat_abs, Some, None, Option, sym, refl, ap, ◌∙◌}
use Rattle.std.proofs.lemmas.List.{map-set}
use Rattle.units.specs.declared.energy.Energy.{Energy}
use Rattle.units.specs.declared.price.Price.{Price}
use Rattle.market.specs.declared.kinds.Class.{Class}
use Rattle.market.specs.declared.kinds.Rank.{Rank}
use Rattle.market.specs.Kinds.{class_of, rank_of}
use Rattle.book.specs.declared.account.Account.{Account}
use Rattle.book.specs.declared.call.Call.{Call}
use Rattle.book.specs.declared.call.Call.TheVariants.{Enrol, Enter, Amend, Transfer, Meter, Compensate, Issue, Close, Turn}
use Rattle.book.specs.declared.row.Row.{Row}
use Rattle.book.specs.Accounts.{account_of, with_account, is_enrolled, metered_kwh, enrolled_as, with_reading, side_moved, issued_at, closed_at, turned, metered_claims, debit_of, debited, compensated}
use Rattle.book.specs.Calls.{fee_for, entered, fee_paid, transferred, next_month, accepted}
use Rattle.book.specs.Ledgers.{Ledger, with_rows, with_accounts, net_of_plant}
use Rattle.book.specs.Rows.{row_of, with_row, with_energy, split_rows}
use Rattle.book.specs.Tallies.{without_carry, without_carries}
use Rattle.book.proofs.PlantFacts.{get_d_without, net_without}

abbrev pub all_without : List Account → List Account
all_without xs = map without_carry xs

without_twice : (xs : List Account) → all_without (all_without xs) ≡ all_without xs
without_twice [] = refl
without_twice (x ∷ xs) = ap (λ l. without_carry x ∷ l) (without_twice xs)

-- One account changes by g, or by k where the carry is there, and both make the same but for the carry.
with_without : (p : ℕ) (g k : Account → Account) (xs : List Account) → ((a : Account) → without_carry (g (without_carry a)) ≡ without_carry (k a)) → all_without (with_account p g (all_without xs)) ≡ all_without (with_account p k xs)
with_without p g k xs e =
    map-set without_carry (all_without xs) (p - 1) (g (account_of p (all_without xs)))
    ∙ ap (λ l. set l (p - 1) (without_carry (g (account_of p (all_without xs))))) (without_twice xs)
    ∙ ap (λ a. set (all_without xs) (p - 1) (without_carry (g a))) (get_d_without xs (p - 1))
    ∙ ap (set (all_without xs) (p - 1)) (e (account_of p xs))
    ∙ sym (map-set without_carry xs (p - 1) (k (account_of p xs)))

moved_without : (p : ℕ) (z : ℤ) (xs : List Account) → with_account p (side_moved z) (all_without xs) ≡ all_without (with_account p (side_moved z) xs)
moved_without p z xs =
    ap (λ a. set (all_without xs) (p - 1) (side_moved z a)) (get_d_without xs (p - 1)) ∙ sym (map-set without_carry xs (p - 1) (side_moved z (account_of p xs)))

fee_without : (from to : ℕ) (z : ℤ) (xs : List Account) → fee_paid from to z (all_without xs) ≡ all_without (fee_paid from to z xs)
fee_without from to z xs = ap (with_account from (side_moved (neg_ℤ z))) (moved_without to z xs) ∙ moved_without from (neg_ℤ z) (with_account to (side_moved z) xs)

debited_without : (xs : List Account) (ps : List ℕ) → debited (all_without xs) ps ≡ all_without (debited xs ps)
debited_without [] ps = refl
debited_without (a ∷ xs) ps =
    let d = debit_of (get_or ps 0 0) in
    elim (is_enrolled a) as (λ b. cond b (side_moved d (without_carry a) ∷ debited (all_without xs) (drop 1 ps)) (without_carry a ∷ debited (all_without xs) ps) ≡ all_without (cond b (side_moved d a ∷ debited xs (drop 1 ps)) (a ∷ debited xs ps))) [
      | true ↦ ap (λ l. side_moved d (without_carry a) ∷ l) (debited_without xs (drop 1 ps))
      | false ↦ ap (λ l. without_carry a ∷ l) (debited_without xs ps)
    ]

claims_without : (xs : List Account) → metered_claims (all_without xs) ≡ metered_claims xs
claims_without [] = refl
claims_without (a ∷ xs) =
    elim (is_enrolled a) as (λ b. cond b (metered_kwh a.reading ∷ metered_claims (all_without xs)) (metered_claims (all_without xs)) ≡ cond b (metered_kwh a.reading ∷ metered_claims xs) (metered_claims xs))
    [ true ↦ ap (λ l. metered_kwh a.reading ∷ l) (claims_without xs) | false ↦ claims_without xs ]

compensated_without : (shares : List ℕ → ℕ → List ℕ) (p fen : ℕ) (xs : List Account) → compensated shares p fen (all_without xs) ≡ all_without (compensated shares p fen xs)
compensated_without shares p fen xs =
    let z = pos (fen * 1000000) in
    let ps = shares (metered_claims xs) fen in
    ap (λ c. with_account p (side_moved z) (debited (all_without xs) (shares c fen))) (claims_without xs)
    ∙ ap (with_account p (side_moved z)) (debited_without xs ps)
    ∙ moved_without p z (debited xs ps)

turned_without : (xs : List Account) → all_without (map turned (all_without xs)) ≡ all_without (map turned xs)
turned_without [] = refl
turned_without (x ∷ xs) = ap (λ l. without_carry (turned x) ∷ l) (turned_without xs)

enrolled_without : (o : Option Class) (q : Price) (a : Account) → without_carry (enrolled_as o q (without_carry a)) ≡ without_carry (enrolled_as o q a)
enrolled_without None q a = refl
enrolled_without (Some k) q a = refl

entered_without : (f : Ledger) (n p : ℕ) (o : Option Rank) (e : Energy) (q : Price) → without_carries (entered (without_carries f) n p o e q) ≡ without_carries (entered f n p o e q)
entered_without f n p None e q = ap (λ xs. with_accounts xs f) (without_twice f.accounts)
entered_without f n p (Some r) e q =
    ap (λ xs. with_accounts xs (with_rows (with_row record { number = n; plant = p; contract = record { rank = r; energy = e; price = q } } f.rows) f)) (without_twice f.accounts)

transferred_without : (f : Ledger) (n p : ℕ) (e : Energy) (q : Price) (o : Option Row) → without_carries (transferred (without_carries f) n p e q o) ≡ without_carries (transferred f n p e q o)
transferred_without f n p e q None = ap (λ xs. with_accounts xs f) (without_twice f.accounts)
transferred_without f n p e q (Some c) =
    let fee = fee_for e q c in
    ap (λ xs. with_accounts xs (with_rows (split_rows n p e c f.rows) f)) (ap all_without (fee_without p c.plant fee f.accounts) ∙ without_twice (fee_paid p c.plant fee f.accounts))

pub accepted_without : (f : Ledger) (c : Call) → without_carries (accepted (without_carries f) c) ≡ without_carries (accepted f c)
accepted_without f (Enrol p k q) = ap (λ xs. with_accounts xs f) (with_without p (enrolled_as (class_of k) q) (enrolled_as (class_of k) q) f.accounts (enrolled_without (class_of k) q))
accepted_without f (Enter n p k e q) = entered_without f n p (rank_of k) e q
accepted_without f (Amend n e) = ap (λ xs. with_accounts xs (with_rows (with_energy n e f.rows) f)) (without_twice f.accounts)
accepted_without f (Transfer n o p e q) = transferred_without f n p e q (row_of o f.rows)
accepted_without f (Meter p m c) = let g = with_reading record { metered = m; commissioning = c } in ap (λ xs. with_accounts xs f) (with_without p g g f.accounts (λ a. refl))
accepted_without f (Compensate p a) =
    let fen = nat_abs a.count in
    ap (λ xs. with_accounts xs f) (ap all_without (compensated_without f.shares p fen f.accounts) ∙ without_twice (compensated f.shares p fen f.accounts))
accepted_without f (Issue p) =
    ap (λ xs. with_accounts xs f) (with_without p (issued_at (net_of_plant (without_carries f) p)) (issued_at (net_of_plant f p)) f.accounts (λ a. ap (λ net. without_carry (issued_at net a)) (net_without f p)))
accepted_without f (Close p) =
    ap (λ xs. with_accounts xs f) (with_without p (closed_at (net_of_plant (without_carries f) p)) (closed_at (net_of_plant f p)) f.accounts (λ a. refl))
accepted_without f (Turn q) =
    let made : List Account → Ledger = λ xs. record { month = next_month f.month; residential = q; shares = f.shares; rows = []; accounts = xs } in
    ap made (turned_without f.accounts)
