-- Loading a sheet issues nothing, and issuing a plant issues no other. Assumes nothing.
use Rattle.std.proofs.Common.{◌≡◌, ℕ, zero, suc, ◌+◌, ◌-◌, ◌≤◌, true, false, List, [], ◌∷◌, ◌++◌, get_or, replicate, neg_ℤ, is_some, Some, None, Option, sym, refl, ap, ◌∙◌, arith}
use Rattle.std.specs.List.{AllByRecursion}
use Rattle.std.proofs.ByRecursion.{All-set}
use Rattle.std.proofs.lemmas.Bool.{true≢false}
use Rattle.sharing.specs.Declining.{placed}
use Rattle.units.specs.declared.price.Price.{Price}
use Rattle.units.specs.declared.energy.Energy.{Energy}
use Rattle.market.specs.declared.kinds.Class.{Class}
use Rattle.market.specs.declared.kinds.Rank.{Rank}
use Rattle.market.specs.Kinds.{class_of, rank_of}
use Rattle.book.specs.declared.account.Account.{Account}
use Rattle.book.specs.declared.call.Call.{Call}
use Rattle.book.specs.declared.call.Call.TheVariants.{Enrol, Enter, Amend, Transfer, Meter, Compensate, Issue, Close, Turn}
use Rattle.book.specs.declared.refusal.Refusal.{Refusal}
use Rattle.book.specs.declared.row.Row.{Row}
use Rattle.book.specs.Accounts.{account_of, blank, enrolled_as, is_issued, issued_at, side_moved, with_account, with_reading}
use Rattle.book.specs.Calls.{accepted, declined, entered, fee_for, transferred}
use Rattle.book.specs.Ledgers.{Ledger, net_of_plant}
use Rattle.book.specs.Rows.{row_of}
use Rattle.book.proofs.AccountFacts.{account_other}
use Rattle.sheet.specs.declared.kind.Kind.{Kind}
use Rattle.sheet.specs.declared.kind.Kind.TheVariants.{Enrols, Enters, Transfers, Meters}
use Rattle.sheet.specs.Formats.{Stretches, all_calls, call_of, calls_in, calls_of, contents_of, kind_for}
use Rattle.sheet.specs.Loads.{calls_in_sheet, left_by, opened_by}
use Rattle.statement.specs.Statements.{Unissued}

abbrev Free : Account → Type 0
Free a = is_issued a ≡ false

free_at : (xs : List Account) (i : ℕ) → AllByRecursion Free xs → Free (get_or xs i blank)
free_at [] i h = refl
free_at (x ∷ xs) zero h = h.0
free_at (x ∷ xs) (suc i) h = free_at xs i h.1

free_with : (p : ℕ) (g : Account → Account) (xs : List Account) → ((a : Account) → Free a → Free (g a)) → AllByRecursion Free xs → AllByRecursion Free (with_account p g xs)
free_with p g xs keeps h = All-set Free xs (p - 1) (g (account_of p xs)) (keeps (account_of p xs) (free_at xs (p - 1) h)) h

free_enrolled : (k : Option Class) (q : Price) (a : Account) → Free a → Free (enrolled_as k q a)
free_enrolled None q a h = h
free_enrolled (Some k) q a h = h

free_entered : (f : Ledger) (n p : ℕ) (r : Option Rank) (e : Energy) (q : Price) → AllByRecursion Free f.accounts → AllByRecursion Free (entered f n p r e q).accounts
free_entered f n p None e q h = h
free_entered f n p (Some r) e q h = h

free_moved : (f : Ledger) (n p : ℕ) (e : Energy) (q : Price) (c : Option Row) → AllByRecursion Free f.accounts → AllByRecursion Free (transferred f n p e q c).accounts
free_moved f n p e q None h = h
free_moved f n p e q (Some c) h =
    let fee = fee_for e q c in
    let mid = with_account c.plant (side_moved fee) f.accounts in
    free_with p (side_moved (neg_ℤ fee)) mid (λ a k. k) (free_with c.plant (side_moved fee) f.accounts (λ a k. k) h)

-- The calls of a sheet issue nothing.
free_accepted : (f : Ledger) (c : Call) → is_some (kind_for c) ≡ true → AllByRecursion Free f.accounts → AllByRecursion Free (accepted f c).accounts
free_accepted f (Enrol p k q) h free = free_with p (enrolled_as (class_of k) q) f.accounts (free_enrolled (class_of k) q) free
free_accepted f (Enter n p k e q) h free = free_entered f n p (rank_of k) e q free
free_accepted f (Amend n e) h free = absurd (true≢false (sym h))
free_accepted f (Transfer n o p e q) h free = free_moved f n p e q (row_of o f.rows) free
free_accepted f (Meter p m c) h free = free_with p (with_reading record { metered = m; commissioning = c }) f.accounts (λ a k. k) free
free_accepted f (Compensate p a) h free = absurd (true≢false (sym h))
free_accepted f (Issue p) h free = absurd (true≢false (sym h))
free_accepted f (Close p) h free = absurd (true≢false (sym h))
free_accepted f (Turn q) h free = absurd (true≢false (sym h))

free_by : (why : Option Refusal) (x f : Ledger) → AllByRecursion Free x.accounts → AllByRecursion Free f.accounts → AllByRecursion Free (placed why x f).accounts
free_by None x f h k = h
free_by (Some why) x f h k = k

free_left : (f : Ledger) (cs : List Call) → AllByRecursion (λ c. is_some (kind_for c) ≡ true) cs → AllByRecursion Free f.accounts → AllByRecursion Free (left_by f cs).accounts
free_left f [] h free = free
free_left f (c ∷ cs) h free = free_by (declined f c) (left_by (accepted f c) cs) f (free_left (accepted f c) cs h.1 (free_accepted f c h.0 free)) free

-- Each call of a sheet is one that stands in a section.
kind_of_lem : (k : Kind) (head term : List ℕ) → is_some (kind_for (call_of k head term)) ≡ true
kind_of_lem Enrols head term = refl
kind_of_lem Enters head term = refl
kind_of_lem Transfers head term = refl
kind_of_lem Meters head term = refl

kinds_in : (k : Kind) (n : ℕ) (heads terms : List ℕ) → AllByRecursion (λ c. is_some (kind_for c) ≡ true) (calls_in k n heads terms)
kinds_in k zero heads terms = tt
kinds_in k (suc n) heads terms = (kind_of_lem k _ _, kinds_in k n _ _)

kinds_append : (cs ds : List Call) → AllByRecursion (λ c. is_some (kind_for c) ≡ true) cs → AllByRecursion (λ c. is_some (kind_for c) ≡ true) ds → AllByRecursion (λ c. is_some (kind_for c) ≡ true) (cs ++ ds)
kinds_append [] ds h k = k
kinds_append (c ∷ cs) ds h k = (h.0, kinds_append cs ds h.1 k)

kinds_all : (ss : List Stretches) → AllByRecursion (λ c. is_some (kind_for c) ≡ true) (all_calls ss)
kinds_all [] = tt
kinds_all (s ∷ ss) = kinds_append (calls_of s) (all_calls ss) (kinds_in _ _ _ _) (kinds_all ss)

free_blank : (n : ℕ) → AllByRecursion Free (replicate n blank)
free_blank zero = tt
free_blank (suc n) = (refl, free_blank n)

pub unissued_loaded : (shares : List ℕ → ℕ → List ℕ) (bytes : List ℕ) → Unissued 1 (left_by (opened_by shares bytes) (calls_in_sheet bytes))
unissued_loaded shares bytes q h =
    let start = opened_by shares bytes in
    free_at (left_by start (calls_in_sheet bytes)).accounts (q - 1) (free_left start (calls_in_sheet bytes) (kinds_all (contents_of bytes).sections) (free_blank 24))

-- The plants after one that is issued.
pub unissued_after : (f : Ledger) (p : ℕ) → 1 ≤ p → Unissued p f → Unissued (p + 1) (accepted f (Issue p))
unissued_after f p low u q h = ap is_issued (account_other q p (issued_at (net_of_plant f p)) f.accounts (omega arith) low (λ e. omega arith)) ∙ u q (omega arith)
