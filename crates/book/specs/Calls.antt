-- What each call on a book answers, and what the book's figures are then. Assumes nothing.
use Rattle.std.specs.Prelude.{◌≡◌, ℕ, ◌+◌, ◌≤◌, Bool, true, false, cond, not, ◌&&◌, ◌||◌, ltb, List, [], ◌∷◌, map, length, ℤ, ◌+ℤ◌, neg_ℤ, is_some, IfOk, Some, None, Ok, Err, Option, Result, ◌==◌, nat_le, nat_lt, unsigned_abs}
use Rattle.units.specs.declared.energy.Energy.{Energy}
use Rattle.units.specs.declared.money.Fen.{Fen}
use Rattle.units.specs.declared.price.Price.{Price}
use Rattle.units.specs.Fees.{fee_of}
use Rattle.units.specs.Limits.{compensation, side_balance}
use Rattle.units.specs.Payments.{split}
use Rattle.units.specs.declared.money.Grains.{Grains}
use Rattle.sharing.specs.Declining.{first_of, answered, placed}
use Rattle.market.specs.declared.figures.Settlement.{Settlement}
use Rattle.market.specs.Figures.{settled_energies, settled_amounts, settlement_of}
use Rattle.market.specs.Laws.{Settles}
use Rattle.market.specs.declared.kinds.Rank.{Rank}
use Rattle.market.specs.Kinds.{class_of, rank_of}
use Rattle.book.specs.declared.account.Account.{Account}
use Rattle.book.specs.declared.account.Reading.{Reading}
use Rattle.book.specs.declared.call.Call.{Call}
use Rattle.book.specs.declared.call.Call.TheVariants.{Enrol, Enter, Amend, Transfer, Meter, Compensate, Issue, Close, Turn}
use Rattle.book.specs.declared.refusal.Refusal.{Refusal}
use Rattle.book.specs.declared.refusal.Refusal.TheVariants.{PastLimit, NotEnrolled, NoContract, AlreadyThere, Closed, NotPermitted, TooMuch, Full, SumPastLimit, NotReady, SliceLength}
use Rattle.book.specs.declared.row.Row.{Row}
use Rattle.book.specs.Accounts.{account_of, with_account, is_enrolled, is_metered, is_issued, enrolled_as, with_reading, side_moved, issued_at, closed_at, turned, any_account, is_closed, is_unmetered, is_unclosed, has_generated, is_past_side_limit, compensated, may_be_held, may_trade}
use Rattle.book.specs.Ledgers.{Ledger, with_rows, with_accounts, opened, plant_in, net_of_plant}
use Rattle.book.specs.Rows.{plant_ok, energy_ok, price_ok, row_of, with_row, with_energy, plant_sum, contracts_of, split_rows}

abbrev pub at : Ledger → ℕ → Account
at f p = account_of p f.accounts

-- Whether there is a contract that passes a test; whether there is a rank that does.
abbrev pub says : Option Row → (Row → Bool) → Bool
says None test = false
says (Some c) test = test c

abbrev pub holds_not : Account → Option Rank → Bool
holds_not a None = false
holds_not a (Some r) = not (may_be_held a.enrolment r)

-- Limits of the figures of a call. A month runs from 1 to 12, a plant from 1 to 24, a contract number from 1 on.
unfoldable pub open_within : ℕ → Price → Bool
open_within m q = nat_le 1 m && nat_le m 12 && price_ok q

unfoldable pub enrol_within : ℕ → ℕ → Price → Bool
enrol_within p k q = plant_ok p && is_some (class_of k) && price_ok q

unfoldable pub enter_within : ℕ → ℕ → ℕ → Energy → Price → Bool
enter_within n p k e q = nat_le 1 n && plant_ok p && is_some (rank_of k) && energy_ok e && price_ok q

unfoldable pub transfer_within : ℕ → ℕ → ℕ → Energy → Price → Bool
transfer_within n o p e q = nat_le 1 n && nat_le 1 o && plant_ok p && nat_le 1 e.kwh && energy_ok e && price_ok q

-- Of a transfer from the contract c to plant p: one of the two plants is closed.
unfoldable pub either_closed : Ledger → ℕ → Row → Bool
either_closed f p c = (at f c.plant).closed || (at f p).closed

-- The classes allow it, and giver and receiver are two.
unfoldable pub trade_allowed : Ledger → ℕ → Row → Bool
trade_allowed f p c =
    may_trade (at f c.plant).enrolment && may_trade (at f p).enrolment && may_be_held (at f p).enrolment c.contract.rank && not (c.plant == p)

-- The fee that the receiver pays to the giver.
abbrev pub fee_for : Energy → Price → Row → ℤ
fee_for e q c = fee_of e.kwh c.contract.price.micro q.micro

-- The receiver's contracts or one of the two side balances would be past a limit.
unfoldable pub transfer_past : Ledger → ℕ → ℕ → Energy → Price → Row → Bool
transfer_past f n p e q c =
    nat_lt 3000000000 (plant_sum p (split_rows n p e c f.rows))
    || not (side_balance ((at f c.plant).side.count +ℤ fee_for e q c))
    || not (side_balance ((at f p).side.count +ℤ neg_ℤ (fee_for e q c)))

-- No compensation can be shared: a plant is unmetered, or nothing was generated.
unfoldable pub unshared : Ledger → Bool
unshared f = any_account is_unmetered f.accounts || not (any_account has_generated f.accounts)

abbrev pub compensated_in : Ledger → ℕ → Fen → List Account
compensated_in f p a = compensated f.shares p (unsigned_abs a.count) f.accounts

-- The conditions of a compensation that come before its shares are known.
abbrev pub before_shares : Ledger → ℕ → Fen → List (Bool × Refusal)
before_shares f p a =
    (not (plant_ok p && compensation a.count), PastLimit)
    ∷ (not (is_enrolled (at f p)), NotEnrolled)
    ∷ (any_account is_closed f.accounts, Closed)
    ∷ (unshared f, NotReady)
    ∷ []

abbrev pub ByShares : Ledger → ℕ → Fen → Result ℕ Refusal → Type 0
ByShares f p a (Ok fen) = (first_of (before_shares f p a) ≡ None) × (fen ≡ unsigned_abs a.count) × (fen ≤ 100000000) × (plant_ok p ≡ true)
ByShares f p a (Err why) = first_of (before_shares f p a) ≡ Some why

-- The conditions under which a call is declined, in the order in which they are checked.
abbrev pub conditions : Ledger → Call → List (Bool × Refusal)
conditions f (Enrol p k q) = (not (enrol_within p k q), PastLimit) ∷ (is_enrolled (at f p), AlreadyThere) ∷ []
conditions f (Enter n p k e q) =
    (not (enter_within n p k e q), PastLimit)
    ∷ (not (is_enrolled (at f p)), NotEnrolled)
    ∷ (is_some (row_of n f.rows), AlreadyThere)
    ∷ ((at f p).closed, Closed)
    ∷ (holds_not (at f p) (rank_of k), NotPermitted)
    ∷ (nat_le 256 (length f.rows), Full)
    ∷ (nat_lt 3000000000 (plant_sum p f.rows + e.kwh), SumPastLimit)
    ∷ []
conditions f (Amend n e) =
    (not (nat_le 1 n && energy_ok e), PastLimit)
    ∷ (not (is_some (row_of n f.rows)), NoContract)
    ∷ (says (row_of n f.rows) (λ c. (at f c.plant).closed), Closed)
    ∷ (says (row_of n f.rows) (λ c. ltb 3000000000 (plant_sum c.plant (with_energy n e f.rows))), SumPastLimit)
    ∷ []
conditions f (Transfer n o p e q) =
    (not (transfer_within n o p e q), PastLimit)
    ∷ (not (is_enrolled (at f p)), NotEnrolled)
    ∷ (not (is_some (row_of o f.rows)), NoContract)
    ∷ (is_some (row_of n f.rows), AlreadyThere)
    ∷ (says (row_of o f.rows) (either_closed f p), Closed)
    ∷ (says (row_of o f.rows) (λ c. not (trade_allowed f p c)), NotPermitted)
    ∷ (says (row_of o f.rows) (λ c. ltb c.contract.energy.kwh e.kwh), TooMuch)
    ∷ (nat_le 256 (length f.rows), Full)
    ∷ (says (row_of o f.rows) (transfer_past f n p e q), SumPastLimit)
    ∷ []
conditions f (Meter p m c) =
    (not (plant_ok p && energy_ok m && energy_ok c), PastLimit)
    ∷ (not (is_enrolled (at f p)), NotEnrolled)
    ∷ ((at f p).closed, Closed)
    ∷ (nat_lt m.kwh c.kwh, TooMuch)
    ∷ []
conditions f (Compensate p a) =
    (not (plant_ok p && compensation a.count), PastLimit)
    ∷ (not (is_enrolled (at f p)), NotEnrolled)
    ∷ (any_account is_closed f.accounts, Closed)
    ∷ (unshared f, NotReady)
    ∷ (any_account is_past_side_limit (compensated_in f p a), SumPastLimit)
    ∷ []
conditions f (Issue p) =
    (not (plant_ok p), PastLimit)
    ∷ (not (is_enrolled (at f p)), NotEnrolled)
    ∷ (is_issued (at f p), AlreadyThere)
    ∷ (not (is_metered (at f p)), NotReady)
    ∷ []
conditions f (Close p) =
    (not (plant_ok p), PastLimit)
    ∷ (not (is_enrolled (at f p)), NotEnrolled)
    ∷ ((at f p).closed, Closed)
    ∷ (not (is_issued (at f p)), NotReady)
    ∷ []
conditions f (Turn q) = (not (price_ok q), PastLimit) ∷ (any_account is_unclosed f.accounts, NotReady) ∷ []

-- Why a call is declined, if it is.
abbrev pub declined : Ledger → Call → Option Refusal
declined f c = first_of (conditions f c)

-- What an accepted call makes of the figures.
abbrev pub entered : Ledger → ℕ → ℕ → Option Rank → Energy → Price → Ledger
entered f n p None e q = f
entered f n p (Some r) e q = with_rows (with_row record { number = n; plant = p; contract = record { rank = r; energy = e; price = q } } f.rows) f

-- A fee goes from the receiver's side balance to the giver's.
abbrev pub fee_paid : ℕ → ℕ → ℤ → List Account → List Account
fee_paid receiver giver fee xs = with_account receiver (side_moved (neg_ℤ fee)) (with_account giver (side_moved fee) xs)

abbrev pub transferred : Ledger → ℕ → ℕ → Energy → Price → Option Row → Ledger
transferred f n p e q None = f
transferred f n p e q (Some c) = with_rows (split_rows n p e c f.rows) (with_accounts (fee_paid p c.plant (fee_for e q c) f.accounts) f)

abbrev pub next_month : ℕ → ℕ
next_month m = cond (m == 12) 1 (m + 1)

abbrev pub accepted : Ledger → Call → Ledger
accepted f (Enrol p k q) = with_accounts (with_account p (enrolled_as (class_of k) q) f.accounts) f
accepted f (Enter n p k e q) = entered f n p (rank_of k) e q
accepted f (Amend n e) = with_rows (with_energy n e f.rows) f
accepted f (Transfer n o p e q) = transferred f n p e q (row_of o f.rows)
accepted f (Meter p m c) = with_accounts (with_account p (with_reading record { metered = m; commissioning = c }) f.accounts) f
accepted f (Compensate p a) = with_accounts (compensated_in f p a) f
accepted f (Issue p) = with_accounts (with_account p (issued_at (net_of_plant f p)) f.accounts) f
accepted f (Close p) = with_accounts (with_account p (closed_at (net_of_plant f p)) f.accounts) f
accepted f (Turn q) = record { month = next_month f.month; residential = q; shares = f.shares; rows = []; accounts = map turned f.accounts }

-- What a call answers: the payment, where it is one that pays, or why it was declined.
abbrev pub Answer : Type 0
Answer = Result (Option Fen) Refusal

-- What an accepted call answers.
abbrev pub said : Ledger → Call → Answer
said f (Enrol p k q) = Ok None
said f (Enter n p k e q) = Ok None
said f (Amend n e) = Ok None
said f (Transfer n o p e q) = Ok None
said f (Meter p m c) = Ok None
said f (Compensate p a) = Ok None
said f (Issue p) = Ok (Some (split (net_of_plant f p +ℤ (at f p).carry.count)).fen)
said f (Close p) = Ok None
said f (Turn q) = Ok None

abbrev pub answer_by : Option Refusal → Answer → Answer
answer_by None a = a
answer_by (Some why) a = Err why

-- The figures after a call, and its answer: a declined call changes nothing.
abbrev pub after : Ledger → Call → Ledger
after f c = placed (declined f c) (accepted f c) f

abbrev pub answer : Ledger → Call → Answer
answer f c = answer_by (declined f c) (said f c)

-- One call on a book with the figures f: it leaves the figures g and answers a.
pub record Makes (f : Ledger) (c : Call) (g : Ledger) (a : Answer) : Type 0 where
  pub left : g ≡ after f c
  pub said : a ≡ answer f c

-- What a call returned, as an answer.
abbrev pub told : Result (Unit {0}) Refusal → Answer
told (Ok x) = Ok None
told (Err why) = Err why

abbrev pub told_paid : Result Fen Refusal → Answer
told_paid (Ok fen) = Ok (Some fen)
told_paid (Err why) = Err why

-- Why a call was declined, if it was.
abbrev pub declined_by : {X : Type 0} → Result X Refusal → Option Refusal
declined_by (Ok x) = None
declined_by (Err why) = Some why

-- Opening a book, and why settling a plant into so many places is declined.
abbrev pub open_declined : ℕ → Price → Option Refusal
open_declined m q = first_of ((not (open_within m q), PastLimit) ∷ [])

abbrev pub after_open : Ledger → ℕ → Price → (List ℕ → ℕ → List ℕ) → Ledger
after_open f m q shares = placed (open_declined m q) (opened m q shares) f

abbrev pub settle_conditions : Ledger → ℕ → ℕ → ℕ → List (Bool × Refusal)
settle_conditions f p energies amounts =
    (not (plant_ok p), PastLimit)
    ∷ (not (is_enrolled (at f p)), NotEnrolled)
    ∷ (not (is_metered (at f p)), NotReady)
    ∷ (not (energies == length (contracts_of p f.rows)) || not (amounts == length (contracts_of p f.rows)), SliceLength)
    ∷ []

abbrev pub settle_declined : Ledger → ℕ → ℕ → ℕ → Option Refusal
settle_declined f p energies amounts = first_of (settle_conditions f p energies amounts)

-- What the meter of plant p showed; nothing where there is no such plant.
abbrev pub reading_of : Ledger → ℕ → Option Reading
reading_of f p = cond (plant_ok p) (at f p).reading None

-- Settling plant p: what it answers, and what the slices of energies and amounts hold then.
pub record SettledIn (f : Ledger) (p : ℕ) (before after' : List Energy) (old new : List Grains) (r : Result Settlement Refusal) : Type 0 where
  pub answer : r ≡ answered (settle_declined f p (length before) (length old)) (settlement_of (plant_in f p))
  pub energies : after' ≡ placed (settle_declined f p (length before) (length old)) (settled_energies (plant_in f p)) before
  pub amounts : new ≡ placed (settle_declined f p (length before) (length old)) (settled_amounts (plant_in f p)) old
  -- and what follows by the laws of sharing: what every settlement keeps
  pub settles : IfOk r (λ s. Settles (plant_in f p) after' s)
