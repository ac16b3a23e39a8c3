-- The accounts of the 24 plants: what stands under a plant's number, and what a call changes there. Assumes nothing.
use Rattle.std.specs.Prelude.{ℕ, ◌-◌, ◌*◌, Bool, true, false, cond, not, ◌&&◌, List, [], ◌∷◌, drop, ℤ, pos, ◌+ℤ◌, ◌-ℤ◌, neg_ℤ, is_some, Some, None, Option, nat_lt, slice_index, slice_index_or, slice_set}
use Rattle.std.specs.List.{list_any}
use Rattle.units.specs.declared.money.Grains.{Grains}
use Rattle.units.specs.declared.price.Price.{Price}
use Rattle.units.specs.Fits.{grains}
use Rattle.units.specs.Limits.{side_balance}
use Rattle.units.specs.Payments.{split}
use Rattle.market.specs.declared.kinds.Class.{Class}
use Rattle.market.specs.declared.kinds.Rank.{Rank}
use Rattle.market.specs.Kinds.{may_hold, may_transfer}
use Rattle.book.specs.declared.account.Account.{Account}
use Rattle.book.specs.declared.account.Reading.{Reading}
use Rattle.book.specs.declared.account.Enrolment.{Enrolment}

abbrev pub blank : Account
blank = record { enrolment = None; reading = None; side = grains (pos 0); carry = grains (pos 0); issued = None; closed = false }

-- Plant 1 stands first.
abbrev pub account_of : ℕ → List Account → Account
account_of p xs = slice_index_or xs (p - 1) blank

-- One plant's account changed, every other as it was.
abbrev pub with_account : ℕ → (Account → Account) → List Account → List Account
with_account p f xs = slice_set xs (p - 1) (f (account_of p xs))

abbrev pub is_enrolled : Account → Bool
is_enrolled a = is_some a.enrolment

abbrev pub is_metered : Account → Bool
is_metered a = is_some a.reading

abbrev pub is_issued : Account → Bool
is_issued a = is_some a.issued

abbrev pub metered_kwh : Option Reading → ℕ
metered_kwh None = 0
metered_kwh (Some r) = r.metered.kwh

-- What an account is changed to.
abbrev pub enrolled_as : Option Class → Price → Account → Account
enrolled_as None q a = a
enrolled_as (Some k) q a = record { enrolment = Some (record { class = k; approved = q }); reading = a.reading; side = a.side; carry = a.carry; issued = a.issued; closed = a.closed }

abbrev pub with_reading : Reading → Account → Account
with_reading r a = record { enrolment = a.enrolment; reading = Some r; side = a.side; carry = a.carry; issued = a.issued; closed = a.closed }

abbrev pub with_side : ℤ → Account → Account
with_side z a = record { enrolment = a.enrolment; reading = a.reading; side = grains z; carry = a.carry; issued = a.issued; closed = a.closed }

abbrev pub side_moved : ℤ → Account → Account
side_moved z a = with_side (a.side.count +ℤ z) a

-- Whole fen of net and carry are paid, rounded down; the rest is the new carry.
abbrev pub issued_at : ℤ → Account → Account
issued_at net a = record { enrolment = a.enrolment; reading = a.reading; side = a.side; carry = (split (net +ℤ a.carry.count)).carry; issued = Some (grains net); closed = a.closed }

abbrev pub net_at : Option Grains → ℤ
net_at None = pos 0
net_at (Some g) = g.count

abbrev pub issued_net : Account → ℤ
issued_net a = net_at a.issued

-- The net now less the net at issue goes into the carry.
abbrev pub closed_at : ℤ → Account → Account
closed_at net a = record { enrolment = a.enrolment; reading = a.reading; side = a.side; carry = grains (a.carry.count +ℤ (net -ℤ issued_net a)); issued = a.issued; closed = true }

-- A new month keeps the plant and its carry.
abbrev pub turned : Account → Account
turned a = record { enrolment = a.enrolment; reading = None; side = grains (pos 0); carry = a.carry; issued = None; closed = false }

-- Some account passes a test.
abbrev pub any_account : (Account → Bool) → List Account → Bool
any_account test xs = list_any test xs

abbrev pub is_closed : Account → Bool
is_closed a = a.closed

abbrev pub is_unmetered : Account → Bool
is_unmetered a = is_enrolled a && not (is_metered a)

abbrev pub is_unclosed : Account → Bool
is_unclosed a = is_enrolled a && not a.closed

abbrev pub has_generated : Account → Bool
has_generated a = is_enrolled a && nat_lt 0 (metered_kwh a.reading)

abbrev pub is_past_side_limit : Account → Bool
is_past_side_limit a = not (side_balance a.side.count)

-- The metered energies of the enrolled plants, in rising number.
abbrev pub metered_claims : List Account → List ℕ
metered_claims [] = []
metered_claims (a ∷ xs) = cond (is_enrolled a) (metered_kwh a.reading ∷ metered_claims xs) (metered_claims xs)

-- Each enrolled plant in turn is debited the next part, in fen.
abbrev pub debit_of : ℕ → ℤ
debit_of fen = neg_ℤ (pos (fen * 1000000))

abbrev pub debited : List Account → List ℕ → List Account
debited [] parts = []
debited (a ∷ xs) parts = cond (is_enrolled a) (side_moved (debit_of (slice_index parts 0)) a ∷ debited xs (drop 1 parts)) (a ∷ debited xs parts)

-- One plant is credited with an amount in fen, which is shared over all enrolled plants as debits.
abbrev pub compensated : (List ℕ → ℕ → List ℕ) → ℕ → ℕ → List Account → List Account
compensated shares p fen xs = with_account p (side_moved (pos (fen * 1000000))) (debited xs (shares (metered_claims xs) fen))

-- The side balances of all accounts together.
abbrev pub sides : List Account → ℤ
sides [] = pos 0
sides (a ∷ xs) = a.side.count +ℤ sides xs

-- What an enrolled plant's class allows.
abbrev pub may_be_held : Option Enrolment → Rank → Bool
may_be_held None r = false
may_be_held (Some e) r = may_hold e.class r

abbrev pub may_trade : Option Enrolment → Bool
may_trade None = false
may_trade (Some e) = may_transfer e.class
