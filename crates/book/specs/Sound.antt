-- What every book that exists keeps. Assumes nothing.
use Rattle.std.specs.Prelude.{◌≡◌, ℕ, ◌≤◌, true, false, length, pos, ◌≤ℤ◌, ◌<ℤ◌, is_some, unsigned_abs}
use Rattle.std.specs.List.{AllByRecursion}
use Rattle.units.specs.Payments.{most_net, most_carry}
use Rattle.book.specs.declared.account.Account.{Account}
use Rattle.book.specs.declared.row.Row.{Row}
use Rattle.book.specs.Accounts.{account_of, metered_kwh, issued_net, sides, may_be_held}
use Rattle.book.specs.Ledgers.{Ledger, approved_in, commissioning_kwh}
use Rattle.book.specs.Rows.{row_ok, rising, plant_sum}

-- One account keeps every limit.
pub record Fair (a : Account) : Type 0 where
  pub approved : (approved_in a.enrolment).micro ≤ 1000000
  pub metered : metered_kwh a.reading ≤ 3000000000
  pub commissioning : commissioning_kwh a.reading ≤ metered_kwh a.reading
  pub side : unsigned_abs a.side.count ≤ 300000000000000000
  pub issued : unsigned_abs (issued_net a) ≤ most_net
  pub carry : unsigned_abs a.carry.count ≤ most_carry
  -- between issue and close less than a fen is carried
  pub pending : is_some a.issued ≡ true → a.closed ≡ false → (pos 0 ≤ℤ a.carry.count) × (a.carry.count <ℤ pos 1000000)
  -- a plant that is closed was issued, and one that was issued is metered and enrolled
  pub closed : a.closed ≡ true → is_some a.issued ≡ true
  pub ready : is_some a.issued ≡ true → is_some a.reading ≡ true
  pub known : is_some a.reading ≡ true → is_some a.enrolment ≡ true

pub record Sound (f : Ledger) : Type 0 where
  pub first : 1 ≤ f.month
  pub last : f.month ≤ 12
  pub residential : f.residential.micro ≤ 1000000
  -- contracts in rising number, within their limits, held by enrolled plants of a class that may hold them
  pub rises : rising f.rows ≡ true
  pub few : length f.rows ≤ 256
  pub each : AllByRecursion (λ c. row_ok c ≡ true) f.rows
  pub owned : AllByRecursion (λ (c : Row). may_be_held (account_of c.plant f.accounts).enrolment c.contract.rank ≡ true) f.rows
  pub sums : (p : ℕ) → plant_sum p f.rows ≤ 3000000000
  -- 24 accounts within their limits, and side balances that add up to zero
  pub full : length f.accounts ≡ 24
  pub fair : AllByRecursion Fair f.accounts
  pub balanced : sides f.accounts ≡ pos 0
