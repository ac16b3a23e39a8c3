-- A tally that is kept beside a book, fed with the calls and their answers alone, and the law that every run keeps. Assumes nothing.
use Rattle.std.specs.Prelude.{◌≡◌, ℕ, ◌+◌, ◌-◌, ◌≤◌, true, false, List, [], ◌∷◌, map, replicate, ℤ, pos, ◌+ℤ◌, ◌*ℤ◌, ◌≤ℤ◌, ◌<ℤ◌, Some, None, Ok, Err, Option, slice_index_or, slice_set}
use Rattle.units.specs.declared.price.Price.{Price}
use Rattle.units.specs.Fits.{grains}
use Rattle.market.specs.Figures.{settled_energies, settlement_of}
use Rattle.market.specs.Laws.{Lawful, Settles}
use Rattle.book.specs.declared.account.Account.{Account}
use Rattle.book.specs.declared.account.Reading.{Reading}
use Rattle.book.specs.declared.call.Call.{Call}
use Rattle.book.specs.declared.call.Call.TheVariants.{Enrol, Enter, Amend, Transfer, Meter, Compensate, Issue, Close, Turn}
use Rattle.book.specs.declared.row.Row.{Row}
use Rattle.book.specs.Accounts.{is_issued, sides}
use Rattle.book.specs.Calls.{Answer, at, accepted, open_within, Makes}
use Rattle.book.specs.Ledgers.{Ledger, with_accounts, opened, plant_in, net_of_plant}
use Rattle.book.specs.Rows.{row_of, energy_in_all}

-- What was paid to a plant so far, in grains, and the nets of its months, the latest first:
-- a month counts with its net at issue until it is closed, then with the final one.
pub record Dues : Type 0 where
  pub paid : ℤ
  pub nets : List ℤ

-- The tally has its own copy of every figure but the carries, which it leaves at zero.
pub record Tally : Type 0 where
  pub copy : Ledger
  -- the energy entered this month, and what accepted amendments raised and reduced it by
  pub entered : ℕ
  pub raised : ℕ
  pub reduced : ℕ
  pub dues : List Dues

abbrev pub nothing_due : Dues
nothing_due = record { paid = pos 0; nets = [] }

abbrev pub dues_of : Tally → ℕ → Dues
dues_of t p = slice_index_or t.dues (p - 1) nothing_due

abbrev pub without_carry : Account → Account
without_carry a = record { enrolment = a.enrolment; reading = a.reading; side = a.side; carry = grains (pos 0); issued = a.issued; closed = a.closed }

abbrev pub without_carries : Ledger → Ledger
without_carries f = with_accounts (map without_carry f.accounts) f

-- At open the tally holds what the book was opened with, and nothing else.
abbrev pub tally_opened : ℕ → Price → (List ℕ → ℕ → List ℕ) → Tally
tally_opened m q shares = record { copy = opened m q shares; entered = 0; raised = 0; reduced = 0; dues = replicate 24 nothing_due }

abbrev pub energy_of : Option Row → ℕ
energy_of None = 0
energy_of (Some c) = c.contract.energy.kwh

-- What an accepted call adds to the energy entered, to the raises and to the reductions. A new month begins with none.
abbrev pub entered_after : Tally → Call → ℕ
entered_after t (Enrol p k q) = t.entered
entered_after t (Enter n p k e q) = t.entered + e.kwh
entered_after t (Amend n e) = t.entered
entered_after t (Transfer n o p e q) = t.entered
entered_after t (Meter p m c) = t.entered
entered_after t (Compensate p a) = t.entered
entered_after t (Issue p) = t.entered
entered_after t (Close p) = t.entered
entered_after t (Turn q) = 0

abbrev pub raised_after : Tally → Call → ℕ
raised_after t (Enrol p k q) = t.raised
raised_after t (Enter n p k e q) = t.raised
raised_after t (Amend n e) = t.raised + (e.kwh - energy_of (row_of n t.copy.rows))
raised_after t (Transfer n o p e q) = t.raised
raised_after t (Meter p m c) = t.raised
raised_after t (Compensate p a) = t.raised
raised_after t (Issue p) = t.raised
raised_after t (Close p) = t.raised
raised_after t (Turn q) = 0

abbrev pub reduced_after : Tally → Call → ℕ
reduced_after t (Enrol p k q) = t.reduced
reduced_after t (Enter n p k e q) = t.reduced
reduced_after t (Amend n e) = t.reduced + (energy_of (row_of n t.copy.rows) - e.kwh)
reduced_after t (Transfer n o p e q) = t.reduced
reduced_after t (Meter p m c) = t.reduced
reduced_after t (Compensate p a) = t.reduced
reduced_after t (Issue p) = t.reduced
reduced_after t (Close p) = t.reduced
reduced_after t (Turn q) = 0

-- Issue adds the fen that it answers, as grains, to the payments, and the net to the nets. Close replaces that net by the final one.
abbrev pub latest_replaced : List ℤ → ℤ → List ℤ
latest_replaced [] n = []
latest_replaced (m ∷ ms) n = n ∷ ms

abbrev pub dues_after : Tally → Call → ℤ → List Dues
dues_after t (Enrol p k q) fen = t.dues
dues_after t (Enter n p k e q) fen = t.dues
dues_after t (Amend n e) fen = t.dues
dues_after t (Transfer n o p e q) fen = t.dues
dues_after t (Meter p m c) fen = t.dues
dues_after t (Compensate p a) fen = t.dues
dues_after t (Issue p) fen = slice_set t.dues (p - 1) record { paid = (dues_of t p).paid +ℤ (fen *ℤ pos 1000000); nets = net_of_plant t.copy p ∷ (dues_of t p).nets }
dues_after t (Close p) fen = slice_set t.dues (p - 1) record { paid = (dues_of t p).paid; nets = latest_replaced (dues_of t p).nets (net_of_plant t.copy p) }
dues_after t (Turn q) fen = t.dues

-- An accepted call moves the tally's copy by the rules of the calls. fen is what the call paid, 0 where it paid nothing.
abbrev pub fed_accepted : Tally → Call → ℤ → Tally
fed_accepted t c fen =
    record {
      copy = without_carries (accepted t.copy c);
      entered = entered_after t c;
      raised = raised_after t c;
      reduced = reduced_after t c;
      dues = dues_after t c fen;
    }

-- A declined call leaves the tally as it was.
abbrev pub fed : Tally → Call → Answer → Tally
fed t c (Ok None) = fed_accepted t c (pos 0)
fed t c (Ok (Some fen)) = fed_accepted t c fen.count
fed t c (Err why) = t

abbrev pub fed_all : Tally → List Call → List Answer → Tally
fed_all t [] answers = t
fed_all t (c ∷ cs) [] = t
fed_all t (c ∷ cs) (a ∷ answers) = fed_all (fed t c a) cs answers

abbrev pub sum_of : List ℤ → ℤ
sum_of [] = pos 0
sum_of (n ∷ ns) = n +ℤ sum_of ns

-- The law of a book after a run, by the tally: b is the book's figures, and what settle answers is worked out from them.
pub record Keeps (t : Tally) (b : Ledger) : Type 0 where
  -- For each metered plant: settled energies, commissioning and over-generation add up to the metered energy; no contract settles
  -- above its energy; a rank settles energy only when every earlier rank is full, and over-generation only when all are; within a rank
  -- each contract settles the part that the rule gives. Meter, contracts and rule are the tally's.
  pub settles : (p : ℕ) (r : Reading) → 1 ≤ p → p ≤ 24 → (at t.copy p).reading ≡ Some r → Settles (plant_in t.copy p) (settled_energies (plant_in b p)) (settlement_of (plant_in b p))
  -- The contracts' energies add up to the energy entered this month, plus raises, less reductions.
  pub energies : energy_in_all b.rows + t.reduced ≡ t.entered + t.raised
  -- The side balances add up to zero.
  pub balances : sides b.accounts ≡ pos 0
  -- For each plant all payments plus its carry equal the nets of its months.
  pub payments : (p : ℕ) → 1 ≤ p → p ≤ 24 → (dues_of t p).paid +ℤ (at b p).carry.count ≡ sum_of (dues_of t p).nets
  -- From issue until close the carry is at least 0 and below one fen.
  pub carries : (p : ℕ) → 1 ≤ p → p ≤ 24 → is_issued (at t.copy p) ≡ true → (at t.copy p).closed ≡ false → (pos 0 ≤ℤ (at b p).carry.count) × ((at b p).carry.count <ℤ pos 1000000)

-- A run from one book's figures to another's, with the calls made and their answers.
pub data Run : Ledger → List Call → List Answer → Ledger → Type 0 where
  none : {b : Ledger} → Run b [] [] b
  then : {b b' b'' : Ledger} {c : Call} {cs : List Call} {a : Answer} {answers : List Answer} → Makes b c b' a → Run b' cs answers b'' → Run b (c ∷ cs) (a ∷ answers) b''

-- The law over whole runs: for every rule that keeps the laws of sharing, every month and price, and every list of calls.
abbrev pub RunLaw : Type 0
RunLaw =
    (shares : List ℕ → ℕ → List ℕ) → Lawful shares
    → (m : ℕ) (q : Price) → open_within m q ≡ true
    → (cs : List Call) (answers : List Answer) (b : Ledger) → Run (opened m q shares) cs answers b
    → Keeps (fed_all (tally_opened m q shares) cs answers) b
