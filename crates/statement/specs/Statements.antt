-- The statement of a month sheet. Assumes nothing.
use Rattle.std.specs.Prelude.{◌≡◌, ℕ, zero, suc, ◌+◌, ◌≤◌, false, List, [], ◌++◌, ◌+ℤ◌, Some, None, Option}
use Rattle.units.specs.Payments.{split}
use Rattle.sharing.specs.Rules.{equal_ratio}
use Rattle.market.specs.Figures.{settlement_of}
use Rattle.market.specs.Prices.{micro}
use Rattle.book.specs.declared.account.Reading.{Reading}
use Rattle.book.specs.declared.call.Call.TheVariants.{Issue}
use Rattle.book.specs.Accounts.{is_issued}
use Rattle.book.specs.Calls.{accepted, at, reading_of}
use Rattle.book.specs.Ledgers.{Ledger, opened, net_of_plant, plant_in}
use Rattle.sheet.specs.declared.fault.Fault.{Fault}
use Rattle.sheet.specs.Loads.{load_fault, loaded_into}
use Rattle.statement.specs.declared.line.PlantLine.{PlantLine}
use Rattle.statement.specs.Lines.{fault_text, plant_text}

-- The line of a metered plant: over-generation and shortfall as it is settled before it is issued, and what its issue pays.
abbrev pub line_of : Ledger → ℕ → Reading → PlantLine
line_of f p r =
    record {
      plant = p;
      metered = r.metered;
      over_generation = (settlement_of (plant_in f p)).over_generation;
      shortfall = (settlement_of (plant_in f p)).shortfall;
      payment = (split (net_of_plant f p +ℤ (at f p).carry.count)).fen;
    }

-- A plant's line before the lines of the others, and the book after its issue; a plant that is not metered has no line.
abbrev pub text_by : Ledger → ℕ → Option Reading → List ℕ
text_by f p None = []
text_by f p (Some r) = plant_text (line_of f p r)

abbrev pub issued_by : Ledger → ℕ → Option Reading → Ledger
issued_by f p None = f
issued_by f p (Some r) = accepted f (Issue p)

-- So many plants, from the number p on, are issued in rising number.
abbrev pub lines_from : ℕ → ℕ → Ledger → List ℕ
lines_from zero p f = []
lines_from (suc n) p f = text_by f p (reading_of f p) ++ lines_from n (p + 1) (issued_by f p (reading_of f p))

-- All 24 plants.
unfoldable pub all_lines : Ledger → List ℕ
all_lines f = lines_from 24 1 f

-- The book that a sheet is loaded into is a new one.
abbrev pub new_book : Ledger
new_book = opened 1 (micro 0) equal_ratio

abbrev pub statement_by : Option Fault → Ledger → List ℕ
statement_by (Some fault) f = fault_text fault
statement_by None f = all_lines f

-- The statement of a sheet, by equal ratio.
unfoldable pub statement_of : List ℕ → List ℕ
statement_of bytes = statement_by (load_fault equal_ratio bytes) (loaded_into new_book equal_ratio bytes)

-- No plant from the number p on is issued yet.
abbrev pub Unissued : ℕ → Ledger → Type 0
Unissued p f = (q : ℕ) → p ≤ q → is_issued (at f q) ≡ false
