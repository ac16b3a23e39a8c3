-- What it answers and leaves to load a month sheet into a book. Assumes nothing.
use Rattle.std.specs.Prelude.{◌≡◌, ℕ, ◌+◌, Bool, false, not, List, [], ◌∷◌, length, Some, None, Ok, Err, Option, Result, nat_lt}
use Rattle.sharing.specs.Declining.{first_of, answered, placed}
use Rattle.book.specs.declared.call.Call.{Call}
use Rattle.book.specs.declared.refusal.Refusal.{Refusal}
use Rattle.book.specs.declared.refusal.Refusal.TheVariants.{PastLimit}
use Rattle.book.specs.Calls.{Answer, declined, accepted, answer, open_within}
use Rattle.book.specs.Ledgers.{Ledger, opened}
use Rattle.journal.specs.Replays.{Ran}
use Rattle.sheet.specs.declared.fault.Cause.{Cause}
use Rattle.sheet.specs.declared.fault.Cause.TheVariants.{Sheet, Book}
use Rattle.sheet.specs.declared.fault.Fault.{Fault}
use Rattle.sheet.specs.declared.fault.Problem.TheVariants.{TooLong, CutShort}
use Rattle.sheet.specs.declared.loading.Header.{Header}
use Rattle.sheet.specs.Faults.{fault_at, or_else}
use Rattle.sheet.specs.Formats.{Stretches, Exact, all_calls, calls_of, contents_of, month_in, residential_in, section_count}

-- The figures after calls that are made in order, up to the first that is declined.
abbrev pub left_by : Ledger → List Call → Ledger
left_by f [] = f
left_by f (c ∷ cs) = placed (declined f c) (left_by (accepted f c) cs) f

-- The calls that are made then, the declined one among them, and their answers.
abbrev pub made_of : Ledger → List Call → List Call
made_of f [] = []
made_of f (c ∷ cs) = c ∷ placed (declined f c) (made_of (accepted f c) cs) []

abbrev pub answers_of : Ledger → List Call → List Answer
answers_of f [] = []
answers_of f (c ∷ cs) = answer f c ∷ placed (declined f c) (answers_of (accepted f c) cs) []

-- The fault of the first call that is declined: the items of the section at an offset are counted from the one given.
abbrev pub book_fault : ℕ → ℕ → Option Refusal → Option Fault
book_fault offset item None = None
book_fault offset item (Some why) = Some (fault_at offset item (Book why))

abbrev pub item_fault : Ledger → ℕ → ℕ → List Call → Option Fault
item_fault f offset item [] = None
item_fault f offset item (c ∷ cs) = or_else (book_fault offset item (declined f c)) (item_fault (accepted f c) offset (item + 1) cs)

-- The first fault of sections that are made one after another; stop is the one after them, if there is one.
abbrev pub fault_in : Ledger → List Stretches → Option Fault → Option Fault
fault_in f [] stop = stop
fault_in f (s ∷ ss) stop = or_else (item_fault f s.offset 0 (calls_of s)) (fault_in (left_by f (calls_of s)) ss stop)

-- What can be wrong with a header, in the order in which it is checked.
abbrev pub header_conditions : List ℕ → List (Bool × Cause)
header_conditions bytes =
    (nat_lt 65536 (length bytes), Sheet TooLong)
    ∷ (nat_lt (length bytes) 6, Sheet CutShort)
    ∷ (not (open_within (month_in bytes) (residential_in bytes)), Book PastLimit)
    ∷ []

abbrev pub header_problem : List ℕ → Option Cause
header_problem bytes = first_of (header_conditions bytes)

abbrev pub header_fault : Option Cause → Option Fault
header_fault None = None
header_fault (Some why) = Some (fault_at 0 0 why)

-- Reading the header, without opening a book by it.
abbrev pub ReadsHeader : List ℕ → Result Header Fault → Type 0
ReadsHeader bytes (Ok header) =
    (nat_lt 65536 (length bytes) ≡ false) × (nat_lt (length bytes) 6 ≡ false) × (header.sections ≡ section_count bytes) × (header.month ≡ month_in bytes) × (header.residential ≡ residential_in bytes)
ReadsHeader bytes (Err fault) = header_fault (header_problem bytes) ≡ Some fault

-- The figures of the book that the header opens.
abbrev pub opened_by : (List ℕ → ℕ → List ℕ) → List ℕ → Ledger
opened_by shares bytes = opened (month_in bytes) (residential_in bytes) shares

-- The first fault of a sheet.
unfoldable pub load_fault : (List ℕ → ℕ → List ℕ) → List ℕ → Option Fault
load_fault shares bytes = or_else (header_fault (header_problem bytes)) (fault_in (opened_by shares bytes) (contents_of bytes).sections (contents_of bytes).stop)

abbrev pub calls_in_sheet : List ℕ → List Call
calls_in_sheet bytes = all_calls (contents_of bytes).sections

-- The figures of the book after a sheet was loaded into one with the figures f: a header fault leaves them.
unfoldable pub loaded_into : Ledger → (List ℕ → ℕ → List ℕ) → List ℕ → Ledger
loaded_into f shares bytes = placed (header_problem bytes) (left_by (opened_by shares bytes) (calls_in_sheet bytes)) f

-- Loading a sheet and its answer r: the book had the figures f before it and has g after it.
pub record Loaded (shares : List ℕ → ℕ → List ℕ) (bytes : List ℕ) (f g : Ledger) (r : Result (Unit {0}) Fault) : Type 0 where
  pub answer : r ≡ answered (load_fault shares bytes) tt
  pub left : g ≡ loaded_into f shares bytes
  -- where the header opens the book, what is left is a run of calls, so the law over every run holds of it
  pub law : header_problem bytes ≡ None → Ran shares (month_in bytes) (residential_in bytes) (made_of (opened_by shares bytes) (calls_in_sheet bytes)) (answers_of (opened_by shares bytes) (calls_in_sheet bytes)) g
  -- an accepted sheet is byte for byte the calls that were made, written out
  pub exact : r ≡ Ok tt → Exact bytes (made_of (opened_by shares bytes) (calls_in_sheet bytes))
