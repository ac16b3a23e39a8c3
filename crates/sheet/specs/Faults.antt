-- The layer and the number of each fault of a sheet. Assumes nothing.
use Rattle.std.specs.Prelude.{ℕ, Some, None, Option}
use Rattle.book.specs.Refusals.{numbered}
use Rattle.sheet.specs.declared.fault.Cause.{Cause}
use Rattle.sheet.specs.declared.fault.Cause.TheVariants.{Sheet, Book}
use Rattle.sheet.specs.declared.fault.Fault.{Fault}
use Rattle.sheet.specs.declared.fault.Problem.{Problem}
use Rattle.sheet.specs.declared.fault.Problem.TheVariants.{TooLong, CutShort, UnknownKind, TooManyItems, LeftOver}

abbrev pub problem_number : Problem → ℕ
problem_number TooLong = 31
problem_number CutShort = 32
problem_number UnknownKind = 33
problem_number TooManyItems = 34
problem_number LeftOver = 35

-- Layer 1 is the sheet itself, layer 2 the book.
abbrev pub layer_of : Cause → ℕ
layer_of (Sheet problem) = 1
layer_of (Book refusal) = 2

abbrev pub cause_number : Cause → ℕ
cause_number (Sheet problem) = problem_number problem
cause_number (Book refusal) = numbered refusal

-- A fault at an item of the section at an offset, and one outside an item.
abbrev pub fault_at : ℕ → ℕ → Cause → Fault
fault_at offset item why = record { cause = why; offset = offset; item = item }

abbrev pub sheet_fault : ℕ → Problem → Fault
sheet_fault offset why = fault_at offset 0 (Sheet why)

-- Of two that may have a fault the first one's, if it has one.
abbrev pub or_else : Option Fault → Option Fault → Option Fault
or_else None second = second
or_else (Some fault) second = Some fault
