-- The format of a month sheet: the bytes that are written for its header and sections, and the sections that are read from bytes. Assumes nothing.
use Rattle.std.specs.Prelude.{◌≡◌, ℕ, zero, suc, ◌+◌, ◌*◌, ◌/◌, ◌%◌, ◌^◌, ◌<◌, ◌≤◌, Bool, cond, not, List, [], ◌∷◌, ◌++◌, length, take, drop, is_some, Some, None, Ok, Err, Option, Result, ◌==◌, nat_lt, slice_index}
use Rattle.std.specs.List.{AllByRecursion}
use Rattle.units.specs.declared.energy.Energy.{Energy}
use Rattle.units.specs.declared.price.Price.{Price}
use Rattle.sharing.specs.Declining.{first_of}
use Rattle.book.specs.declared.call.Call.{Call}
use Rattle.book.specs.declared.call.Call.TheVariants.{Enrol, Enter, Amend, Transfer, Meter, Compensate, Issue, Close, Turn}
use Rattle.sheet.specs.declared.fault.Fault.{Fault}
use Rattle.sheet.specs.declared.fault.Problem.{Problem}
use Rattle.sheet.specs.declared.fault.Problem.TheVariants.{CutShort, UnknownKind, TooManyItems, LeftOver}
use Rattle.sheet.specs.declared.kind.Kind.{Kind}
use Rattle.sheet.specs.declared.kind.Kind.TheVariants.{Enrols, Enters, Transfers, Meters}
use Rattle.sheet.specs.declared.section.Section.{Section}
use Rattle.sheet.specs.declared.section.Section.TheVariants.{EnrolSection, EnterSection, TransferSection, MeterSection}
use Rattle.sheet.specs.Faults.{sheet_fault}

-- Numbers are little-endian: the first byte is the lowest.
abbrev pub number : List ℕ → ℕ
number [] = 0
number (b ∷ bs) = b + 256 * number bs

-- The number that stands in so many bytes at a place.
abbrev pub field : ℕ → ℕ → List ℕ → ℕ
field place width bytes = number (take width (drop place bytes))

-- The bytes of a number, so many of them.
abbrev pub bytes_of : ℕ → ℕ → List ℕ
bytes_of zero n = []
bytes_of (suc width) n = (n % 256) ∷ bytes_of width (n / 256)

abbrev pub energy : ℕ → Energy
energy n = record { kwh = n }

abbrev pub price : ℕ → Price
price n = record { micro = n }

-- The four kinds of sections, their numbers, and the bytes that a head and a term take.
abbrev pub kind_number : Kind → ℕ
kind_number Enrols = 1
kind_number Enters = 2
kind_number Transfers = 3
kind_number Meters = 4

abbrev pub kind_of : ℕ → Option Kind
kind_of n = cond (n == 1) (Some Enrols) (cond (n == 2) (Some Enters) (cond (n == 3) (Some Transfers) (cond (n == 4) (Some Meters) None)))

abbrev pub head_size : Kind → ℕ
head_size Enrols = 1
head_size Enters = 4
head_size Transfers = 8
head_size Meters = 1

abbrev pub term_size : Kind → ℕ
term_size Enrols = 5
term_size Enters = 14
term_size Transfers = 13
term_size Meters = 16

-- READING

-- The call of an item, from its head and its term.
abbrev pub call_of : Kind → List ℕ → List ℕ → Call
call_of Enrols head term = Enrol (field 0 1 head) (field 0 1 term) (price (field 1 4 term))
call_of Enters head term = Enter (field 0 4 head) (field 0 1 term) (field 1 1 term) (energy (field 2 8 term)) (price (field 10 4 term))
call_of Transfers head term = Transfer (field 0 4 head) (field 4 4 head) (field 0 1 term) (energy (field 1 8 term)) (price (field 9 4 term))
call_of Meters head term = Meter (field 0 1 head) (energy (field 0 8 term)) (energy (field 8 8 term))

-- The calls of so many items.
abbrev pub calls_in : Kind → ℕ → List ℕ → List ℕ → List Call
calls_in k zero heads terms = []
calls_in k (suc n) heads terms = call_of k (take (head_size k) heads) (take (term_size k) terms) ∷ calls_in k n (drop (head_size k) heads) (drop (term_size k) terms)

-- A section as it stands in a sheet: its kind, its offset, and the bytes of its heads and of its terms.
pub record Stretches : Type 0 where
  pub kind : Kind
  pub offset : ℕ
  pub heads : List ℕ
  pub terms : List ℕ

abbrev pub stretches_of : Section → Stretches
stretches_of (EnrolSection offset heads terms) = record { kind = Enrols; offset = offset; heads = heads.now; terms = terms.now }
stretches_of (EnterSection offset heads terms) = record { kind = Enters; offset = offset; heads = heads.now; terms = terms.now }
stretches_of (TransferSection offset heads terms) = record { kind = Transfers; offset = offset; heads = heads.now; terms = terms.now }
stretches_of (MeterSection offset heads terms) = record { kind = Meters; offset = offset; heads = heads.now; terms = terms.now }

abbrev pub item_count : Stretches → ℕ
item_count s = length s.heads / head_size s.kind

abbrev pub calls_of : Stretches → List Call
calls_of s = calls_in s.kind (item_count s) s.heads s.terms

-- How many bytes a section takes: its kind, its count, its heads and its terms.
abbrev pub section_size : Kind → ℕ → ℕ
section_size k n = 3 + n * head_size k + n * term_size k

-- Of the bytes from the start of a section on: its count, and its size.
abbrev pub count_in : List ℕ → ℕ
count_in rest = field 1 2 rest

abbrev pub size_by : Option Kind → ℕ → ℕ
size_by None n = 3
size_by (Some k) n = section_size k n

abbrev pub size_in : List ℕ → ℕ
size_in rest = size_by (kind_of (slice_index rest 0)) (count_in rest)

-- What can be wrong with a section, in the order in which it is checked.
abbrev pub section_conditions : List ℕ → List (Bool × Problem)
section_conditions rest =
    (nat_lt (length rest) 3, CutShort)
    ∷ (not (is_some (kind_of (slice_index rest 0))), UnknownKind)
    ∷ (nat_lt 256 (count_in rest), TooManyItems)
    ∷ (nat_lt (length rest) (size_in rest), CutShort)
    ∷ []

-- The kind and the count of a section that is all there, or the first thing that is wrong.
abbrev pub StartsWith : List ℕ → Result (Kind × ℕ) Problem → Type 0
StartsWith rest (Ok start) = (first_of (section_conditions rest) ≡ None) × (kind_of (slice_index rest 0) ≡ Some start.0) × (start.1 ≡ count_in rest) × (section_size start.0 start.1 ≤ length rest)
StartsWith rest (Err why) = first_of (section_conditions rest) ≡ Some why

abbrev pub cut_out : ℕ → List ℕ → Kind → Stretches
cut_out offset rest k =
    record {
      kind = k;
      offset = offset;
      heads = take (count_in rest * head_size k) (drop 3 rest);
      terms = take (count_in rest * term_size k) (drop (count_in rest * head_size k) (drop 3 rest));
    }

abbrev pub cut_by : ℕ → List ℕ → Option Problem → Option Kind → Result Stretches Fault
cut_by offset rest (Some why) k = Err (sheet_fault offset why)
cut_by offset rest None None = Err (sheet_fault offset UnknownKind)
cut_by offset rest None (Some k) = Ok (cut_out offset rest k)

-- The section that stands at the start of these bytes, or what is wrong with it.
unfoldable pub section_at : ℕ → List ℕ → Result Stretches Fault
section_at offset rest = cut_by offset rest (first_of (section_conditions rest)) (kind_of (slice_index rest 0))

-- As many heads as terms, each of its size.
abbrev pub Whole : Stretches → Type 0
Whole s = (length s.heads ≡ item_count s * head_size s.kind) × (length s.terms ≡ item_count s * term_size s.kind)

-- Reading a section at an offset of a sheet: the section and the offset of what comes after it, or the fault.
abbrev pub ReadsSection : List ℕ → ℕ → Result (Section × ℕ) Fault → Type 0
ReadsSection bytes offset (Ok read) = (section_at offset (drop offset bytes) ≡ Ok (stretches_of read.0)) × (read.1 ≡ offset + size_in (drop offset bytes)) × Whole (stretches_of read.0)
ReadsSection bytes offset (Err fault) = section_at offset (drop offset bytes) ≡ Err fault

-- What a sheet holds: its sections up to the first that is at fault, and the fault, if there is one.
pub record Contents : Type 0 where
  pub sections : List Stretches
  pub stop : Option Fault

abbrev pub left_over : ℕ → List ℕ → Option Fault
left_over offset [] = None
left_over offset (b ∷ bs) = Some (sheet_fault offset LeftOver)

abbrev pub with_section : Result Stretches Fault → Contents → Contents
with_section (Err fault) more = record { sections = []; stop = Some fault }
with_section (Ok section) more = record { sections = section ∷ more.sections; stop = more.stop }

-- So many sections, from an offset on.
abbrev pub contents_from : ℕ → ℕ → List ℕ → Contents
contents_from zero offset rest = record { sections = []; stop = left_over offset rest }
contents_from (suc n) offset rest = with_section (section_at offset rest) (contents_from n (offset + size_in rest) (drop (size_in rest) rest))

-- The header: section count, month, residential price.
abbrev pub section_count : List ℕ → ℕ
section_count bytes = field 0 1 bytes

abbrev pub month_in : List ℕ → ℕ
month_in bytes = field 1 1 bytes

abbrev pub residential_in : List ℕ → Price
residential_in bytes = price (field 2 4 bytes)

abbrev pub contents_of : List ℕ → Contents
contents_of bytes = contents_from (section_count bytes) 6 (drop 6 bytes)

abbrev pub all_calls : List Stretches → List Call
all_calls [] = []
all_calls (s ∷ ss) = calls_of s ++ all_calls ss

-- WRITING

-- The kind of section in which a call stands; amend, compensate, issue, close and turn stand in none.
abbrev pub kind_for : Call → Option Kind
kind_for (Enrol p k q) = Some Enrols
kind_for (Enter n p k e q) = Some Enters
kind_for (Amend n e) = None
kind_for (Transfer n o p e q) = Some Transfers
kind_for (Meter p m c) = Some Meters
kind_for (Compensate p a) = None
kind_for (Issue p) = None
kind_for (Close p) = None
kind_for (Turn q) = None

-- The head and the term of a call.
abbrev pub head_of : Call → List ℕ
head_of (Enrol p k q) = bytes_of 1 p
head_of (Enter n p k e q) = bytes_of 4 n
head_of (Amend n e) = []
head_of (Transfer n o p e q) = bytes_of 4 n ++ bytes_of 4 o
head_of (Meter p m c) = bytes_of 1 p
head_of (Compensate p a) = []
head_of (Issue p) = []
head_of (Close p) = []
head_of (Turn q) = []

abbrev pub term_of : Call → List ℕ
term_of (Enrol p k q) = bytes_of 1 k ++ bytes_of 4 q.micro
term_of (Enter n p k e q) = bytes_of 1 p ++ bytes_of 1 k ++ bytes_of 8 e.kwh ++ bytes_of 4 q.micro
term_of (Amend n e) = []
term_of (Transfer n o p e q) = bytes_of 1 p ++ bytes_of 8 e.kwh ++ bytes_of 4 q.micro
term_of (Meter p m c) = bytes_of 8 m.kwh ++ bytes_of 8 c.kwh
term_of (Compensate p a) = []
term_of (Issue p) = []
term_of (Close p) = []
term_of (Turn q) = []

abbrev pub all_heads : List Call → List ℕ
all_heads [] = []
all_heads (c ∷ cs) = head_of c ++ all_heads cs

abbrev pub all_terms : List Call → List ℕ
all_terms [] = []
all_terms (c ∷ cs) = term_of c ++ all_terms cs

-- A section in the subject's words: a kind, and calls.
pub record Listed : Type 0 where
  pub kind : Kind
  pub calls : List Call

abbrev pub written_section : Listed → List ℕ
written_section s = (kind_number s.kind ∷ bytes_of 2 (length s.calls)) ++ all_heads s.calls ++ all_terms s.calls

abbrev pub written_sections : List Listed → List ℕ
written_sections [] = []
written_sections (s ∷ ss) = written_section s ++ written_sections ss

-- A sheet in the subject's words: a month, its residential price, and sections.
pub record MonthSheet : Type 0 where
  pub month : ℕ
  pub residential : Price
  pub sections : List Listed

abbrev pub written : MonthSheet → List ℕ
written s = bytes_of 1 (length s.sections) ++ bytes_of 1 s.month ++ bytes_of 4 s.residential.micro ++ written_sections s.sections

abbrev pub calls_listed : List Listed → List Call
calls_listed [] = []
calls_listed (s ∷ ss) = s.calls ++ calls_listed ss

-- The figures of a call fit the bytes of their fields.
abbrev pub FiguresFit : Call → Type 0
FiguresFit (Enrol p k q) = (p < 256) × (k < 256) × (q.micro < 2 ^ 32)
FiguresFit (Enter n p k e q) = (n < 2 ^ 32) × (p < 256) × (k < 256) × (e.kwh < 2 ^ 64) × (q.micro < 2 ^ 32)
FiguresFit (Amend n e) = Unit {0}
FiguresFit (Transfer n o p e q) = (n < 2 ^ 32) × (o < 2 ^ 32) × (p < 256) × (e.kwh < 2 ^ 64) × (q.micro < 2 ^ 32)
FiguresFit (Meter p m c) = (p < 256) × (m.kwh < 2 ^ 64) × (c.kwh < 2 ^ 64)
FiguresFit (Compensate p a) = Unit {0}
FiguresFit (Issue p) = Unit {0}
FiguresFit (Close p) = Unit {0}
FiguresFit (Turn q) = Unit {0}

-- A section that can be written: its calls are of its kind, fit their fields, and are at most 256.
pub record Writable (s : Listed) : Type 0 where
  pub kinds : AllByRecursion (λ c. kind_for c ≡ Some s.kind) s.calls
  pub fit : AllByRecursion FiguresFit s.calls
  pub few : length s.calls ≤ 256

pub record WritableSheet (s : MonthSheet) : Type 0 where
  pub month : s.month < 256
  pub residential : s.residential.micro < 2 ^ 32
  pub few : length s.sections < 256
  pub each : AllByRecursion Writable s.sections

-- An accepted sheet is byte for byte a header and sections written out, and the calls made are those of its sections, in order.
pub record Exact (bytes : List ℕ) (made : List Call) : Type 0 where
  pub sheet : MonthSheet
  pub writable : WritableSheet sheet
  pub as_written : bytes ≡ written sheet
  pub month : sheet.month ≡ month_in bytes
  pub residential : sheet.residential ≡ residential_in bytes
  pub calls : made ≡ calls_listed sheet.sections

-- Two different sheets never have the same bytes.
abbrev pub Unambiguous : Type 0
Unambiguous = (s t : MonthSheet) → WritableSheet s → WritableSheet t → written s ≡ written t → s ≡ t
