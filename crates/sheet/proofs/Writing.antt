-- Whole sheets: a sheet whose sections are all read is byte for byte those sections written out, and two different sheets never have the same bytes. Assumes nothing.
use Rattle.std.proofs.Common.{◌≡◌, ℕ, zero, suc, ◌+◌, ◌<◌, ◌≤◌, List, [], ◌∷◌, ◌++◌, map, length, take, drop, None, Ok, Err, Result, sym, refl, ap, ◌∙◌, subst, arith, take-add}
use Rattle.std.specs.List.{AllByRecursion}
use Rattle.std.proofs.lemmas.List.{take-append-drop}
use Rattle.std.proofs.ByRecursion.{All-drop}
use Rattle.book.specs.declared.call.Call.{Call}
use Rattle.sheet.specs.declared.fault.Fault.{Fault}
use Rattle.sheet.specs.Formats.{
  field,
  bytes_of,
  price,
  Stretches,
  size_in,
  section_at,
  Contents,
  left_over,
  with_section,
  contents_from,
  section_count,
  month_in,
  residential_in,
  contents_of,
  calls_of,
  all_calls,
  Listed,
  written_section,
  written_sections,
  MonthSheet,
  written,
  calls_listed,
  Writable,
  WritableSheet,
  Exact,
  Unambiguous,
}
use Rattle.sheet.proofs.Bytes.{number_bytes_of, bytes_of_field, field_lt}
use Rattle.sheet.proofs.WrittenSections.{listed, stands, again}

-- READING

nothing_left : (offset : ℕ) (rest : List ℕ) → left_over offset rest ≡ None → rest ≡ []
nothing_left offset [] e = refl
nothing_left offset (b ∷ bs) e = let z : ◌≡◌ {A = ℕ} 0 1 = cc in absurd (omega arith)

went_on : (r : Result Stretches Fault) (more : Contents) → (with_section r more).stop ≡ None → (s : Stretches) × (r ≡ Ok s) × (more.stop ≡ None)
went_on (Err fault) more e = let z : ◌≡◌ {A = ℕ} 0 1 = cc in absurd (omega arith)
went_on (Ok s) more e = (s, refl, e)

-- So many sections are their bytes, and can be written.
record AllStand (n : ℕ) (rest : List ℕ) (ls : List Listed) : Type 0 where
  pub count : length ls ≡ n
  pub as_written : rest ≡ written_sections ls
  pub writable : AllByRecursion Writable ls

all_stand : (n offset : ℕ) (rest : List ℕ) → AllByRecursion (λ b. b < 256) rest → (contents_from n offset rest).stop ≡ None → AllStand n rest (map listed (contents_from n offset rest).sections)
all_stand zero offset rest small e = record { count = refl; as_written = nothing_left offset rest e; writable = tt }
all_stand (suc n) offset rest small e =
    let more = contents_from n (offset + size_in rest) (drop (size_in rest) rest) in
    let on = went_on (section_at offset rest) more e in
    let first = stands offset rest on.0 small on.1 in
    let others = all_stand n (offset + size_in rest) (drop (size_in rest) rest) (All-drop (λ b. b < 256) (size_in rest) rest small) on.2 in
    let P : Result Stretches Fault → Type 0 = λ r. AllStand (suc n) rest (map listed (with_section r more).sections) in
    subst P (sym on.1)
    record {
      count = ap suc others.count;
      as_written = first.as_written ∙ ap (λ l. written_section (listed on.0) ++ l) others.as_written;
      writable = (first.writable, others.writable);
    }

same_calls : (ss : List Stretches) → all_calls ss ≡ calls_listed (map listed ss)
same_calls [] = refl
same_calls (s ∷ ss) = ap (λ cs. calls_of s ++ cs) (same_calls ss)

-- The sheet that bytes are read as.
abbrev sheet_in : List ℕ → MonthSheet
sheet_in bytes = record { month = month_in bytes; residential = residential_in bytes; sections = map listed (contents_of bytes).sections }

-- A sheet with nothing at fault is its bytes, and the calls are those of its sections.
pub exact_contents : (bytes : List ℕ) → AllByRecursion (λ b. b < 256) bytes → 6 ≤ length bytes → (contents_of bytes).stop ≡ None → (made : List Call) → made ≡ all_calls (contents_of bytes).sections → Exact bytes made
exact_contents bytes small long e made is =
    let ss = (contents_of bytes).sections in
    let ls = map listed ss in
    let all : AllStand (section_count bytes) (drop 6 bytes) ls = all_stand (section_count bytes) 6 (drop 6 bytes) (All-drop (λ b. b < 256) 6 bytes small) e in
    let count : bytes_of 1 (length ls) ≡ take 1 bytes = ap (bytes_of 1) all.count ∙ bytes_of_field 0 1 bytes small (omega arith) in
    let month : bytes_of 1 (month_in bytes) ≡ take 1 (drop 1 bytes) = bytes_of_field 1 1 bytes small (omega arith) in
    let residential : bytes_of 4 (field 2 4 bytes) ≡ take 4 (drop 2 bytes) = bytes_of_field 2 4 bytes small (omega arith) in
    let back : bytes ≡ bytes_of 1 (length ls) ++ bytes_of 1 (month_in bytes) ++ bytes_of 4 (field 2 4 bytes) ++ written_sections ls =
    cc (count, month, residential, all.as_written, take-add 1 1 bytes, take-add 2 4 bytes, take-append-drop 6 bytes) in
    record {
      sheet = sheet_in bytes;
      writable =
          record {
            month = field_lt 1 1 bytes small (omega arith);
            residential = field_lt 2 4 bytes small (omega arith);
            few = omega (arith, all.count, field_lt 0 1 bytes small (omega arith));
            each = all.writable;
          };
      as_written = back;
      month = refl;
      residential = refl;
      calls = is ∙ same_calls ss;
    }

-- WRITING

all_again : (offset : ℕ) (ls : List Listed) → AllByRecursion Writable ls → map listed (contents_from (length ls) offset (written_sections ls)).sections ≡ ls
all_again offset [] w = refl
all_again offset (l ∷ ls) w =
    let rest = written_section l ++ written_sections ls in
    let first = again offset l (written_sections ls) w.0 in
    let others = all_again (offset + size_in rest) ls w.1 in
    ap (λ r. map listed (with_section r (contents_from (length ls) (offset + size_in rest) (drop (size_in rest) rest))).sections) first.reads
    ∙ ap (λ more. listed first.read ∷ map listed (contents_from (length ls) (offset + size_in rest) more).sections) first.after
    ∙ cc (first.is, others)

-- A sheet is read back from its bytes.
sheet_again : (s : MonthSheet) → WritableSheet s → sheet_in (written s) ≡ s
sheet_again s w =
    let ls = s.sections in
    let count : section_count (written s) ≡ length ls = number_bytes_of 1 (length ls) w.few in
    let month : month_in (written s) ≡ s.month = number_bytes_of 1 s.month w.month in
    let residential : residential_in (written s) ≡ s.residential = ap price (number_bytes_of 4 s.residential.micro w.residential) in
    let sections : map listed (contents_of (written s)).sections ≡ ls =
    ap (λ n. map listed (contents_from n 6 (written_sections ls)).sections) count ∙ all_again 6 ls w.each in
    ap (λ (m : ℕ). record { month = m; residential = residential_in (written s); sections = map listed (contents_of (written s)).sections }) month
    ∙ ap (λ q. record { month = s.month; residential = q; sections = map listed (contents_of (written s)).sections }) residential
    ∙ ap (λ x. record { month = s.month; residential = s.residential; sections = x }) sections

pub unambiguous : Unambiguous
unambiguous s t ws wt e = sym (sheet_again s ws) ∙ ap sheet_in e ∙ sheet_again t wt
