-- One section: it is written back to the bytes that it was read from, and read back from the bytes that it is written as. Assumes nothing.
use Rattle.std.proofs.Common.{◌≡◌, ℕ, ◌+◌, ◌-◌, ◌*◌, ◌/◌, ◌<◌, ◌≤◌, Bool, false, cond, not, List, [], ◌∷◌, ◌++◌, length, get_or, take, drop, is_some, Some, None, Ok, Option, sym, refl, ap, ◌∙◌, subst, mul-div_cancel, arith}
use Rattle.std.specs.List.{AllByRecursion}
use Rattle.std.proofs.lemmas.List.{append_assoc, length-append, length-drop, length-take-le, take_at, drop_at, take-append-drop, drop-drop}
use Rattle.std.proofs.ByRecursion.{All-take, All-drop}
use Rattle.std.proofs.lemmas.Bool.{ltb-false, le-ltb}
use Rattle.std.proofs.lemmas.Bool.Decides.{nat_tests}
use Rattle.sharing.specs.Declining.{first_of}
use Rattle.book.specs.declared.call.Call.{Call}
use Rattle.book.proofs.Tables.{passed}
use Rattle.sheet.specs.declared.fault.Problem.{Problem}
use Rattle.sheet.specs.declared.kind.Kind.{Kind}
use Rattle.sheet.specs.declared.kind.Kind.TheVariants.{Enrols, Enters, Transfers, Meters}
use Rattle.sheet.specs.Formats.{
  bytes_of,
  kind_number,
  kind_of,
  head_size,
  term_size,
  calls_in,
  Stretches,
  item_count,
  calls_of,
  section_size,
  count_in,
  size_by,
  size_in,
  section_conditions,
  cut_out,
  cut_by,
  section_at,
  all_heads,
  all_terms,
  Listed,
  written_section,
  Writable,
}
use Rattle.sheet.proofs.Bytes.{number_bytes_of, bytes_of_field}
use Rattle.sheet.proofs.Items.{cut, all_back}

-- A section that was read, in the subject's words.
abbrev pub listed : Stretches → Listed
listed s = record { kind = s.kind; calls = calls_of s }

number_of_kind : (b : ℕ) (k : Kind) → kind_of b ≡ Some k → b ≡ kind_number k
number_of_kind b Enrols e = grind (arith, nat_tests)
number_of_kind b Enters e = grind (arith, nat_tests)
number_of_kind b Transfers e = grind (arith, nat_tests)
number_of_kind b Meters e = grind (arith, nat_tests)

kind_of_number : (k : Kind) → kind_of (kind_number k) ≡ Some k
kind_of_number Enrols = refl
kind_of_number Enters = refl
kind_of_number Transfers = refl
kind_of_number Meters = refl

some_head : (k : Kind) → 0 < head_size k
some_head Enrols = omega arith
some_head Enters = omega arith
some_head Transfers = omega arith
some_head Meters = omega arith

counted : (s : Stretches) (n : ℕ) → length s.heads ≡ n * head_size s.kind → calls_of s ≡ calls_in s.kind n s.heads s.terms
counted s n e =
    let is : item_count s ≡ n = ap (λ l. l / head_size s.kind) e ∙ mul-div_cancel n (some_head s.kind) in
    ap (λ m. calls_in s.kind m s.heads s.terms) is

-- READING

was_cut : (offset : ℕ) (rest : List ℕ) (s : Stretches) (o : Option Problem) (k : Option Kind) → cut_by offset rest o k ≡ Ok s → (o ≡ None) × (k ≡ Some s.kind) × (cut_out offset rest s.kind ≡ s)
was_cut offset rest s (Some why) k e = let z : ◌≡◌ {A = ℕ} 0 1 = cc in absurd (omega arith)
was_cut offset rest s None None e = let z : ◌≡◌ {A = ℕ} 0 1 = cc in absurd (omega arith)
was_cut offset rest s None (Some k) e =
    let same : cut_out offset rest k ≡ s = cc in
    let kind : k ≡ s.kind = ap (λ (x : Stretches). x.kind) same in (refl, ap Some kind, ap (cut_out offset rest) (sym kind) ∙ same)

front : (rest : List ℕ) → 3 ≤ length rest → rest ≡ (get_or rest 0 0 ∷ take 2 (drop 1 rest)) ++ drop 3 rest
front [] h = absurd (omega arith)
front (a ∷ []) h = absurd (omega arith)
front (a ∷ b ∷ []) h = absurd (omega arith)
front (a ∷ b ∷ c ∷ rest) h = refl

regroup : (a b c d : List ℕ) → ((a ++ b) ++ c) ++ d ≡ a ++ (b ++ (c ++ d))
regroup a b c d = simp append_assoc

-- A section is its bytes, and can be written.
pub record Stands (rest : List ℕ) (l : Listed) : Type 0 where
  pub as_written : rest ≡ written_section l ++ drop (size_in rest) rest
  pub writable : Writable l

stands_cut : (offset : ℕ) (rest : List ℕ) (k : Kind) → AllByRecursion (λ b. b < 256) rest → 3 ≤ length rest → kind_of (get_or rest 0 0) ≡ Some k → count_in rest ≤ 256 → size_in rest ≤ length rest → Stands rest (listed (cut_out offset rest k))
stands_cut offset rest k small long kind few all =
    let n = count_in rest in
    let body = drop 3 rest in
    let s = cut_out offset rest k in
    let size : size_in rest ≡ section_size k n = ap (λ o. size_by o n) kind in
    let left : length body ≡ length rest - 3 = length-drop 3 rest in
    let after : length (drop (n * head_size k) body) ≡ length body - n * head_size k = length-drop (n * head_size k) body in
    let heads_long : length s.heads ≡ n * head_size k = length-take-le (n * head_size k) body (omega arith) in
    let terms_long : length s.terms ≡ n * term_size k = length-take-le (n * term_size k) (drop (n * head_size k) body) (omega arith) in
    let small-body = All-drop (λ b. b < 256) 3 rest small in
    let read =
    cut k n s.heads s.terms (All-take (λ b. b < 256) (n * head_size k) body small-body)
    (All-take (λ b. b < 256) (n * term_size k) (drop (n * head_size k) body) (All-drop (λ b. b < 256) (n * head_size k) body small-body)) heads_long terms_long in
    let calls = calls_in k n s.heads s.terms in
    let are : calls_of s ≡ calls = counted s n heads_long in
    let tail : drop (n * term_size k) (drop (n * head_size k) body) ≡ drop (size_in rest) rest =
    drop-drop (n * term_size k) (n * head_size k) body
    ∙ drop-drop (n * head_size k + n * term_size k) 3 rest
    ∙ ap (λ m. drop m rest) (omega arith) in
    let start : get_or rest 0 0 ∷ take 2 (drop 1 rest) ≡ kind_number k ∷ bytes_of 2 (length calls) =
    cc (number_of_kind (get_or rest 0 0) k kind, bytes_of_field 1 2 rest small long, ap (bytes_of 2) read.count) in
    let parted : body ≡ all_heads calls ++ (all_terms calls ++ drop (size_in rest) rest) =
    cc (take-append-drop (n * head_size k) body, take-append-drop (n * term_size k) (drop (n * head_size k) body), read.heads_are, read.terms_are, tail) in
    let written : rest ≡ written_section (record { kind = k; calls = calls }) ++ drop (size_in rest) rest =
    front rest long
    ∙ ap (λ l. l ++ body) start
    ∙ ap (λ l. (kind_number k ∷ bytes_of 2 (length calls)) ++ l) parted
    ∙ sym (regroup (kind_number k ∷ bytes_of 2 (length calls)) (all_heads calls) (all_terms calls) (drop (size_in rest) rest)) in
    let P : List Call → Type 0 = λ cs. Stands rest (record { kind = k; calls = cs }) in
    subst P (sym are) record { as_written = written; writable = record { kinds = read.kinds; fit = read.fit; few = omega (arith, read.count) } }

pub stands : (offset : ℕ) (rest : List ℕ) (s : Stretches) → AllByRecursion (λ b. b < 256) rest → section_at offset rest ≡ Ok s → Stands rest (listed s)
unfolding section_at
stands offset rest s small e =
    let c = was_cut offset rest s (first_of (section_conditions rest)) (kind_of (get_or rest 0 0)) e in
    let t = passed (section_conditions rest) c.0 in
    let P : Stretches → Type 0 = λ x. Stands rest (listed x) in
    subst P c.2 (stands_cut offset rest s.kind small (ltb-false _ _ t.0) c.1 (ltb-false _ _ t.1.1.0) (ltb-false _ _ t.1.1.1.0))

-- WRITING

none_of : {E : Type 0} (t : List (Bool × E)) → AllByRecursion (λ (r : Bool × E). r.0 ≡ false) t → first_of t ≡ None
none_of [] h = refl
none_of (r ∷ rest) h = ap (λ b. cond b (Some r.1) (first_of rest)) h.0 ∙ none_of rest h.1

-- A section that is written, with more bytes after it, is read as it was.
pub record Again (offset : ℕ) (rest : List ℕ) (l : Listed) (more : List ℕ) : Type 0 where
  pub read : Stretches
  pub reads : section_at offset rest ≡ Ok read
  pub is : listed read ≡ l
  pub after : drop (size_in rest) rest ≡ more

pub again : (offset : ℕ) (l : Listed) (more : List ℕ) → Writable l → Again offset (written_section l ++ more) l more
unfolding section_at
again offset l more w =
    let k = l.kind in
    let m = length l.calls in
    let heads = all_heads l.calls in
    let terms = all_terms l.calls in
    let rest = written_section l ++ more in
    let s = cut_out offset rest k in
    let back = all_back k l.calls w.kinds w.fit in
    let few : m ≤ 256 = w.few in
    let count : count_in rest ≡ m = number_bytes_of 2 m (omega arith) in
    let kind : kind_of (get_or rest 0 0) ≡ Some k = kind_of_number k in
    let size : size_in rest ≡ 3 + m * head_size k + m * term_size k = ap (λ o. size_by o (count_in rest)) kind ∙ ap (section_size k) count in
    let own : length (written_section l) ≡ 3 + (m * head_size k + m * term_size k) = omega (arith, length-append heads terms, back.heads_long, back.terms_long) in
    let long : length rest ≡ 3 + (m * head_size k + m * term_size k) + length more = omega (arith, length-append (written_section l) more) in
    let none : first_of (section_conditions rest) ≡ None =
    none_of (section_conditions rest) (le-ltb (length rest) 3 (omega arith), (ap (λ o. not (is_some o)) kind, (le-ltb 256 (count_in rest) (omega arith), (le-ltb (length rest) (size_in rest) (omega arith), tt)))) in
    let body : drop 3 rest ≡ heads ++ (terms ++ more) = append_assoc heads terms more in
    let heads_are : s.heads ≡ heads = cc (ap (λ n. n * head_size k) count, body, take_at heads (terms ++ more) (m * head_size k) back.heads_long) in
    let terms_are : s.terms ≡ terms =
    cc (ap (λ n. n * head_size k) count, ap (λ n. n * term_size k) count, body, drop_at heads (terms ++ more) (m * head_size k) back.heads_long, take_at terms more (m * term_size k) back.terms_long) in
    let calls : calls_of s ≡ l.calls = counted s m (ap length heads_are ∙ back.heads_long) ∙ cc (heads_are, terms_are, back.are) in
    record {
      read = s;
      reads = ap (λ o. cut_by offset rest o (kind_of (get_or rest 0 0))) none ∙ ap (cut_by offset rest None) kind;
      is = ap (λ (cs : List Call). record { kind = k; calls = cs }) calls;
      after = drop_at (written_section l) more (size_in rest) (omega arith);
    }
