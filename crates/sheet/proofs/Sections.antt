-- A section cut out of a sheet. Assumes nothing.
use Rattle.std.proofs.Common.{◌≡◌, ℕ, ◌-◌, ◌*◌, ◌/◌, ◌≤◌, List, [], length, get_or, take, drop, Some, None, Ok, Err, Result, MatchResult, sym, refl, ap, ◌∙◌, arith}
use Rattle.std.proofs.lemmas.List.{drop_all, length-drop, take_all}
use Rattle.sharing.specs.Declining.{first_of}
use Rattle.sheet.specs.declared.fault.Fault.{Fault}
use Rattle.sheet.specs.declared.fault.Problem.{Problem}
use Rattle.sheet.specs.declared.fault.Problem.TheVariants.{CutShort}
use Rattle.sheet.specs.declared.kind.Kind.{Kind}
use Rattle.sheet.specs.declared.kind.Kind.TheVariants.{Enrols, Enters, Transfers, Meters}
use Rattle.sheet.specs.Faults.{sheet_fault}
use Rattle.sheet.specs.Formats.{StartsWith, Whole, count_in, cut_by, cut_out, head_size, kind_of, section_at, section_conditions, section_size, size_by, size_in, term_size}

-- The start of a section that is at fault, and the fault that it is handed on as.
abbrev pub Faults : Result (Kind × ℕ) Problem → ℕ → Fault → Type 0
Faults r offset e = MatchResult r (λ x. ◌≡◌ {A = Result (Kind × ℕ) Fault} (Err e) (Ok x)) (λ why. e ≡ sheet_fault offset why)

pub faulty : (offset : ℕ) (rest : List ℕ) (why : Problem) → first_of (section_conditions rest) ≡ Some why → section_at offset rest ≡ Err (sheet_fault offset why)
unfolding section_at
faulty offset rest why e = ap (λ w. cut_by offset rest w (kind_of (get_or rest 0 0))) e

-- A section whose start is at fault.
pub stopped : (r : Result (Kind × ℕ) Problem) (offset : ℕ) (rest : List ℕ) (e : Fault) → StartsWith rest r → Faults r offset e → section_at offset rest ≡ Err e
stopped (Ok start) offset rest e s h = let z : ◌≡◌ {A = ℕ} 0 1 = cc in absurd (omega arith)
stopped (Err why) offset rest e s h = faulty offset rest why s ∙ ap Err (sym h)

-- A slice from a place to its end.
pub from_on : (n : ℕ) (bytes : List ℕ) → take (length bytes - n) (drop n bytes) ≡ drop n bytes
from_on n bytes = take_all (length bytes - n) (drop n bytes) (omega (arith, length-drop n bytes))

pub past_end : (offset : ℕ) (bytes : List ℕ) → length bytes ≤ offset → section_at offset (drop offset bytes) ≡ Err (sheet_fault offset CutShort)
past_end offset bytes h = ap (section_at offset) (drop_all offset bytes h) ∙ faulty offset [] CutShort refl

pub cut : (offset : ℕ) (rest : List ℕ) (k : Kind) → first_of (section_conditions rest) ≡ None → kind_of (get_or rest 0 0) ≡ Some k → section_at offset rest ≡ Ok (cut_out offset rest k)
unfolding section_at
cut offset rest k e f = ap (λ w. cut_by offset rest w (kind_of (get_or rest 0 0))) e ∙ ap (cut_by offset rest None) f

-- The stretches, cut out step by step.
pub cut_out_lem : (offset : ℕ) (rest heads after terms : List ℕ) (k : Kind) (n hs ts : ℕ) → n ≡ count_in rest → hs ≡ head_size k → ts ≡ term_size k → heads ≡ take (n * hs) (drop 3 rest) → after ≡ drop (n * hs) (drop 3 rest) → terms ≡ take (n * ts) after → cut_out offset rest k ≡ record { kind = k; offset = offset; heads = heads; terms = terms }
cut_out_lem offset rest heads after terms k n hs ts en eh et e1 e2 e3 = rw (e1, e3, e2, eh, et, en) refl

pub size_is : (rest : List ℕ) (k : Kind) → kind_of (get_or rest 0 0) ≡ Some k → size_in rest ≡ section_size k (count_in rest)
size_is rest k e = ap (λ o. size_by o (count_in rest)) e

count_is : (k : Kind) (n m : ℕ) → m ≡ n * head_size k → m / head_size k ≡ n
count_is Enrols n m e = omega arith
count_is Enters n m e = omega arith
count_is Transfers n m e = omega arith
count_is Meters n m e = omega arith

pub whole : (offset : ℕ) (heads terms : List ℕ) (k : Kind) (n : ℕ) → length heads ≡ n * head_size k → length terms ≡ n * term_size k → Whole record { kind = k; offset = offset; heads = heads; terms = terms }
whole offset heads terms k n e f =
    let count = count_is k n (length heads) e in
    (e ∙ ap (λ m. m * head_size k) (sym count), f ∙ ap (λ m. m * term_size k) (sym count))
