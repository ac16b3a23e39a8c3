-- The sections of a sheet, made one after another. Assumes nothing.
use Rattle.std.proofs.Common.{◌≡◌, ℕ, suc, ◌+◌, ◌-◌, ◌<◌, ◌≤◌, List, [], ◌∷◌, ◌++◌, length, drop, Some, None, Ok, Err, Option, sym, refl, ap, ◌∙◌, arith}
use Rattle.std.proofs.lemmas.List.{drop-drop, length-drop}
use Rattle.sharing.specs.Declining.{placed}
use Rattle.book.specs.declared.call.Call.{Call}
use Rattle.book.specs.declared.refusal.Refusal.{Refusal}
use Rattle.book.specs.Calls.{accepted, answer, declined}
use Rattle.book.specs.Ledgers.{Ledger}
use Rattle.book.specs.Tallies.{Run}
use Rattle.book.specs.Tallies.Run.{none, then}
use Rattle.sheet.specs.declared.fault.Fault.{Fault}
use Rattle.sheet.specs.declared.fault.Problem.TheVariants.{LeftOver}
use Rattle.sheet.specs.Faults.{or_else, sheet_fault}
use Rattle.sheet.specs.Formats.{Contents, Stretches, all_calls, calls_of, contents_from, left_over, section_at, size_in, with_section}
use Rattle.sheet.specs.Loads.{answers_of, book_fault, fault_in, item_fault, left_by, made_of}

-- The faults and the figures of what a sheet holds.
abbrev pub fault_of : Ledger → Contents → Option Fault
fault_of f c = fault_in f c.sections c.stop

abbrev pub left_of : Ledger → Contents → Ledger
left_of f c = left_by f (all_calls c.sections)

contents_more : (n i offset : ℕ) (rest : List ℕ) → i < n → contents_from (n - i) offset rest ≡ with_section (section_at offset rest) (contents_from (n - (i + 1)) (offset + size_in rest) (drop (size_in rest) rest))
contents_more n i offset rest h = let e : n - i ≡ suc (n - (i + 1)) = omega arith in ap (λ m. contents_from m offset rest) e

-- A section that is at fault ends it.
pub faulty_section : (f : Ledger) (n i offset : ℕ) (rest : List ℕ) (e : Fault) → i < n → section_at offset rest ≡ Err e → (fault_of f (contents_from (n - i) offset rest) ≡ Some e) × (left_of f (contents_from (n - i) offset rest) ≡ f)
faulty_section f n i offset rest e h bad =
    let is = contents_more n i offset rest h ∙ ap (λ s. with_section s (contents_from (n - (i + 1)) (offset + size_in rest) (drop (size_in rest) rest))) bad in
    (ap (fault_of f) is, ap (left_of f) is)

-- A section, and what comes after it.
pub sound_section : (n i offset end : ℕ) (bytes : List ℕ) (s : Stretches) → i < n → section_at offset (drop offset bytes) ≡ Ok s → end ≡ offset + size_in (drop offset bytes) → contents_from (n - i) offset (drop offset bytes) ≡ with_section (Ok s) (contents_from (n - (i + 1)) end (drop end bytes))
sound_section n i offset end bytes s h good e =
    let rest = drop offset bytes in
    contents_more n i offset rest h
    ∙ ap (λ r. with_section r (contents_from (n - (i + 1)) (offset + size_in rest) (drop (size_in rest) rest))) good
    ∙ ap (λ l. with_section (Ok s) (contents_from (n - (i + 1)) (offset + size_in rest) l)) (drop-drop (size_in rest) offset bytes)
    ∙ ap (λ m. with_section (Ok s) (contents_from (n - (i + 1)) m (drop m bytes))) (sym e)

-- Calls that are all accepted, and calls after them.
append_by : (why : Option Refusal) (offset item : ℕ) (rest : Option Fault) (x y f : Ledger) (ds : List Call) → (rest ≡ None → x ≡ left_by y ds) → or_else (book_fault offset item why) rest ≡ None → placed why x f ≡ left_by (placed why y f) ds
append_by None offset item rest x y f ds ih h = ih h
append_by (Some why) offset item rest x y f ds ih h = let z : ◌≡◌ {A = ℕ} 0 1 = cc in absurd (omega arith)

left_append : (f : Ledger) (cs ds : List Call) (offset item : ℕ) → item_fault f offset item cs ≡ None → left_by f (cs ++ ds) ≡ left_by (left_by f cs) ds
left_append f [] ds offset item h = refl
left_append f (c ∷ cs) ds offset item h =
    append_by (declined f c) offset item (item_fault (accepted f c) offset (item + 1) cs) (left_by (accepted f c) (cs ++ ds)) (left_by (accepted f c) cs) f ds (left_append (accepted f c) cs ds offset (item + 1)) h

-- A call that is declined, and calls after it that are not made.
stop_by : (why : Option Refusal) (offset item : ℕ) (rest : Option Fault) (e : Fault) (x y f : Ledger) → (rest ≡ Some e → x ≡ y) → or_else (book_fault offset item why) rest ≡ Some e → placed why x f ≡ placed why y f
stop_by None offset item rest e x y f ih h = ih h
stop_by (Some why) offset item rest e x y f ih h = refl

left_stopped : (f : Ledger) (cs ds : List Call) (offset item : ℕ) (e : Fault) → item_fault f offset item cs ≡ Some e → left_by f (cs ++ ds) ≡ left_by f cs
left_stopped f [] ds offset item e h = let z : ◌≡◌ {A = ℕ} 0 1 = cc in absurd (omega arith)
left_stopped f (c ∷ cs) ds offset item e h =
    stop_by (declined f c) offset item (item_fault (accepted f c) offset (item + 1) cs) e (left_by (accepted f c) (cs ++ ds)) (left_by (accepted f c) cs) f (left_stopped (accepted f c) cs ds offset (item + 1) e) h

-- One section more is made.
pub section_made : (f g : Ledger) (s : Stretches) (more : Contents) → item_fault f s.offset 0 (calls_of s) ≡ None → g ≡ left_by f (calls_of s) → (fault_of f (with_section (Ok s) more) ≡ fault_of g more) × (left_of f (with_section (Ok s) more) ≡ left_of g more)
section_made f g s more all e = (
  ap (λ w. or_else w (fault_in (left_by f (calls_of s)) more.sections more.stop)) all ∙ ap (λ l. fault_of l more) (sym e),
  left_append f (calls_of s) (all_calls more.sections) s.offset 0 all ∙ ap (λ l. left_of l more) (sym e),
)

-- A section in which a call is declined ends it.
pub section_stopped : (f g : Ledger) (s : Stretches) (more : Contents) (e : Fault) → item_fault f s.offset 0 (calls_of s) ≡ Some e → g ≡ left_by f (calls_of s) → (fault_of f (with_section (Ok s) more) ≡ Some e) × (left_of f (with_section (Ok s) more) ≡ g)
section_stopped f g s more e some same = (
  ap (λ w. or_else w (fault_in (left_by f (calls_of s)) more.sections more.stop)) some,
  left_stopped f (calls_of s) (all_calls more.sections) s.offset 0 e some ∙ sym same,
)

-- After the last section.
pub over : (f : Ledger) (n i offset : ℕ) (rest : List ℕ) → n ≤ i → (fault_of f (contents_from (n - i) offset rest) ≡ left_over offset rest) × (left_of f (contents_from (n - i) offset rest) ≡ f)
over f n i offset rest h = let e : n - i ≡ 0 = omega arith in (ap (λ m. fault_of f (contents_from m offset rest)) e, ap (λ m. left_of f (contents_from m offset rest)) e)

some_left : (offset : ℕ) (rest : List ℕ) → 0 < length rest → left_over offset rest ≡ Some (sheet_fault offset LeftOver)
some_left offset [] h = absurd (omega arith)
some_left offset (b ∷ bs) h = refl

pub left_over_lem : (offset : ℕ) (bytes : List ℕ) → offset < length bytes → left_over offset (drop offset bytes) ≡ Some (sheet_fault offset LeftOver)
left_over_lem offset bytes h = some_left offset (drop offset bytes) (omega (arith, length-drop offset bytes))

-- The calls that are made, with their answers, are a run.
run_by : (why : Option Refusal) (f : Ledger) (c : Call) (cs : List Call) → why ≡ declined f c → Run (accepted f c) (made_of (accepted f c) cs) (answers_of (accepted f c) cs) (left_by (accepted f c) cs) → Run f (c ∷ placed why (made_of (accepted f c) cs) []) (answer f c ∷ placed why (answers_of (accepted f c) cs) []) (placed why (left_by (accepted f c) cs) f)
run_by None f c cs e more = then record { left = ap (λ w. placed w (accepted f c) f) e; said = refl } more
run_by (Some why) f c cs e more = then record { left = ap (λ w. placed w (accepted f c) f) e; said = refl } none

pub run_of : (f : Ledger) (cs : List Call) → Run f (made_of f cs) (answers_of f cs) (left_by f cs)
run_of f [] = none
run_of f (c ∷ cs) = run_by (declined f c) f c cs refl (run_of (accepted f c) cs)

-- Where nothing is declined, every call is made.
made_by : (why : Option Refusal) (offset item : ℕ) (rest : Option Fault) (x cs ds : List Call) (y f : Ledger) → (rest ≡ None → x ≡ cs ++ made_of y ds) → or_else (book_fault offset item why) rest ≡ None → placed why x [] ≡ cs ++ made_of (placed why y f) ds
made_by None offset item rest x cs ds y f ih h = ih h
made_by (Some why) offset item rest x cs ds y f ih h = let z : ◌≡◌ {A = ℕ} 0 1 = cc in absurd (omega arith)

made_append : (f : Ledger) (cs ds : List Call) (offset item : ℕ) → item_fault f offset item cs ≡ None → made_of f (cs ++ ds) ≡ cs ++ made_of (left_by f cs) ds
made_append f [] ds offset item h = refl
made_append f (c ∷ cs) ds offset item h =
    ap (λ l. c ∷ l) (made_by (declined f c) offset item (item_fault (accepted f c) offset (item + 1) cs) (made_of (accepted f c) (cs ++ ds)) cs ds (left_by (accepted f c) cs) f (made_append (accepted f c) cs ds offset (item + 1)) h)

or_none : (first second : Option Fault) → or_else first second ≡ None → (first ≡ None) × (second ≡ None)
or_none None second h = (refl, h)
or_none (Some e) second h = let z : ◌≡◌ {A = ℕ} 0 1 = cc in absurd (omega arith)

pub all_made : (f : Ledger) (ss : List Stretches) (stop : Option Fault) → fault_in f ss stop ≡ None → (stop ≡ None) × (made_of f (all_calls ss) ≡ all_calls ss)
all_made f [] stop h = (h, refl)
all_made f (s ∷ ss) stop h =
    let parts = or_none (item_fault f s.offset 0 (calls_of s)) (fault_in (left_by f (calls_of s)) ss stop) h in
    let more = all_made (left_by f (calls_of s)) ss stop parts.1 in
    (more.0, made_append f (calls_of s) (all_calls ss) s.offset 0 parts.0 ∙ ap (λ l. calls_of s ++ l) more.1)
