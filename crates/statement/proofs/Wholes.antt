-- The statement of a sheet that was loaded. Assumes nothing.
use Rattle.std.proofs.Common.{◌≡◌, ℕ, List, Some, None, Ok, Err, Option, sym, refl, ap, ◌∙◌, subst, arith}
use Rattle.sharing.specs.Declining.{placed}
use Rattle.sharing.specs.Rules.{equal_ratio}
use Rattle.sharing.proofs.Granted.{was_none}
use Rattle.book.specs.Ledgers.{Ledger}
use Rattle.sheet.specs.declared.fault.Cause.{Cause}
use Rattle.sheet.specs.declared.fault.Fault.{Fault}
use Rattle.sheet.specs.Faults.{or_else}
use Rattle.sheet.specs.Loads.{Loaded, calls_in_sheet, header_fault, header_problem, left_by, load_fault, loaded_into, opened_by}
use Rattle.sheet.proofs.Making.{was_some}
use Rattle.statement.specs.Lines.{fault_text}
use Rattle.statement.specs.Statements.{Unissued, all_lines, new_book, statement_by, statement_of}
use Rattle.statement.proofs.Unissued.{unissued_loaded}

-- Nothing is wrong with the header of a sheet that is accepted.
no_problem : (why : Option Cause) (rest : Option Fault) → or_else (header_fault why) rest ≡ None → why ≡ None
no_problem None rest e = refl
no_problem (Some w) rest e = let z : ◌≡◌ {A = ℕ} 0 1 = cc in absurd (omega arith)

sound_header : (bytes : List ℕ) → load_fault equal_ratio bytes ≡ None → header_problem bytes ≡ None
unfolding load_fault
sound_header bytes e = no_problem (header_problem bytes) _ e

left_by_lem : (bytes : List ℕ) (f : Ledger) → load_fault equal_ratio bytes ≡ None → loaded_into f equal_ratio bytes ≡ left_by (opened_by equal_ratio bytes) (calls_in_sheet bytes)
unfolding loaded_into
left_by_lem bytes f e = ap (λ w. placed w (left_by (opened_by equal_ratio bytes) (calls_in_sheet bytes)) f) (sound_header bytes e)

accepted : (bytes : List ℕ) (f g : Ledger) → Loaded equal_ratio bytes f g (Ok tt) → load_fault equal_ratio bytes ≡ None
accepted bytes f g l = was_none (load_fault equal_ratio bytes) tt tt l.answer

pub unissued : (bytes : List ℕ) (f g : Ledger) → Loaded equal_ratio bytes f g (Ok tt) → Unissued 1 g
unissued bytes f g l = subst (Unissued 1) (sym (l.left ∙ left_by_lem bytes f (accepted bytes f g l))) (unissued_loaded equal_ratio bytes)

pub sound_load : (bytes : List ℕ) (f g : Ledger) → f ≡ new_book → Loaded equal_ratio bytes f g (Ok tt) → all_lines g ≡ statement_of bytes
unfolding statement_of
sound_load bytes f g new l =
    ap all_lines (l.left ∙ ap (λ x. loaded_into x equal_ratio bytes) new)
    ∙ ap (λ w. statement_by w (loaded_into new_book equal_ratio bytes)) (sym (accepted bytes f g l))

pub faulted : (bytes : List ℕ) (f g : Ledger) (e : Fault) → Loaded equal_ratio bytes f g (Err e) → fault_text e ≡ statement_of bytes
unfolding statement_of
faulted bytes f g e l = ap (λ w. statement_by w (loaded_into new_book equal_ratio bytes)) (sym (was_some (load_fault equal_ratio bytes) e tt l.answer))
