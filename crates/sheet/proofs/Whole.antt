-- A whole sheet that was loaded. Assumes nothing.
use Rattle.std.proofs.Common.{◌≡◌, ℕ, suc, ◌<◌, Bool, true, false, cond, not, ltb, List, [], ◌∷◌, length, get_or, drop, Some, None, Ok, Err, Option, Result, sym, refl, ap, ◌∙◌, subst, arith, w8, Fits}
use Rattle.std.proofs.lemmas.Bool.{ltb-false}
use Rattle.std.specs.List.{AllByRecursion}
use Rattle.units.specs.declared.price.Price.{Price}
use Rattle.sharing.specs.Declining.{answered, placed}
use Rattle.sharing.proofs.Granted.{was_none}
use Rattle.market.specs.Laws.{Lawful}
use Rattle.book.specs.declared.refusal.Refusal.TheVariants.{PastLimit}
use Rattle.book.specs.Calls.{after_open, open_declined, open_within}
use Rattle.book.specs.Ledgers.{Ledger, opened}
use Rattle.book.specs.Tallies.{Run}
use Rattle.journal.proofs.Runs.{ran}
use Rattle.sheet.specs.declared.fault.Cause.{Cause}
use Rattle.sheet.specs.declared.fault.Cause.TheVariants.{Sheet, Book}
use Rattle.sheet.specs.declared.fault.Fault.{Fault}
use Rattle.sheet.specs.declared.fault.Problem.TheVariants.{TooLong, CutShort}
use Rattle.sheet.specs.Faults.{or_else}
use Rattle.sheet.specs.Formats.{contents_from, contents_of, month_in, residential_in, section_count}
use Rattle.sheet.specs.Loads.{Loaded, answers_of, book_fault, calls_in_sheet, header_fault, header_problem, left_by, load_fault, loaded_into, made_of, opened_by}
use Rattle.sheet.proofs.Making.{Says}
use Rattle.sheet.proofs.Sequence.{all_made, fault_of, left_of, run_of}
use Rattle.sheet.proofs.Writing.{exact_contents}

-- What is read of a slice of bytes fits a byte.
pub all_bytes : (bytes : List ℕ) → ((i : ℕ) → Fits w8 (get_or bytes i 0)) → AllByRecursion (λ b. b < 256) bytes
all_bytes [] fit = tt
all_bytes (b ∷ bs) fit = ((fit 0).fits, all_bytes bs (λ i. fit (suc i)))

header_some : (why : Option Cause) (e : Fault) → header_fault why ≡ Some e → (w : Cause) × (why ≡ Some w)
header_some None e h = let z : ◌≡◌ {A = ℕ} 0 1 = cc in absurd (omega arith)
header_some (Some w) e h = (w, refl)

header_none : (why : Option Cause) → header_fault why ≡ None → why ≡ None
header_none None h = refl
header_none (Some w) h = let z : ◌≡◌ {A = ℕ} 0 1 = cc in absurd (omega arith)

-- A fault of the header.
pub header_stops : (shares : List ℕ → ℕ → List ℕ) (bytes : List ℕ) (f g : Ledger) (e : Fault) (r : Result (Unit {0}) Fault) → header_fault (header_problem bytes) ≡ Some e → r ≡ Err e → g ≡ f → Loaded shares bytes f g r
unfolding load_fault loaded_into
header_stops shares bytes f g e r fault is same =
    let some = header_some (header_problem bytes) e fault in
    let rest = fault_of (opened_by shares bytes) (contents_of bytes) in
    record {
      answer = is ∙ ap (λ w. answered (or_else w rest) tt) (sym fault);
      left = same ∙ ap (λ w. placed w (left_by (opened_by shares bytes) (calls_in_sheet bytes)) f) (sym some.1);
      law = λ h. let z : ◌≡◌ {A = Option Cause} None (Some some.0) = sym h ∙ some.1 in let y : ◌≡◌ {A = ℕ} 0 1 = cc in absurd (omega arith);
      exact = λ h. let z : ◌≡◌ {A = Result (Unit {0}) Fault} (Ok tt) (Err e) = sym h ∙ is in let y : ◌≡◌ {A = ℕ} 0 1 = cc in absurd (omega arith);
    }

by_opening : (long short within : Bool) → long ≡ false → short ≡ false → header_fault (cond long (Some (Sheet TooLong)) (cond short (Some (Sheet CutShort)) (cond (not within) (Some (Book PastLimit)) None))) ≡ book_fault 0 0 (cond (not within) (Some PastLimit) None)
by_opening long short true e f = rw (e, f) refl
by_opening long short false e f = rw (e, f) refl

-- A header that is there has the fault that the book has with it.
pub header_is : (bytes : List ℕ) (m : ℕ) (q : Price) → ltb 65536 (length bytes) ≡ false → ltb (length bytes) 6 ≡ false → m ≡ month_in bytes → q ≡ residential_in bytes → header_fault (header_problem bytes) ≡ book_fault 0 0 (open_declined m q)
header_is bytes m q long short em eq =
    by_opening (ltb 65536 (length bytes)) (ltb (length bytes) 6) (open_within (month_in bytes) (residential_in bytes)) long short
    ∙ sym (ap (λ x. book_fault 0 0 (open_declined x q)) em ∙ ap (λ x. book_fault 0 0 (open_declined (month_in bytes) x)) eq)

-- A header that opens the book, and then the sections.
pub loaded : (shares : List ℕ → ℕ → List ℕ) → Lawful shares → (bytes : List ℕ) (n m : ℕ) (q : Price) (f b g : Ledger) (r : Result (Unit {0}) Fault) → AllByRecursion (λ x. x < 256) bytes → ltb 65536 (length bytes) ≡ false → ltb (length bytes) 6 ≡ false → n ≡ section_count bytes → m ≡ month_in bytes → q ≡ residential_in bytes → open_declined m q ≡ None → b ≡ after_open f m q shares → Says r (fault_of b (contents_from n 6 (drop 6 bytes))) → g ≡ left_of b (contents_from n 6 (drop 6 bytes)) → Loaded shares bytes f g r
unfolding load_fault loaded_into
loaded shares lawful bytes n m q f b g r fit long short en em eq opens eb er eg =
    let start = opened_by shares bytes in
    let contents = contents_of bytes in
    let begun : b ≡ start = eb ∙ ap (λ w. placed w (opened m q shares) f) opens ∙ ap (λ x. opened x q shares) em ∙ ap (λ x. opened (month_in bytes) x shares) eq in
    let opens' : open_declined (month_in bytes) (residential_in bytes) ≡ None = sym (ap (λ x. open_declined x q) em ∙ ap (λ x. open_declined (month_in bytes) x) eq) ∙ opens in
    let sound : header_problem bytes ≡ None = header_none (header_problem bytes) (header_is bytes m q long short em eq ∙ ap (book_fault 0 0) opens) in
    let said : Says r (fault_of start contents) = er ∙ ap (λ x. answered (fault_of b (contents_from x 6 (drop 6 bytes))) tt) en ∙ ap (λ x. answered (fault_of x contents) tt) begun in
    let left : g ≡ left_of start contents = eg ∙ ap (λ x. left_of b (contents_from x 6 (drop 6 bytes))) en ∙ ap (λ x. left_of x contents) begun in
    let calls = calls_in_sheet bytes in
    let run : Run start (made_of start calls) (answers_of start calls) g = subst (λ l. Run start (made_of start calls) (answers_of start calls) l) (sym left) (run_of start calls) in
    record {
      answer = said ∙ ap (λ w. answered (or_else (header_fault w) (fault_of start contents)) tt) (sym sound);
      left = left ∙ ap (λ w. placed w (left_by start calls) f) (sym sound);
      law = λ _. ran shares lawful (month_in bytes) (residential_in bytes) f start g (made_of start calls) (answers_of start calls) opens' (ap (λ w. placed w start f) (sym opens')) run;
      exact = λ ok.
          let none : fault_of start contents ≡ None = was_none (fault_of start contents) tt tt (sym ok ∙ said) in
          let whole = all_made start contents.sections contents.stop none in
          exact_contents bytes fit (ltb-false _ _ short) whole.0 (made_of start calls) whole.1;
    }
