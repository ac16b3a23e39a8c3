-- The calls of a section, made one after another. Assumes nothing.
use Rattle.std.proofs.Common.{◌≡◌, ℕ, suc, ◌+◌, ◌*◌, ◌/◌, true, List, ◌∷◌, ◌++◌, length, take, drop, IsErrAnd, is_ok, Some, None, Ok, Err, Option, Result, MatchResult, sym, refl, ap, ◌∙◌, suc-mul, arith}
use Rattle.std.proofs.lemmas.Bool.{true≢false}
use Rattle.std.proofs.lemmas.List.{drop_at, length-append, take_at}
use Rattle.sharing.specs.Declining.{answered, placed}
use Rattle.book.specs.declared.call.Call.{Call}
use Rattle.book.specs.declared.call.Call.TheVariants.{Enrol, Enter, Amend, Transfer, Meter, Compensate, Issue, Close, Turn}
use Rattle.book.specs.declared.refusal.Refusal.{Refusal}
use Rattle.book.specs.Calls.{Answer, Makes, accepted, answer_by, declined, declined_by, said}
use Rattle.book.specs.Ledgers.{Ledger}
use Rattle.sheet.specs.declared.fault.Fault.{Fault}
use Rattle.sheet.specs.Faults.{fault_at, or_else}
use Rattle.sheet.specs.declared.fault.Cause.TheVariants.{Book}
use Rattle.sheet.specs.declared.kind.Kind.{Kind}
use Rattle.sheet.specs.declared.kind.Kind.TheVariants.{Enrols, Enters, Transfers, Meters}
use Rattle.sheet.specs.Formats.{Stretches, Whole, call_of, calls_of, head_size, term_size}
use Rattle.sheet.specs.Loads.{book_fault, item_fault, left_by}

-- The answer that goes with a fault, or with none.
abbrev pub Says : Result (Unit {0}) Fault → Option Fault → Type 0
Says r why = r ≡ answered why tt

-- A fault that `?` hands on.
pub handed_on : (r : Result (Unit {0}) Fault) (e : Fault) → IsErrAnd r (λ y. y ≡ e) → r ≡ Err e
handed_on (Ok x) e h = absurd h
handed_on (Err y) e h = ap Err h

pub was_some : {X E : Type 0} (why : Option E) (e : E) (y : X) → Err e ≡ answered why y → why ≡ Some e
was_some None e y h = let z : ◌≡◌ {A = ℕ} 0 1 = cc in absurd (omega arith)
was_some (Some why) e y h = cc

-- An accepted call says nothing of a refusal.
none_said : (f : Ledger) (c : Call) → declined_by (said f c) ≡ None
none_said f (Enrol p k q) = refl
none_said f (Enter n p k e q) = refl
none_said f (Amend n e) = refl
none_said f (Transfer n o p e q) = refl
none_said f (Meter p m c) = refl
none_said f (Compensate p a) = refl
none_said f (Issue p) = refl
none_said f (Close p) = refl
none_said f (Turn q) = refl

declined_by_lem : (why : Option Refusal) (a : Answer) → declined_by a ≡ None → declined_by (answer_by why a) ≡ why
declined_by_lem None a e = e
declined_by_lem (Some why) a e = refl

refusal_said : (f g : Ledger) (c : Call) (a : Answer) → Makes f c g a → declined_by a ≡ declined f c
refusal_said f g c a m = ap declined_by m.said ∙ declined_by_lem (declined f c) (said f c) (none_said f c)

-- An answer of a call as the fault that it is handed on as.
abbrev pub Refuses : {X : Type 0} → Result X Refusal → ℕ → ℕ → Fault → Type 0
Refuses {X = X} a offset item e = MatchResult a (λ x. ◌≡◌ {A = Result X Fault} (Err e) (Ok x)) (λ why. e ≡ fault_at offset item (Book why))

pub accepted_none : {X : Type 0} (a : Result X Refusal) → is_ok a ≡ true → declined_by a ≡ None
accepted_none (Ok x) h = refl
accepted_none (Err why) h = absurd (true≢false (sym h))

pub refused_some : {X : Type 0} (a : Result X Refusal) (offset item : ℕ) (e : Fault) → Refuses a offset item e → (w : Refusal) × (declined_by a ≡ Some w) × (book_fault offset item (declined_by a) ≡ Some e)
refused_some (Ok x) offset item e h = let z : ◌≡◌ {A = ℕ} 0 1 = cc in absurd (omega arith)
refused_some (Err why) offset item e h = (why, refl, ap Some (sym h))

pub fault_of_lem : (offset item : ℕ) (why : Option Refusal) (e : Fault) → book_fault offset item why ≡ Some e → (w : Refusal) × (why ≡ Some w)
fault_of_lem offset item None e h = let z : ◌≡◌ {A = ℕ} 0 1 = cc in absurd (omega arith)
fault_of_lem offset item (Some w) e h = (w, refl)

-- One call more.
pub call_made : (f g : Ledger) (c : Call) (a : Answer) (offset item : ℕ) (cs : List Call) → Makes f c g a → is_ok a ≡ true → (item_fault f offset item (c ∷ cs) ≡ item_fault g offset (item + 1) cs) × (left_by f (c ∷ cs) ≡ left_by g cs)
call_made f g c a offset item cs m h =
    let none : declined f c ≡ None = sym (refusal_said f g c a m) ∙ accepted_none a h in
    let same : accepted f c ≡ g = sym (m.left ∙ ap (λ w. placed w (accepted f c) f) none) in (
      ap (λ w. or_else (book_fault offset item w) (item_fault (accepted f c) offset (item + 1) cs)) none ∙ ap (λ l. item_fault l offset (item + 1) cs) same,
      ap (λ w. placed w (left_by (accepted f c) cs) f) none ∙ ap (λ l. left_by l cs) same,
    )

-- A call that is declined, and what comes after it is not made.
pub call_refused : (f g : Ledger) (c : Call) (a : Answer) (offset item : ℕ) (cs : List Call) (e : Fault) → Makes f c g a → Refuses a offset item e → (item_fault f offset item (c ∷ cs) ≡ Some e) × (left_by f (c ∷ cs) ≡ g)
call_refused f g c a offset item cs e m h =
    let by : declined_by a ≡ declined f c = refusal_said f g c a m in
    let known = refused_some a offset item e h in
    let some : declined f c ≡ Some known.0 = sym by ∙ known.1 in (
      ap (λ w. or_else (book_fault offset item w) (item_fault (accepted f c) offset (item + 1) cs)) (sym by) ∙ ap (λ w. or_else w (item_fault (accepted f c) offset (item + 1) cs)) known.2,
      ap (λ w. placed w (left_by (accepted f c) cs) f) some ∙ sym (m.left ∙ ap (λ w. placed w (accepted f c) f) some),
    )

-- The items of a section that are still to be made.
abbrev pub part : Kind → ℕ → List ℕ → List ℕ → Stretches
part k offset heads terms = record { kind = k; offset = offset; heads = heads; terms = terms }

one_less : (k : Kind) (m n : ℕ) → n ≡ head_size k + m → n / head_size k ≡ suc (m / head_size k)
one_less Enrols m n e = omega arith
one_less Enters m n e = omega arith
one_less Transfers m n e = omega arith
one_less Meters m n e = omega arith

-- The call of the first item, and the items after it.
pub calls_next : (k : Kind) (offset : ℕ) (heads terms head term heads' terms' : List ℕ) (c : Call) → heads ≡ head ++ heads' → terms ≡ term ++ terms' → length head ≡ head_size k → length term ≡ term_size k → Whole (part k offset heads terms) → c ≡ call_of k head term → (calls_of (part k offset heads terms) ≡ c ∷ calls_of (part k offset heads' terms')) × Whole (part k offset heads' terms')
calls_next k offset heads terms head term heads' terms' c eh et lh lt w ec =
    let long : length heads ≡ head_size k + length heads' = ap length eh ∙ length-append head heads' ∙ ap (λ n. n + length heads') lh in
    let wide : length terms ≡ term_size k + length terms' = ap length et ∙ length-append term terms' ∙ ap (λ n. n + length terms') lt in
    let n = length heads' / head_size k in
    let count : length heads / head_size k ≡ suc n = one_less k (length heads') (length heads) long in
    let first : take (head_size k) heads ≡ head = ap (take (head_size k)) eh ∙ take_at head heads' (head_size k) lh in
    let rest : drop (head_size k) heads ≡ heads' = ap (drop (head_size k)) eh ∙ drop_at head heads' (head_size k) lh in
    let first' : take (term_size k) terms ≡ term = ap (take (term_size k)) et ∙ take_at term terms' (term_size k) lt in
    let rest' : drop (term_size k) terms ≡ terms' = ap (drop (term_size k)) et ∙ drop_at term terms' (term_size k) lt in (
      rw (ec, count, first, rest, first', rest') refl,
      (omega (arith, long, w.0, ap (λ m. m * head_size k) count, suc-mul n (head_size k)), omega (arith, wide, w.1, ap (λ m. m * term_size k) count, suc-mul n (term_size k))),
    )
