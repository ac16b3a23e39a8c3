-- A plant that is metered and not issued can be settled and issued. Assumes nothing.
use Rattle.std.proofs.Common.{◌≡◌, ℕ, Bool, true, false, cond, not, ◌||◌, length, is_some, Some, None, Ok, Err, Option, Result, arith, sym, refl, eq-eqb}
use Rattle.std.proofs.lemmas.Bool.{true≢false}
use Rattle.std.specs.Result.{IsOk}
use Rattle.units.specs.declared.money.Fen.{Fen}
use Rattle.book.specs.declared.account.Reading.{Reading}
use Rattle.book.specs.declared.call.Call.TheVariants.{Issue}
use Rattle.book.specs.declared.refusal.Refusal.{Refusal}
use Rattle.book.specs.declared.refusal.Refusal.TheVariants.{PastLimit, NotEnrolled, AlreadyThere, NotReady, SliceLength}
use Rattle.book.specs.Accounts.{is_enrolled, is_issued, is_metered}
use Rattle.book.specs.Calls.{at, declined, reading_of, settle_declined, told_paid}
use Rattle.book.specs.Ledgers.{Ledger}
use Rattle.book.specs.Rows.{contracts_of, plant_ok}
use Rattle.book.specs.Sound.{Sound}
use Rattle.book.proofs.Figured.{fair_of}

some_reading : (ok : Bool) (o : Option Reading) → is_some (cond ok o None) ≡ true → (ok ≡ true) × (is_some o ≡ true)
some_reading true o h = (refl, h)
some_reading false o h = absurd (true≢false (sym h))

-- There is such a plant, it is enrolled, and it is metered.
pub metered : (f : Ledger) (p : ℕ) → Sound f → is_some (reading_of f p) ≡ true → (plant_ok p ≡ true) × (is_enrolled (at f p) ≡ true) × (is_metered (at f p) ≡ true)
metered f p s h =
    let known = some_reading (plant_ok p) (at f p).reading h in
    (known.0, (fair_of f p s known.0).known known.1, known.1)

none_settling : (ok enrolled read long wide : Bool) → ok ≡ true → enrolled ≡ true → read ≡ true → long ≡ true → wide ≡ true → cond (not ok) (Some PastLimit) (cond (not enrolled) (Some NotEnrolled) (cond (not read) (Some NotReady) (cond (not long || not wide) (Some SliceLength) None))) ≡ None
none_settling ok enrolled read long wide a b c d e = rw (a, b, c, d, e) refl

pub can_settle : (f : Ledger) (p n m : ℕ) → Sound f → is_some (reading_of f p) ≡ true → n ≡ length (contracts_of p f.rows) → m ≡ length (contracts_of p f.rows) → settle_declined f p n m ≡ None
can_settle f p n m s h en em =
    let known = metered f p s h in
    none_settling _ _ _ _ _ known.0 known.1 known.2 (eq-eqb _ _ en) (eq-eqb _ _ em)

none_issuing : (ok enrolled issued read : Bool) → ok ≡ true → enrolled ≡ true → issued ≡ false → read ≡ true → cond (not ok) (Some PastLimit) (cond (not enrolled) (Some NotEnrolled) (cond issued (Some AlreadyThere) (cond (not read) (Some NotReady) None))) ≡ None
none_issuing ok enrolled issued read a b c d = rw (a, b, c, d) refl

pub can_issue : (f : Ledger) (p : ℕ) → Sound f → is_some (reading_of f p) ≡ true → is_issued (at f p) ≡ false → declined f (Issue p) ≡ None
can_issue f p s h u =
    let known = metered f p s h in
    none_issuing _ _ _ _ known.0 known.1 u known.2

-- An issue that is answered with a payment has paid.
pub paid_ok : (r : Result Fen Refusal) (x : Option Fen) → told_paid r ≡ Ok x → IsOk r
paid_ok (Ok fen) x e = refl
paid_ok (Err why) x e = let z : ◌≡◌ {A = ℕ} 0 1 = cc in absurd (omega arith)
