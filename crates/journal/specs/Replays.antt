-- What it answers and leaves to replay a list of calls on a book, and to make the first calls of one plant's month. Assumes nothing.
use Rattle.std.specs.Prelude.{◌≡◌, ℕ, Bool, not, List, [], ◌∷◌, length, Option, Result, MatchResult, ◌==◌}
use Rattle.units.specs.declared.price.Price.{Price}
use Rattle.sharing.specs.Declining.{first_of, answered}
use Rattle.market.specs.Kinds.{class_number}
use Rattle.book.specs.declared.account.Enrolment.{Enrolment}
use Rattle.book.specs.declared.account.Reading.{Reading}
use Rattle.book.specs.declared.call.Call.{Call}
use Rattle.book.specs.declared.call.Call.TheVariants.{Enrol, Meter, Issue}
use Rattle.book.specs.declared.refusal.Refusal.{Refusal}
use Rattle.book.specs.declared.refusal.Refusal.TheVariants.{PastLimit, SliceLength}
use Rattle.book.specs.Calls.{Answer, open_within, open_declined, declined_by}
use Rattle.book.specs.Ledgers.{Ledger, opened}
use Rattle.book.specs.Tallies.{Run, Keeps, fed_all, tally_opened}

-- Why a replay of so many calls into so many answers is declined, if it is.
abbrev pub replay_conditions : ℕ → Price → ℕ → ℕ → List (Bool × Refusal)
replay_conditions m q calls answers = (not (open_within m q), PastLimit) ∷ (not (calls == answers), SliceLength) ∷ []

abbrev pub replay_declined : ℕ → Price → ℕ → ℕ → Option Refusal
replay_declined m q calls answers = first_of (replay_conditions m q calls answers)

-- A book was opened, the calls were made on it in order with these answers, and it has the figures g now: so the law holds of it.
pub record Ran (shares : List ℕ → ℕ → List ℕ) (m : ℕ) (q : Price) (calls : List Call) (answers : List Answer) (g : Ledger) : Type 0 where
  pub run : Run (opened m q shares) calls answers g
  pub keeps : Keeps (fed_all (tally_opened m q shares) calls answers) g

-- A replay and its answer r: the book had the figures f before it and has g after it, and the slice of answers held old before it and holds new after it.
pub record Replayed (shares : List ℕ → ℕ → List ℕ) (m : ℕ) (q : Price) (calls : List Call) (old new : List Answer) (f g : Ledger) (r : Result (Unit {0}) Refusal) : Type 0 where
  pub answer : r ≡ answered (replay_declined m q (length calls) (length old)) tt
  -- accepted, it is a run of the calls; declined, nothing changes
  pub left : MatchResult r (λ _. Ran shares m q calls new g) (λ _. (g ≡ f) × (new ≡ old))

-- The calls that enrol, meter and issue one plant.
abbrev pub first_calls : ℕ → Enrolment → Reading → List Call
first_calls p e r = Enrol p (class_number e.class) e.approved ∷ Meter p r.metered r.commissioning ∷ Issue p ∷ []

-- A month of these calls, made one by one: r holds their answers, and is declined where opening is.
pub record MonthMade (shares : List ℕ → ℕ → List ℕ) (m : ℕ) (q : Price) (calls : List Call) (f g : Ledger) (r : Result (List Answer) Refusal) : Type 0 where
  pub answer : declined_by r ≡ open_declined m q
  pub left : MatchResult r (λ answers. Ran shares m q calls answers g) (λ _. g ≡ f)
