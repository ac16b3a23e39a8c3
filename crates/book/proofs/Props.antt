-- What a book keeps has one proof at most, so it comes out of the truncation in which the book holds it. Assumes nothing.
use Rattle.std.proofs.Common.{◌≡◌, ℕ, true, List, [], ◌∷◌, ℤ, ◌≤ℤ◌, ◌<ℤ◌, sym, refl, subst}
use mathlib.Core.Logic.{∥∥₁_elim}
use mathlib.Core.HLevel.{Π_prop, ×_prop, Unit-prop}
use mathlib.Core.Bool.{Bool-set}
use native.Mathlib.Bridge.{le_prop}
use native.Mathlib.Nat.{ℕ_set}
use lib.Dec.{T_prop}
use lib.IntN.{ℤ_set}
use lib.Signed.{le_z, lt_z}
use Rattle.std.specs.List.{AllByRecursion}
use Rattle.units.specs.declared.price.Price.{Price}
use Rattle.book.specs.declared.account.Account.{Account}
use Rattle.book.specs.declared.row.Row.{Row}
use Rattle.book.specs.Accounts.{account_of, may_be_held}
use Rattle.book.specs.Ledgers.{Ledger, bare_ledger}
use Rattle.book.specs.Rows.{row_ok}
use Rattle.book.specs.Sound.{Sound, Fair}

le_z_prop : (x y : ℤ) → IsProp (x ≤ℤ y)
le_z_prop x y p q = λ i. record { le = T_prop (le_z x y) p.le q.le i }

lt_z_prop : (x y : ℤ) → IsProp (x <ℤ y)
lt_z_prop x y p q = λ i. record { lt = T_prop (lt_z x y) p.lt q.lt i }

all_prop : {X : Type 0} (P : X → Type 0) → ((x : X) → IsProp (P x)) → (xs : List X) → IsProp (AllByRecursion P xs)
all_prop P h [] = Unit-prop
all_prop P h (x ∷ xs) = ×_prop (h x) (all_prop P h xs)

fair_prop : (a : Account) → IsProp (Fair a)
fair_prop a f g = λ i. record {
  approved = le_prop f.approved g.approved i;
  metered = le_prop f.metered g.metered i;
  commissioning = le_prop f.commissioning g.commissioning i;
  side = le_prop f.side g.side i;
  issued = le_prop f.issued g.issued i;
  carry = le_prop f.carry g.carry i;
  pending = Π_prop (λ _. Π_prop (λ _. ×_prop (le_z_prop _ _) (lt_z_prop _ _))) f.pending g.pending i;
  closed = Π_prop (λ _. Bool-set _ _) f.closed g.closed i;
  ready = Π_prop (λ _. Bool-set _ _) f.ready g.ready i;
  known = Π_prop (λ _. Bool-set _ _) f.known g.known i;
}

sound_prop : (f : Ledger) → IsProp (Sound f)
sound_prop f s t = λ i. record {
  first = le_prop s.first t.first i;
  last = le_prop s.last t.last i;
  residential = le_prop s.residential t.residential i;
  rises = Bool-set _ _ s.rises t.rises i;
  few = le_prop s.few t.few i;
  each = all_prop (λ c. row_ok c ≡ true) (λ c. Bool-set _ _) f.rows s.each t.each i;
  owned = all_prop (λ (c : Row). may_be_held (account_of c.plant f.accounts).enrolment c.contract.rank ≡ true) (λ c. Bool-set _ _) f.rows s.owned t.owned i;
  sums = Π_prop (λ _. le_prop) s.sums t.sums i;
  full = ℕ_set _ _ s.full t.full i;
  fair = all_prop Fair fair_prop f.accounts s.fair t.fair i;
  balanced = ℤ_set _ _ s.balanced t.balanced i;
}

-- the rule plays no part in it
reshared : (f g : Ledger) → g.month ≡ f.month → g.residential ≡ f.residential → g.rows ≡ f.rows → g.accounts ≡ f.accounts → Sound f → Sound g
reshared f g m q cs xs s =
    let moved : Sound (record { month = f.month; residential = f.residential; shares = g.shares; rows = f.rows; accounts = f.accounts }) =
    record { first = s.first; last = s.last; residential = s.residential; rises = s.rises; few = s.few; each = s.each; owned = s.owned; sums = s.sums; full = s.full; fair = s.fair; balanced = s.balanced } in
    subst (λ y. Sound (record { month = y; residential = g.residential; shares = g.shares; rows = g.rows; accounts = g.accounts })) (sym m)
    (subst (λ y. Sound (record { month = f.month; residential = y; shares = g.shares; rows = g.rows; accounts = g.accounts })) (sym q)
    (subst (λ y. Sound (record { month = f.month; residential = f.residential; shares = g.shares; rows = y; accounts = g.accounts })) (sym cs)
    (subst (λ y. Sound (record { month = f.month; residential = f.residential; shares = g.shares; rows = f.rows; accounts = y })) (sym xs) moved)))

-- what a book holds, with its rule
pub sound_of : (f : Ledger) → ∥ Sound (bare_ledger f.month f.residential f.rows f.accounts) ∥₁ → Sound f
sound_of f t =
    let bare = bare_ledger f.month f.residential f.rows f.accounts in
    reshared bare f refl refl refl refl (∥∥₁_elim t (sound_prop bare) (λ s. s))

-- what a call leaves is what the definitions say
pub kept : (f : Ledger) (m : ℕ) (q : Price) (cs : List Row) (xs : List Account) → Sound f → m ≡ f.month → q ≡ f.residential → cs ≡ f.rows → xs ≡ f.accounts → ∥ Sound (bare_ledger m q cs xs) ∥₁
kept f m q cs xs s em eq ecs exs = ∣ reshared f (bare_ledger m q cs xs) em eq ecs exs s ∣₁
