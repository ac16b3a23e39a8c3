-- The figures of one plant of a sound book: they settle, within the bounds of a net, and rest on no carry. Assumes nothing.
use Rattle.std.proofs.Common.{◌≡◌, ℕ, zero, suc, ◌-◌, ◌≤◌, true, false, List, [], ◌∷◌, map, length, get_or, nat_abs, Some, None, Option, sym, refl, ap, ◌∙◌, arith}
use Rattle.std.specs.List.{AllByRecursion}
use Rattle.std.proofs.ByRecursion.{All-weaker}
use Rattle.std.proofs.lemmas.Bool.{false≢true, or_from, not_from_true}
use Rattle.units.specs.Payments.{most_net}
use Rattle.market.specs.declared.figures.Contract.{Contract}
use Rattle.market.specs.declared.kinds.Class.{Class}
use Rattle.market.specs.declared.kinds.Rank.{Rank}
use Rattle.market.specs.Admitting as admitting
use Rattle.market.specs.Admitting.{any_not_held}
use Rattle.market.specs.Figures.{Figures, settled_energies, settlement_of}
use Rattle.market.specs.Kinds.{may_hold}
use Rattle.market.specs.Laws.{Lawful, Settles}
use Rattle.market.proofs.Settled.{settles}
use Rattle.book.specs.declared.account.Account.{Account}
use Rattle.book.specs.declared.account.Enrolment.{Enrolment}
use Rattle.book.specs.declared.row.Row.{Row}
use Rattle.book.specs.Accounts.{blank, account_of, may_be_held}
use Rattle.book.specs.Calls.{at}
use Rattle.book.specs.Ledgers.{Ledger, class_in, plant_figures, plant_in, net_of_plant}
use Rattle.book.specs.Rows.{row_ok, contracts_of}
use Rattle.book.specs.Sound.{Fair, Sound}
use Rattle.book.specs.Tallies.{without_carry, without_carries}
use Rattle.book.proofs.AccountFacts.{fair_at, Owned}
use Rattle.book.proofs.RowFacts.{all_contracts, contracted_of, length_contracts}
use Rattle.book.proofs.Tables.{within}

held_class : (o : Option Enrolment) (r : Rank) → may_be_held o r ≡ true → may_hold (class_in o) r ≡ true
held_class None r h = absurd (false≢true h)
held_class (Some e) r h = h

all_held : (class : Class) (cs : List Contract) → AllByRecursion (λ (c : Contract). may_hold class c.rank ≡ true) cs → any_not_held class cs ≡ false
all_held class [] a = refl
all_held class (c ∷ cs) a = or_from _ _ (not_from_true _ a.0) (all_held class cs a.1)

-- A plant that is not enrolled holds no contract, so its class does not matter.
held_by : (p : ℕ) (xs : List Account) (rows : List Row) → Owned xs rows → AllByRecursion (λ (c : Row). c.plant ≡ p → may_hold (class_in (account_of p xs).enrolment) c.contract.rank ≡ true) rows
held_by p xs [] o = tt
held_by p xs (c ∷ cs) o =
    (λ q. held_class (account_of p xs).enrolment c.contract.rank (ap (λ n. may_be_held (account_of n xs).enrolment c.contract.rank) (sym q) ∙ o.0), held_by p xs cs o.1)

pub plant_sound : (f : Ledger) (p : ℕ) → p ≤ 24 → Sound f → admitting.Sound (plant_in f p).plant (plant_in f p).contracts
plant_sound f p high s =
    let a : Fair (at f p) = fair_at p f.accounts (omega (arith, s.full)) s.fair in
    record {
      metered = a.metered;
      commissioning = a.commissioning;
      residential = s.residential;
      approved = a.approved;
      side = a.side;
      prices = all_contracts (λ (c : Contract). c.price.micro ≤ 1000000) p f.rows (All-weaker (λ c. row_ok c ≡ true) (λ (c : Row). c.plant ≡ p → c.contract.price.micro ≤ 1000000) (λ c h _. (within c h).price) f.rows s.each);
      held = all_held (class_in (at f p).enrolment) (contracts_of p f.rows) (all_contracts (λ (c : Contract). may_hold (class_in (at f p).enrolment) c.rank ≡ true) p f.rows (held_by p f.accounts f.rows s.owned));
      few = omega (arith, length_contracts p f.rows, s.few);
      whole = omega (arith, contracted_of p f.rows, s.sums p);
    }

pub plant_settles : (f : Ledger) (p : ℕ) → p ≤ 24 → Lawful f.shares → Sound f → Settles (plant_in f p) (settled_energies (plant_in f p)) (settlement_of (plant_in f p))
plant_settles f p high lawful s = settles (plant_in f p) lawful (plant_sound f p high s)

pub few_held : (f : Ledger) (p n : ℕ) → n ≡ length (contracts_of p f.rows) → Sound f → n ≤ 256
few_held f p n h s = omega (arith, length_contracts p f.rows, s.few)

pub net_bound : (f : Ledger) (p : ℕ) → p ≤ 24 → Lawful f.shares → Sound f → nat_abs (net_of_plant f p) ≤ most_net
unfolding net_of_plant
net_bound f p high lawful s = (plant_settles f p high lawful s).bound

-- ---- figures without carries

pub get_d_without : (xs : List Account) (i : ℕ) → get_or (map without_carry xs) i blank ≡ without_carry (get_or xs i blank)
get_d_without [] i = refl
get_d_without (x ∷ xs) zero = refl
get_d_without (x ∷ xs) (suc i) = get_d_without xs i

pub at_without : (f : Ledger) (p : ℕ) → at (without_carries f) p ≡ without_carry (at f p)
at_without f p = get_d_without f.accounts (p - 1)

pub plant_without : (f : Ledger) (p : ℕ) → plant_in (without_carries f) p ≡ plant_in f p
plant_without f p =
    let made : Account → Figures = λ a. record { plant = plant_figures f.month f.residential a; contracts = contracts_of p f.rows; shares = f.shares } in
    ap made (at_without f p)

pub net_without : (f : Ledger) (p : ℕ) → net_of_plant (without_carries f) p ≡ net_of_plant f p
unfolding net_of_plant
net_without f p = ap (λ (g : Figures). (settlement_of g).net.count) (plant_without f p)
