-- What every settlement of sound figures keeps, by any lawful rule. Assumes nothing.
use Rattle.std.proofs.Common.{◌≡◌, ℕ, ◌+◌, ◌-◌, ◌<◌, ◌≤◌, List, [], ◌∷◌, map, length, get_or, ℤ, pos, nat_abs, sum, sym, refl, ap, ◌∙◌, subst, arith}
use Rattle.units.specs.declared.energy.Energy.{Energy}
use Rattle.units.specs.declared.money.Grains.{Grains}
use Rattle.units.specs.Payments.{most_net}
use Rattle.sharing.specs.Laws.{Fair}
use Rattle.sharing.specs.Asked.{rank_accepted}
use Rattle.market.specs.declared.figures.Contract.{Contract}
use Rattle.market.specs.declared.kinds.Rank.{Rank}
use Rattle.market.specs.declared.kinds.Rank.TheVariants.{InterProvincePriority, InterProvinceMarket, Commissioning, Retained, Aluminium, InProvincePriority, InProvinceMarket}
use Rattle.market.specs.declared.tariff.Tariff.{Tariff}
use Rattle.market.specs.Accounts.{Payable}
use Rattle.market.specs.Admitting.{Sound}
use Rattle.market.specs.Dealing.{laid_all, Covered}
use Rattle.market.specs.Dividing.{energy, kwhs, left_over, unfilled, Filled}
use Rattle.market.specs.Figures.{Figures, claims_of, contracted, claims_in, rank_parts, rank_part, shared_in, settled_energies, settled_amounts, tariff_in, amounts_of, amount_sum, worth_of, assessment_of, concluded, missing_in, held_back_in, settlement_of}
use Rattle.market.specs.Kinds.{rank_number}
use Rattle.market.specs.Laws.{Lawful, beside_rank, claim_of, settled_in, Settles}
use Rattle.market.proofs.Bounded.{Modest, modest, worth_le, amounts_le, assessment_le, net_le}
use Rattle.market.proofs.Dealt.{get_d_kwhs, claims_few, claims_whole, sum_seven}
use Rattle.market.proofs.Filling.{taken, divided_is, divided_filled}
use Rattle.market.proofs.Ranked.{laid_dealt, dealt_long, beside_dealt, Within, dealt_within, sum_by_rank}

filled : (f : Figures) → Filled f.plant.metered.kwh (claims_in f) (rank_parts f) (left_over f.plant.metered.kwh (claims_in f)) (unfilled f.plant.metered.kwh (claims_in f))
filled f = divided_filled f.plant.metered.kwh (claims_in f)

-- no rank settles more than its contracts' energies
pub covered : (f : Figures) → Covered f.contracts (rank_parts f)
covered f InterProvincePriority apart = (filled f).within 0
covered f InterProvinceMarket apart = (filled f).within 1
covered f Commissioning apart = absurd (apart refl)
covered f Retained apart = (filled f).within 3
covered f Aluminium apart = (filled f).within 4
covered f InProvincePriority apart = omega (arith, (filled f).within 5)
covered f InProvinceMarket apart = (filled f).within 6

fair : (f : Figures) → Lawful f.shares → Sound f.plant f.contracts → (r : Rank) → (r ≡ Commissioning → ⊥) → Fair (claims_of (rank_number r) f.contracts) (rank_part f (rank_number r)) (shared_in f (rank_number r))
fair f lawful sound r apart =
    let claims = claims_of (rank_number r) f.contracts in
    lawful claims (rank_part f (rank_number r))
    (rank_accepted claims (rank_part f (rank_number r)) (omega (arith, claims_few (rank_number r) f.contracts, sound.few)) (omega (arith, claims_whole (rank_number r) f.contracts, sound.whole)) (covered f r apart))

beside : (f : Figures) → Lawful f.shares → Sound f.plant f.contracts → (r : Rank) → (r ≡ Commissioning → ⊥) → beside_rank (rank_number r) f.contracts (kwhs (settled_energies f)) ≡ shared_in f (rank_number r)
unfolding settled_energies
beside f lawful sound r apart = beside_dealt (rank_number r) (shared_in f) f.contracts (fair f lawful sound r apart).long

beside_sum : (f : Figures) → Lawful f.shares → Sound f.plant f.contracts → (r : Rank) → (r ≡ Commissioning → ⊥) → sum (beside_rank (rank_number r) f.contracts (kwhs (settled_energies f))) ≡ rank_part f (rank_number r)
beside_sum f lawful sound r apart = ap sum (beside f lawful sound r apart) ∙ (fair f lawful sound r apart).adds

other : (r : Rank) → (rank_number r ≡ 3 → ⊥) → r ≡ Commissioning → ⊥
other r apart e = apart (ap rank_number e)

-- what each rank settles
settled : (f : Figures) → Lawful f.shares → Sound f.plant f.contracts → (r : Rank) → settled_in f (settled_energies f) (settlement_of f) r ≡ rank_part f (rank_number r)
unfolding settlement_of
settled f lawful sound InterProvincePriority = beside_sum f lawful sound InterProvincePriority (other InterProvincePriority (λ e. omega (arith, e)))
settled f lawful sound InterProvinceMarket = beside_sum f lawful sound InterProvinceMarket (other InterProvinceMarket (λ e. omega (arith, e)))
settled f lawful sound Commissioning = refl
settled f lawful sound Retained = beside_sum f lawful sound Retained (other Retained (λ e. omega (arith, e)))
settled f lawful sound Aluminium = beside_sum f lawful sound Aluminium (other Aluminium (λ e. omega (arith, e)))
settled f lawful sound InProvincePriority = beside_sum f lawful sound InProvincePriority (other InProvincePriority (λ e. omega (arith, e)))
settled f lawful sound InProvinceMarket = beside_sum f lawful sound InProvinceMarket (other InProvinceMarket (λ e. omega (arith, e)))

taken_seven : (m a b c d e f g : ℕ) → sum (taken m (a ∷ b ∷ c ∷ d ∷ e ∷ f ∷ g ∷ [])) ≡ get_or (taken m (a ∷ b ∷ c ∷ d ∷ e ∷ f ∷ g ∷ [])) 0 0 + get_or (taken m (a ∷ b ∷ c ∷ d ∷ e ∷ f ∷ g ∷ [])) 1 0 + get_or (taken m (a ∷ b ∷ c ∷ d ∷ e ∷ f ∷ g ∷ [])) 2 0 + get_or (taken m (a ∷ b ∷ c ∷ d ∷ e ∷ f ∷ g ∷ [])) 3 0 + get_or (taken m (a ∷ b ∷ c ∷ d ∷ e ∷ f ∷ g ∷ [])) 4 0 + get_or (taken m (a ∷ b ∷ c ∷ d ∷ e ∷ f ∷ g ∷ [])) 5 0 + get_or (taken m (a ∷ b ∷ c ∷ d ∷ e ∷ f ∷ g ∷ [])) 6 0
taken_seven m a b c d e f g = sum_seven _ _ _ _ _ _ _

-- the seven parts, one by one
abbrev each : List ℕ → ℕ
each ps = get_or ps 0 0 + get_or ps 1 0 + get_or ps 2 0 + get_or ps 3 0 + get_or ps 4 0 + get_or ps 5 0 + get_or ps 6 0

parts_sum : (f : Figures) → sum (rank_parts f) ≡ each (rank_parts f)
parts_sum f =
    let m = f.plant.metered.kwh in
    subst (λ ps. sum ps ≡ each ps) (sym (divided_is m (claims_in f))) (taken_seven m _ _ _ _ _ _ _)

pub energies_sum : (f : Figures) → Lawful f.shares → Sound f.plant f.contracts → sum (kwhs (settled_energies f)) + rank_part f 3 + left_over f.plant.metered.kwh (claims_in f) ≡ f.plant.metered.kwh
unfolding settled_energies
energies_sum f lawful sound =
    let cs = f.contracts in
    let es = kwhs (settled_energies f) in
    let all = sum_by_rank f.plant.class cs es sound.held (dealt_long (shared_in f) cs) in
    let one = beside_sum f lawful sound InterProvincePriority (other InterProvincePriority (λ e. omega (arith, e))) in
    let two = beside_sum f lawful sound InterProvinceMarket (other InterProvinceMarket (λ e. omega (arith, e))) in
    let four = beside_sum f lawful sound Retained (other Retained (λ e. omega (arith, e))) in
    let five = beside_sum f lawful sound Aluminium (other Aluminium (λ e. omega (arith, e))) in
    let six = beside_sum f lawful sound InProvincePriority (other InProvincePriority (λ e. omega (arith, e))) in
    let seven = beside_sum f lawful sound InProvinceMarket (other InProvinceMarket (λ e. omega (arith, e))) in
    omega (arith, all, one, two, four, five, six, seven, parts_sum f, (filled f).spent)

within : (f : Figures) → Lawful f.shares → Sound f.plant f.contracts → Within (shared_in f) f.contracts
within f lawful sound r apart = (fair f lawful sound r apart).within (covered f r apart)

rank_positive : (r : Rank) → 0 < rank_number r
rank_positive InterProvincePriority = omega arith
rank_positive InterProvinceMarket = omega arith
rank_positive Commissioning = omega arith
rank_positive Retained = omega arith
rank_positive Aluminium = omega arith
rank_positive InProvincePriority = omega arith
rank_positive InProvinceMarket = omega arith

pub tariff_modest : (f : Figures) → Sound f.plant f.contracts → Modest (tariff_in f)
tariff_modest f sound = modest f.plant.class f.plant.season f.plant.residential f.plant.approved sound.residential sound.approved

-- what is paid in all is at most a yuan for each metered kWh, and what is held back no more than that limit
pub paid_le : (f : Figures) → Lawful f.shares → Sound f.plant f.contracts → amount_sum (tariff_in f) f.contracts (settled_energies f) + worth_of (rank_part f 3) (tariff_in f).commissioning.micro + worth_of (left_over f.plant.metered.kwh (claims_in f)) (tariff_in f).over_generation.micro ≤ 300000000000000000
paid_le f lawful sound =
    let m = tariff_modest f sound in
    let over = left_over f.plant.metered.kwh (claims_in f) in
    omega (arith, amounts_le (tariff_in f) f.contracts (settled_energies f) m sound.prices, worth_le (rank_part f 3) (tariff_in f).commissioning.micro m.commissioning, worth_le over (tariff_in f).over_generation.micro m.over, energies_sum f lawful sound, sound.metered)

pub held_back_le : (f : Figures) → Sound f.plant f.contracts → held_back_in f ≤ 300000000000000000
held_back_le f sound =
    assessment_le (tariff_in f) f.plant.metered.kwh (contracted f.contracts) (missing_in f) (tariff_modest f sound) sound.metered sound.whole (omega (arith, claims_whole 5 f.contracts, sound.whole))

bound : (f : Figures) → Lawful f.shares → Sound f.plant f.contracts → nat_abs (settlement_of f).net.count ≤ most_net
unfolding settlement_of
bound f lawful sound =
    net_le (amount_sum (tariff_in f) f.contracts (settled_energies f)) (worth_of (rank_part f 3) (tariff_in f).commissioning.micro) (worth_of (left_over f.plant.metered.kwh (claims_in f)) (tariff_in f).over_generation.micro) (held_back_in f) f.plant.side.count (paid_le f lawful sound) (held_back_le f sound) sound.side

adds : (f : Figures) → Lawful f.shares → Sound f.plant f.contracts → sum (kwhs (settled_energies f)) + (settlement_of f).commissioning.kwh + (settlement_of f).over_generation.kwh ≡ f.plant.metered.kwh
unfolding settlement_of
adds f lawful sound = energies_sum f lawful sound

over : (f : Figures) → Lawful f.shares → Sound f.plant f.contracts → 0 < (settlement_of f).over_generation.kwh → (r : Rank) → settled_in f (settled_energies f) (settlement_of f) r ≡ claim_of f r
unfolding settlement_of
over f lawful sound h r = settled f lawful sound r ∙ (filled f).over h (rank_number r - 1)

no_more : (f : Figures) → Lawful f.shares → Sound f.plant f.contracts → (i : ℕ) → get_or (kwhs (settled_energies f)) i 0 ≤ get_or (map (λ (c : Contract). c.energy.kwh) f.contracts) i 0
unfolding settled_energies
no_more f lawful sound i = dealt_within f.plant.class (shared_in f) f.contracts sound.held (within f lawful sound) i

pub settles : (f : Figures) → Lawful f.shares → Sound f.plant f.contracts → Settles f (settled_energies f) (settlement_of f)
settles f lawful sound =
    record {
      adds = adds f lawful sound;
      within = no_more f lawful sound;
      rule = λ r apart. beside f lawful sound r apart ∙ ap (f.shares (claims_of (rank_number r) f.contracts)) (sym (settled f lawful sound r));
      order = λ r later h k.
          settled f lawful sound r
          ∙ (filled f).order (rank_number r - 1) (rank_number later - 1) (omega (arith, h, rank_positive r)) (subst (λ n. 0 < n) (settled f lawful sound later) k);
      over = over f lawful sound;
      bound = bound f lawful sound;
    }

-- The steps of the settlement, by what each of them gave.

-- the energies, with so much in each rank
pub shared_are : (f : Figures) → Sound f.plant f.contracts → (ranks old new : List Energy) → kwhs ranks ≡ rank_parts f → length old ≡ length f.contracts → new ≡ laid_all (λ n. f.shares (claims_of n f.contracts) (get_or (kwhs ranks) (n - 1) 0)) f.contracts old → new ≡ settled_energies f
unfolding settled_energies
shared_are f sound ranks old new e long is =
    is ∙ ap (λ ps. laid_all (λ n. f.shares (claims_of n f.contracts) (get_or ps (n - 1) 0)) f.contracts old) e
    ∙ laid_dealt f.plant.class (shared_in f) f.contracts old sound.held long

pub rank_is : (f : Figures) (ranks : List Energy) (i : ℕ) → kwhs ranks ≡ rank_parts f → (get_or ranks i (energy 0)).kwh ≡ get_or (rank_parts f) i 0
rank_is f ranks i e = get_d_kwhs ranks i ∙ ap (λ ps. get_or ps i 0) e

pub amounts_are : (f : Figures) (t : Tariff) (es : List Energy) (new : List Grains) → t ≡ tariff_in f → es ≡ settled_energies f → new ≡ amounts_of t f.contracts es → new ≡ settled_amounts f
unfolding settled_amounts
amounts_are f t es new e k is =
    is ∙ ap (λ (x : Tariff). amounts_of x f.contracts es) e ∙ ap (amounts_of (tariff_in f) f.contracts) k

pub paid_is : (f : Figures) (t : Tariff) (es : List Energy) → t ≡ tariff_in f → es ≡ settled_energies f → amount_sum t f.contracts es ≡ amount_sum (tariff_in f) f.contracts (settled_energies f)
paid_is f t es e k = ap (λ (x : Tariff). amount_sum x f.contracts es) e ∙ ap (amount_sum (tariff_in f) f.contracts) k

-- what the last step is given
pub record Steps (f : Figures) (t : Tariff) (k : ℕ) (paid : ℤ) (commissioning left missing : ℕ) : Type 0 where
  pub tariff : t ≡ tariff_in f
  pub contracts : k ≡ contracted f.contracts
  pub sold : paid ≡ pos (amount_sum (tariff_in f) f.contracts (settled_energies f))
  pub third : commissioning ≡ rank_part f 3
  pub over : left ≡ left_over f.plant.metered.kwh (claims_in f)
  pub fifth : missing ≡ missing_in f

pub concluded_is : (f : Figures) (t : Tariff) (k : ℕ) (paid : ℤ) (commissioning left missing : ℕ) → Steps f t k paid commissioning left missing → concluded f.plant t k paid commissioning left missing ≡ settlement_of f
unfolding settlement_of
concluded_is f t k paid commissioning left missing s =
    ap (λ x. concluded f.plant x k paid commissioning left missing) s.tariff
    ∙ ap (λ x. concluded f.plant (tariff_in f) x paid commissioning left missing) s.contracts
    ∙ ap (λ x. concluded f.plant (tariff_in f) (contracted f.contracts) x commissioning left missing) s.sold
    ∙ ap (λ x. concluded f.plant (tariff_in f) (contracted f.contracts) (pos (amount_sum (tariff_in f) f.contracts (settled_energies f))) x left missing) s.third
    ∙ ap (λ x. concluded f.plant (tariff_in f) (contracted f.contracts) (pos (amount_sum (tariff_in f) f.contracts (settled_energies f))) (rank_part f 3) x missing) s.over
    ∙ ap (λ x. concluded f.plant (tariff_in f) (contracted f.contracts) (pos (amount_sum (tariff_in f) f.contracts (settled_energies f))) (rank_part f 3) (left_over f.plant.metered.kwh (claims_in f)) x) s.fifth

-- and so 64 bits hold what the last step comes to
pub payable : (f : Figures) (t : Tariff) (k : ℕ) (paid : ℤ) (commissioning left missing : ℕ) → Steps f t k paid commissioning left missing → Lawful f.shares → Sound f.plant f.contracts → Payable f.plant t k paid commissioning left missing
payable f t k paid commissioning left missing s lawful sound =
    let m = f.plant.metered.kwh in
    let all = paid_le f lawful sound in
    let third = ap (λ n. worth_of n t.commissioning.micro) s.third ∙ ap (λ (x : Tariff). worth_of (rank_part f 3) x.commissioning.micro) s.tariff in
    let over = ap (λ n. worth_of n t.over_generation.micro) s.over ∙ ap (λ (x : Tariff). worth_of (left_over m (claims_in f)) x.over_generation.micro) s.tariff in
    let held =
    ap (λ (x : Tariff). assessment_of x m k missing) s.tariff ∙ ap (λ n. assessment_of (tariff_in f) m n missing) s.contracts
    ∙ ap (assessment_of (tariff_in f) m (contracted f.contracts)) s.fifth in
    record {
      metered = sound.metered;
      contracted = omega (arith, s.contracts, sound.whole);
      sold = omega (arith, ap nat_abs s.sold, all);
      commissioned = omega (arith, third, all);
      generated = omega (arith, over, all);
      held_back = omega (arith, held, held_back_le f sound);
      side = sound.side;
    }
