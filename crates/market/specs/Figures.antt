-- The settlement of one plant's month, as a function of its figures. Assumes nothing.
use Rattle.std.specs.Prelude.{ℕ, ◌+◌, ◌-◌, ◌*◌, Bool, cond, List, [], ◌∷◌, drop, ℤ, pos, ◌+ℤ◌, ◌-ℤ◌, sum, ◌==◌, nat_lt, slice_index}
use Rattle.units.specs.declared.energy.Energy.{Energy}
use Rattle.units.specs.declared.money.Grains.{Grains}
use Rattle.units.specs.Fits.{grains}
use Rattle.market.specs.declared.figures.Contract.{Contract}
use Rattle.market.specs.declared.figures.PlantFigures.{PlantFigures}
use Rattle.market.specs.declared.figures.Settlement.{Settlement}
use Rattle.market.specs.declared.tariff.Tariff.{Tariff}
use Rattle.market.specs.Dividing.{energy, divided, left_over}
use Rattle.market.specs.Kinds.{rank_number}
use Rattle.market.specs.Prices.{tariff_of, paid_at}

-- all that a settlement rests on: the plant's figures, its contracts in rising number, and what its rule means
pub record Figures : Type 0 where
  pub plant : PlantFigures
  pub contracts : List Contract
  pub shares : List ℕ → ℕ → List ℕ

-- the contract is of the rank with the number n
abbrev pub of_rank : ℕ → Contract → Bool
of_rank n c = rank_number c.rank == n

-- the energies of a rank's contracts
abbrev pub claims_of : ℕ → List Contract → List ℕ
claims_of n [] = []
claims_of n (c ∷ cs) = cond (of_rank n c) (c.energy.kwh ∷ claims_of n cs) (claims_of n cs)

-- the energy of all contracts
abbrev pub contracted : List Contract → ℕ
contracted [] = 0
contracted (c ∷ cs) = c.energy.kwh + contracted cs

-- what the seven ranks claim, with so much commissioning energy: the contracts of each; of the third rank the
-- commissioning energy, which the claim of in-province priority is less by
abbrev pub rank_claims : ℕ → List Contract → List ℕ
rank_claims commissioning cs =
    sum (claims_of 1 cs)
    ∷ sum (claims_of 2 cs)
    ∷ commissioning
    ∷ sum (claims_of 4 cs)
    ∷ sum (claims_of 5 cs)
    ∷ (sum (claims_of 6 cs) - commissioning)
    ∷ sum (claims_of 7 cs)
    ∷ []

abbrev pub claims_in : Figures → List ℕ
claims_in f = rank_claims f.plant.commissioning.kwh f.contracts

-- what each rank settles: the meter fills them in order
abbrev pub rank_parts : Figures → List ℕ
rank_parts f = divided f.plant.metered.kwh (claims_in f)

abbrev pub rank_part : Figures → ℕ → ℕ
rank_part f n = slice_index (rank_parts f) (n - 1)

-- within a rank the rule shares what the rank settles over its contracts, with their whole energies as claims
abbrev pub shared_in : Figures → ℕ → List ℕ
shared_in f n = f.shares (claims_of n f.contracts) (rank_part f n)

-- the same parts without the first one of the rank n
abbrev pub after_one : ℕ → (ℕ → List ℕ) → ℕ → List ℕ
after_one n parts k = cond (n == k) (drop 1 (parts k)) (parts k)

-- each contract takes the next part of its rank
abbrev pub dealt : (ℕ → List ℕ) → List Contract → List Energy
dealt parts [] = []
dealt parts (c ∷ cs) = energy (slice_index (parts (rank_number c.rank)) 0) ∷ dealt (after_one (rank_number c.rank) parts) cs

unfoldable pub settled_energies : Figures → List Energy
settled_energies f = dealt (shared_in f) f.contracts

-- an energy at a price, in grains
abbrev pub worth_of : ℕ → ℕ → ℕ
worth_of kwh price = kwh * 100 * price

-- what each contract is paid for its settled energy, and all of them together
abbrev pub amount_of : Tariff → Contract → Energy → ℕ
amount_of t c e = worth_of e.kwh (paid_at t c.price).micro

abbrev pub amounts_of : Tariff → List Contract → List Energy → List Grains
amounts_of t [] es = []
amounts_of t (c ∷ cs) [] = []
amounts_of t (c ∷ cs) (e ∷ es) = grains (pos (amount_of t c e)) ∷ amounts_of t cs es

abbrev pub amount_sum : Tariff → List Contract → List Energy → ℕ
amount_sum t [] es = 0
amount_sum t (c ∷ cs) [] = 0
amount_sum t (c ∷ cs) (e ∷ es) = amount_of t c e + amount_sum t cs es

abbrev pub tariff_in : Figures → Tariff
tariff_in f = tariff_of f.plant.class f.plant.season f.plant.residential f.plant.approved

unfoldable pub settled_amounts : Figures → List Grains
settled_amounts f = amounts_of (tariff_in f) f.contracts (settled_energies f)

-- the deviation past a free part of two in a hundred of the contracts, in hundredths of a kWh
abbrev pub assessed_of : ℕ → ℕ → ℕ
assessed_of metered k = 100 * ((metered - k) + (k - metered)) - 2 * k

-- the price of an assessed deviation, over or short
abbrev pub assessed_at : Tariff → ℕ → ℕ → ℕ
assessed_at t metered k = cond (nat_lt k metered) t.assessed_over.micro t.assessed_short.micro

-- what is held back: the assessed deviation, and energy that is missing with the aluminium works
abbrev pub assessment_of : Tariff → ℕ → ℕ → ℕ → ℕ
assessment_of t metered k missing =
    assessed_of metered k * assessed_at t metered k + worth_of missing t.missing_aluminium.micro

-- the net: what contracts, commissioning energy and over-generation are paid, less what is held back, and the side balance
abbrev pub net_of : ℤ → ℕ → ℕ → ℕ → ℤ → ℤ
net_of paid commissioning over assessment side = (((paid +ℤ pos commissioning) +ℤ pos over) -ℤ pos assessment) +ℤ side

-- the settlement from what each part of it comes to: k is the contracted energy, paid what the contracts are paid,
-- commissioning and over what was settled of these, and missing what the aluminium works miss
abbrev pub concluded : PlantFigures → Tariff → ℕ → ℤ → ℕ → ℕ → ℕ → Settlement
concluded p t k paid commissioning over missing =
    record {
      commissioning = energy commissioning;
      over_generation = energy over;
      over_deviation = energy (p.metered.kwh - k);
      shortfall = energy (k - p.metered.kwh);
      assessed = record { count = assessed_of p.metered.kwh k };
      net = grains (net_of paid (worth_of commissioning t.commissioning.micro) (worth_of over t.over_generation.micro) (assessment_of t p.metered.kwh k missing) p.side.count);
    }

-- what the aluminium works miss, and what is held back in all
abbrev pub missing_in : Figures → ℕ
missing_in f = sum (claims_of 5 f.contracts) - rank_part f 5

abbrev pub held_back_in : Figures → ℕ
held_back_in f = assessment_of (tariff_in f) f.plant.metered.kwh (contracted f.contracts) (missing_in f)

unfoldable pub settlement_of : Figures → Settlement
settlement_of f =
    concluded f.plant (tariff_in f) (contracted f.contracts)
    (pos (amount_sum (tariff_in f) f.contracts (settled_energies f)))
    (rank_part f 3)
    (left_over f.plant.metered.kwh (claims_in f))
    (missing_in f)
