-- What every settlement keeps, whatever the rule. Assumes nothing.
use Rattle.std.specs.Prelude.{◌≡◌, ℕ, ◌+◌, ◌-◌, ◌<◌, ◌≤◌, cond, List, [], ◌∷◌, map, length, IfOk, sum, Result, ◌≢◌, slice_index, unsigned_abs}
use Rattle.units.specs.declared.energy.Energy.{Energy}
use Rattle.units.specs.declared.money.Grains.{Grains}
use Rattle.units.specs.Payments.{most_net}
use Rattle.sharing.specs.Laws.{Fair}
use Rattle.sharing.specs.Questions.{Accepted}
use Rattle.market.specs.declared.figures.Contract.{Contract}
use Rattle.market.specs.declared.figures.PlantFigures.{PlantFigures}
use Rattle.market.specs.declared.figures.Settlement.{Settlement}
use Rattle.market.specs.declared.kinds.Rank.{Rank}
use Rattle.market.specs.declared.kinds.Rank.TheVariants.{InterProvincePriority, InterProvinceMarket, Commissioning, Retained, Aluminium, InProvincePriority, InProvinceMarket}
use Rattle.market.specs.declared.refusal.Refusal.{Refusal}
use Rattle.market.specs.Admitting.{settle_declined}
use Rattle.market.specs.Dividing.{kwhs}
use Rattle.market.specs.Figures.{Figures, of_rank, claims_of, claims_in, settled_energies, settled_amounts, settlement_of}
use Rattle.market.specs.Kinds.{rank_number}
use Rattle.sharing.specs.Declining.{answered, placed}

-- a rule that keeps the laws of sharing
abbrev pub Lawful : (List ℕ → ℕ → List ℕ) → Type 0
Lawful shares = (claims : List ℕ) (total : ℕ) → Accepted claims total → Fair claims total (shares claims total)

-- of numbers that stand beside contracts, those that stand beside the ones of the rank n
abbrev pub beside_rank : ℕ → List Contract → List ℕ → List ℕ
beside_rank n [] xs = []
beside_rank n (c ∷ cs) [] = []
beside_rank n (c ∷ cs) (x ∷ xs) = cond (of_rank n c) (x ∷ beside_rank n cs xs) (beside_rank n cs xs)

-- what a rank claims
abbrev pub claim_of : Figures → Rank → ℕ
claim_of f r = slice_index (claims_in f) (rank_number r - 1)

-- what a rank settles: its contracts' settled energies, and of commissioning what was settled of it
abbrev pub settled_in : Figures → List Energy → Settlement → Rank → ℕ
settled_in f es s InterProvincePriority = sum (beside_rank 1 f.contracts (kwhs es))
settled_in f es s InterProvinceMarket = sum (beside_rank 2 f.contracts (kwhs es))
settled_in f es s Commissioning = s.commissioning.kwh
settled_in f es s Retained = sum (beside_rank 4 f.contracts (kwhs es))
settled_in f es s Aluminium = sum (beside_rank 5 f.contracts (kwhs es))
settled_in f es s InProvincePriority = sum (beside_rank 6 f.contracts (kwhs es))
settled_in f es s InProvinceMarket = sum (beside_rank 7 f.contracts (kwhs es))

-- the energies es and the answer s settle the figures
pub record Settles (f : Figures) (es : List Energy) (s : Settlement) : Type 0 where
  -- settled energies, commissioning and over-generation add up to the meter
  pub adds : sum (kwhs es) + s.commissioning.kwh + s.over_generation.kwh ≡ f.plant.metered.kwh
  -- no contract settles more than its energy
  pub within : (i : ℕ) → slice_index (kwhs es) i ≤ slice_index (map (λ (c : Contract). c.energy.kwh) f.contracts) i
  -- within a rank the parts are the rule's, of what the rank settles
  pub rule : (r : Rank) → (r ≢ Commissioning) → beside_rank (rank_number r) f.contracts (kwhs es) ≡ f.shares (claims_of (rank_number r) f.contracts) (settled_in f es s r)
  -- a rank settles energy only where every earlier rank is full
  pub order : (r later : Rank) → rank_number r < rank_number later → 0 < settled_in f es s later → settled_in f es s r ≡ claim_of f r
  -- there is over-generation only where every rank is full
  pub over : 0 < s.over_generation.kwh → (r : Rank) → settled_in f es s r ≡ claim_of f r
  -- the net is one that 64 bits hold, with any carry
  pub bound : unsigned_abs s.net.count ≤ most_net

abbrev pub figures_of : PlantFigures → List Contract → (List ℕ → ℕ → List ℕ) → Figures
figures_of p cs shares = record { plant = p; contracts = cs; shares = shares }

-- a settlement of the figures and its answer r: one slice held energies before it and holds others after it, and one held
-- amounts old before it and holds new after it. Where it is declined, both hold what they held
pub record Settled (f : Figures) (before after : List Energy) (old new : List Grains) (r : Result Settlement Refusal) : Type 0 where
  pub answer : r ≡ answered (settle_declined f.plant f.contracts (length before) (length old)) (settlement_of f)
  pub energies : after ≡ placed (settle_declined f.plant f.contracts (length before) (length old)) (settled_energies f) before
  pub amounts : new ≡ placed (settle_declined f.plant f.contracts (length before) (length old)) (settled_amounts f) old
  -- and what follows from these by the laws of sharing
  pub settles : IfOk r (λ s. Settles f after s)
