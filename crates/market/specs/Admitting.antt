-- Which figures are declined, and what is known of those that are not. Assumes nothing.
use Rattle.std.specs.Prelude.{◌≡◌, ℕ, ◌≤◌, Bool, false, not, ◌||◌, List, [], ◌∷◌, length, None, Option, ◌==◌, nat_lt, unsigned_abs}
use Rattle.std.specs.List.{AllByRecursion, list_any}
use Rattle.units.specs.Limits.{side_balance}
use Rattle.sharing.specs.Declining.{first_of}
use Rattle.market.specs.declared.figures.Contract.{Contract}
use Rattle.market.specs.declared.figures.PlantFigures.{PlantFigures}
use Rattle.market.specs.declared.kinds.Class.{Class}
use Rattle.market.specs.declared.refusal.Refusal.{Refusal}
use Rattle.market.specs.declared.refusal.Refusal.TheVariants.{PastLimit, NotHeld, AboveMeter, TooManyContracts, ContractSum, SliceLength}
use Rattle.market.specs.Figures.{contracted}
use Rattle.market.specs.Kinds.{may_hold}

-- a figure of the plant is outside its limits: an energy, a price, or the side balance
abbrev pub energies_past : PlantFigures → Bool
energies_past p = nat_lt 3000000000 p.metered.kwh || nat_lt 3000000000 p.commissioning.kwh

abbrev pub prices_past : PlantFigures → Bool
prices_past p = nat_lt 1000000 p.residential.micro || nat_lt 1000000 p.approved.micro

abbrev pub money_past : PlantFigures → Bool
money_past p = prices_past p || not (side_balance p.side.count)

unfoldable pub plant_past : PlantFigures → Bool
plant_past p = energies_past p || money_past p

-- a figure of a contract is outside its limits
abbrev pub contract_past : Contract → Bool
contract_past c = nat_lt 3000000000 c.energy.kwh || nat_lt 1000000 c.price.micro

abbrev pub any_past : List Contract → Bool
any_past cs = list_any contract_past cs

-- the class may not hold some contract
abbrev pub any_not_held : Class → List Contract → Bool
any_not_held class cs = list_any (λ (c : Contract). not (may_hold class c.rank)) cs

-- why a settlement is declined, if it is, with so many places for energies and for amounts: the first that holds
unfoldable pub settle_declined : PlantFigures → List Contract → ℕ → ℕ → Option Refusal
settle_declined p cs energies amounts =
    first_of
    ((plant_past p || any_past cs, PastLimit)
    ∷ (any_not_held p.class cs, NotHeld)
    ∷ (nat_lt p.metered.kwh p.commissioning.kwh, AboveMeter)
    ∷ (nat_lt 256 (length cs), TooManyContracts)
    ∷ (nat_lt 3000000000 (contracted cs), ContractSum)
    ∷ (not (energies == length cs) || not (amounts == length cs), SliceLength)
    ∷ [])

-- what is known of figures that are not declined
pub record Sound (p : PlantFigures) (cs : List Contract) : Type 0 where
  pub metered : p.metered.kwh ≤ 3000000000
  pub commissioning : p.commissioning.kwh ≤ p.metered.kwh
  pub residential : p.residential.micro ≤ 1000000
  pub approved : p.approved.micro ≤ 1000000
  pub side : unsigned_abs p.side.count ≤ 300000000000000000
  pub prices : AllByRecursion (λ (c : Contract). c.price.micro ≤ 1000000) cs
  pub held : any_not_held p.class cs ≡ false
  pub few : length cs ≤ 256
  pub whole : contracted cs ≤ 3000000000

-- sound figures are never declined, with slices as long as the contracts
abbrev pub SoundAccepted : Type 0
SoundAccepted =
    (p : PlantFigures) (cs : List Contract) (n m : ℕ) → Sound p cs → n ≡ length cs → m ≡ length cs → settle_declined p cs n m ≡ None
