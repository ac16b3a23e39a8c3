-- Worked examples of sharing, settlement and payment, as one table. Assumes nothing.
use Rattle.std.specs.Prelude.{◌≡◌, ℕ, List, [], ◌∷◌, ℤ, pos, negsuc, Some}
use Rattle.std.specs.List.{AllByRecursion}
use Rattle.units.specs.Fits.{grains}
use Rattle.units.specs.Payments.{payment_if}
use Rattle.sharing.specs.Rules.{equal_ratio, in_order}
use Rattle.market.specs.declared.figures.Contract.{Contract}
use Rattle.market.specs.declared.kinds.Class.{Class}
use Rattle.market.specs.declared.kinds.Class.TheVariants.{Hydro, Renewable}
use Rattle.market.specs.declared.kinds.Rank.{Rank}
use Rattle.market.specs.declared.kinds.Rank.TheVariants.{InterProvincePriority, InterProvinceMarket, Retained, Aluminium, InProvincePriority, InProvinceMarket}
use Rattle.market.specs.declared.kinds.Season.{Season}
use Rattle.market.specs.declared.kinds.Season.TheVariants.{Wet, Dry, Level}
use Rattle.market.specs.Dividing.{energy, kwhs}
use Rattle.market.specs.Figures.{Figures, settled_energies, held_back_in, settlement_of}
use Rattle.market.specs.Prices.{micro}

-- each row says what comes out of what
pub data Example : Type 0 where
  -- a rule, claims and a total; the parts
  shares : (List ℕ → ℕ → List ℕ) → List ℕ → ℕ → List ℕ → Example
  -- figures; the contracts' settled energies, the settled commissioning energy, the over-generation and the assessed hundredths
  settles : Figures → List ℕ → ℕ → ℕ → ℕ → Example
  -- figures; the assessed hundredths alone, what is held back in grains, and the net in grains
  assesses : Figures → ℕ → Example
  holds_back : Figures → ℕ → Example
  nets : Figures → ℤ → Example
  -- a net and a carry; the fen and the new carry
  pays : ℤ → ℤ → ℤ → ℤ → Example

abbrev pub Holds : Example → Type 0
Holds (shares rule claims total parts) = rule claims total ≡ parts
Holds (settles f es commissioning over assessed) =
    (kwhs (settled_energies f) ≡ es)
    × ((settlement_of f).commissioning.kwh ≡ commissioning)
    × ((settlement_of f).over_generation.kwh ≡ over)
    × ((settlement_of f).assessed.count ≡ assessed)
Holds (assesses f assessed) = (settlement_of f).assessed.count ≡ assessed
Holds (holds_back f amount) = held_back_in f ≡ amount
Holds (nets f net) = (settlement_of f).net.count ≡ net
Holds (pays net carry fen rest) = payment_if net carry ≡ Some (record { fen = record { count = fen }; carry = grains rest })

-- a contract of a rank, with its energy and its price
abbrev contract : Rank → ℕ → ℕ → Contract
contract r kwh price = record { rank = r; energy = energy kwh; price = micro price }

-- a plant with an approved price of 300000, metered energy and commissioning energy, by equal ratio; residential price and
-- side balance are 0
abbrev plant : Class → Season → ℕ → ℕ → List Contract → Figures
plant class season metered commissioning cs =
    record {
      plant = record { class = class; season = season; residential = micro 0; approved = micro 300000; metered = energy metered; commissioning = energy commissioning; side = grains (pos 0) };
      contracts = cs;
      shares = equal_ratio;
    }

-- a hydro plant with one contract in each rank
abbrev all_ranks : List Contract
all_ranks =
    contract InterProvincePriority 300000 250000
    ∷ contract InterProvinceMarket 700000 250000
    ∷ contract Retained 1000000 250000
    ∷ contract Aluminium 500000 250000
    ∷ contract InProvincePriority 2000000 250000
    ∷ contract InProvinceMarket 1200000 250000
    ∷ []

-- more commissioning energy than in-province priority energy
abbrev commissioned : Figures
commissioned = plant Renewable Level 1000000 550000 (contract InProvincePriority 400000 250000 ∷ contract InProvinceMarket 500000 250000 ∷ [])

-- a plant that is short of its two contracts
abbrev short : Figures
short = plant Hydro Dry 50 0 (contract InProvincePriority 60 250000 ∷ contract InProvinceMarket 40 200000 ∷ [])

-- 100 kWh contracted
abbrev hundred : ℕ → Figures
hundred metered = plant Hydro Dry metered 0 (contract InProvinceMarket 100 250000 ∷ [])

abbrev pub table : List Example
table =
    shares equal_ratio (1 ∷ 1 ∷ []) 1 (0 ∷ 1 ∷ [])
    ∷ shares in_order (1 ∷ 1 ∷ []) 1 (1 ∷ 0 ∷ [])
    ∷ shares equal_ratio (5 ∷ 3 ∷ 2 ∷ []) 7 (3 ∷ 2 ∷ 2 ∷ [])
    ∷ shares equal_ratio (1 ∷ 1 ∷ 1 ∷ []) 2 (0 ∷ 1 ∷ 1 ∷ [])
    ∷ shares equal_ratio [] 0 []
    ∷ shares in_order [] 0 []
    ∷ shares equal_ratio (0 ∷ 0 ∷ []) 0 (0 ∷ 0 ∷ [])
    ∷ shares equal_ratio (1 ∷ 0 ∷ 2 ∷ []) 10 (3 ∷ 0 ∷ 7 ∷ [])
    ∷ shares in_order (4 ∷ 2 ∷ 0 ∷ []) 9 (4 ∷ 5 ∷ 0 ∷ [])
    ∷ settles (plant Hydro Wet 6500000 0 all_ranks) (300000 ∷ 700000 ∷ 1000000 ∷ 500000 ∷ 2000000 ∷ 1200000 ∷ []) 0 800000 68600000
    ∷ holds_back (plant Hydro Wet 6500000 0 all_ranks) 1740519200000
    ∷ settles (plant Hydro Dry 5000000 0 all_ranks) (300000 ∷ 700000 ∷ 1000000 ∷ 500000 ∷ 2000000 ∷ 500000 ∷ []) 0 0 58600000
    ∷ holds_back (plant Hydro Dry 5000000 0 all_ranks) 12177959000000
    ∷ settles commissioned (0 ∷ 450000 ∷ []) 550000 0 8200000
    ∷ assesses (hundred 98) 0
    ∷ assesses (hundred 97) 100
    ∷ settles short (50 ∷ 0 ∷ []) 0 0 4800
    ∷ nets short (pos 252488000)
    ∷ pays (pos 252488000) (pos 0) (pos 252) (pos 488000)
    ∷ pays (negsuc 0) (pos 0) (negsuc 0) (pos 999999)
    ∷ []

abbrev pub TableHolds : Type 0
TableHolds = AllByRecursion Holds table
