-- What the answer of a settlement is made of. Assumes nothing.
use Rattle.std.specs.Prelude.{ℕ, ◌≤◌, ℤ, unsigned_abs}
use Rattle.market.specs.declared.figures.PlantFigures.{PlantFigures}
use Rattle.market.specs.declared.tariff.Tariff.{Tariff}
use Rattle.market.specs.Figures.{worth_of, assessment_of}

-- 64 bits hold the net of a plant with the tariff t: k kWh are contracted, paid grains are paid for them, so much
-- commissioning energy and over-generation is settled, and so much is missing with the aluminium works
pub record Payable (p : PlantFigures) (t : Tariff) (k : ℕ) (paid : ℤ) (commissioning over missing : ℕ) : Type 0 where
  pub metered : p.metered.kwh ≤ 3000000000
  pub contracted : k ≤ 3000000000
  pub sold : unsigned_abs paid ≤ 300000000000000000
  pub commissioned : worth_of commissioning t.commissioning.micro ≤ 300000000000000000
  pub generated : worth_of over t.over_generation.micro ≤ 300000000000000000
  pub held_back : assessment_of t p.metered.kwh k missing ≤ 300000000000000000
  pub side : unsigned_abs p.side.count ≤ 300000000000000000
