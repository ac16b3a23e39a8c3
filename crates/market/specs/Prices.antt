-- The prices of a plant's month in micro-yuan for each kWh. Assumes nothing.
use Rattle.std.specs.Prelude.{ℕ, Some, None}
use Rattle.std.specs.Option.{unwrap_or}
use Rattle.units.specs.declared.price.Price.{Price}
use Rattle.market.specs.declared.kinds.Class.{Class}
use Rattle.market.specs.declared.kinds.Class.TheVariants.{Hydro, Coal, Gas, Renewable, PovertyRelief}
use Rattle.market.specs.declared.kinds.Season.{Season}
use Rattle.market.specs.declared.kinds.Season.TheVariants.{Wet, Dry, Level}
use Rattle.market.specs.declared.tariff.Tariff.{Tariff}

abbrev pub micro : ℕ → Price
micro n = record { micro = n }

-- what stands under the season in a row of the table
abbrev pub by_season : {A : Type 0} → Season → A → A → A → A
by_season Wet wet dry level = wet
by_season Dry wet dry level = dry
by_season Level wet dry level = level

-- hydro, coal and gas: contracts at their own prices, commissioning energy at the approved price
abbrev pub conventional_tariff : Season → Price → Price → Tariff
conventional_tariff season approved missing =
    record {
      over_generation = by_season season (micro 0) (micro 228597) (micro 183612);
      assessed_over = by_season season (micro 25372) (micro 0) (micro 0);
      assessed_short = by_season season (micro 126859) (micro 207815) (micro 166920);
      missing_aluminium = missing;
      commissioning = approved;
      contracts = None;
    }

-- wind, solar and biomass: all at the residential price in the wet season, else at the approved price
abbrev pub renewable_tariff : Season → Price → Price → Tariff
renewable_tariff season residential approved =
    record {
      over_generation = by_season season residential (micro 228597) approved;
      assessed_over = by_season season (micro 25372) (micro 0) (micro 25372);
      assessed_short = micro 25372;
      missing_aluminium = micro 0;
      commissioning = by_season season residential approved approved;
      contracts = Some (by_season season residential approved approved);
    }

-- solar for the relief of poverty: all at the approved price
abbrev pub poverty_tariff : Price → Tariff
poverty_tariff approved =
    record {
      over_generation = approved;
      assessed_over = micro 25372;
      assessed_short = micro 25372;
      missing_aluminium = micro 0;
      commissioning = approved;
      contracts = Some approved;
    }

-- the prices of a plant, from the month's residential price and its own approved price; in the dry season a hydro plant
-- pays more for energy that the aluminium works miss
abbrev pub tariff_of : Class → Season → Price → Price → Tariff
tariff_of Hydro season residential approved = conventional_tariff season approved (by_season season (micro 0) (micro 60000) (micro 0))
tariff_of Coal season residential approved = conventional_tariff season approved (micro 0)
tariff_of Gas season residential approved = conventional_tariff season approved (micro 0)
tariff_of Renewable season residential approved = renewable_tariff season residential approved
tariff_of PovertyRelief season residential approved = poverty_tariff approved

-- what a contract with a price of its own is paid at
abbrev pub paid_at : Tariff → Price → Price
paid_at t own = unwrap_or t.contracts own
