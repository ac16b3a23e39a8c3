-- Which numbers name a plant. Assumes nothing.
use Rattle.std.specs.Prelude.{◌≡◌, ℕ, false, Ok, Err, Result}
use Rattle.book.specs.declared.plant.Plant.{Plant}
use Rattle.book.specs.declared.refusal.Refusal.{Refusal}
use Rattle.book.specs.declared.refusal.Refusal.TheVariants.{PastLimit}
use Rattle.book.specs.Rows.{plant_ok}

-- The plant of a number, or why the number is declined.
abbrev pub NamesPlant : ℕ → Result Plant Refusal → Type 0
NamesPlant number (Ok plant) = plant.number ≡ number
NamesPlant number (Err why) = (plant_ok number ≡ false) × (why ≡ PastLimit)
