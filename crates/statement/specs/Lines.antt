-- The lines of a statement, byte for byte. Assumes nothing.
use Rattle.std.specs.Prelude.{ℕ, List, [], ◌∷◌, ◌++◌, codes, decimal}
use Rattle.std.specs.Fmt.{signed_decimal}
use Rattle.sheet.specs.declared.fault.Fault.{Fault}
use Rattle.sheet.specs.Faults.{layer_of, cause_number}
use Rattle.statement.specs.declared.line.PlantLine.{PlantLine}

-- Figures with single spaces between them, and a newline after the last.
abbrev pub spaced : List (List ℕ) → List ℕ
spaced [] = codes "\n"
spaced (figure ∷ figures) = codes " " ++ figure ++ spaced figures

-- Plant, metered energy, over-generation, shortfall, payment in fen.
unfoldable pub plant_text : PlantLine → List ℕ
plant_text l =
    decimal l.plant
    ++ spaced (decimal l.metered.kwh ∷ decimal l.over_generation.kwh ∷ decimal l.shortfall.kwh ∷ signed_decimal l.payment.count ∷ [])

-- The layer, number, offset and item of a fault.
unfoldable pub fault_text : Fault → List ℕ
fault_text e = codes "fault" ++ spaced (decimal (layer_of e.cause) ∷ decimal (cause_number e.cause) ∷ decimal e.offset ∷ decimal e.item ∷ [])
