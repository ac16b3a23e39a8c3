-- A line written out of figures that equal those of a plant or a fault is its line. Assumes nothing.
use Rattle.std.proofs.Common.{◌≡◌, ℕ, [], ◌∷◌, ◌++◌, ℤ, codes, decimal, refl}
use Rattle.std.specs.Fmt.{signed_decimal}
use Rattle.sheet.specs.declared.fault.Fault.{Fault}
use Rattle.sheet.specs.Faults.{cause_number, layer_of}
use Rattle.statement.specs.declared.line.PlantLine.{PlantLine}
use Rattle.statement.specs.Lines.{fault_text, plant_text, spaced}

pub plant_text_lem : (l : PlantLine) (m o s : ℕ) (z : ℤ) → m ≡ l.metered.kwh → o ≡ l.over_generation.kwh → s ≡ l.shortfall.kwh → z ≡ l.payment.count → decimal l.plant ++ spaced (decimal m ∷ decimal o ∷ decimal s ∷ signed_decimal z ∷ []) ≡ plant_text l
unfolding plant_text
plant_text_lem l m o s z em eo es ez = rw (em, eo, es, ez) refl

pub fault_text_lem : (e : Fault) (layer number : ℕ) → layer ≡ layer_of e.cause → number ≡ cause_number e.cause → codes "fault" ++ spaced (decimal layer ∷ decimal number ∷ decimal e.offset ∷ decimal e.item ∷ []) ≡ fault_text e
unfolding fault_text
fault_text_lem e layer number el en = rw (el, en) refl
