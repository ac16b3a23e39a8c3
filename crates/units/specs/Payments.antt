-- What is paid of a net and a carry, in whole fen, and what is carried on. Assumes nothing.
use Rattle.std.specs.Prelude.{◌≡◌, ℕ, ◌≤◌, true, cond, ℤ, pos, ◌+ℤ◌, ◌-ℤ◌, ◌*ℤ◌, ◌≤ℤ◌, ◌<ℤ◌, Some, None, Option, unsigned_abs}
use Rattle.std.specs.Int.{int_div_euclid, int_rem_euclid}
use Rattle.units.specs.declared.payment.Payment.{Payment}
use Rattle.units.specs.Fits.{signed64, grains}

-- an amount in grains, in whole fen rounded down, and the grains that are left
abbrev pub split : ℤ → Payment
split z = record { fen = record { count = int_div_euclid z (pos 1000000) }; carry = grains (int_rem_euclid z (pos 1000000)) }

-- the payment, where 64 bits hold the sum
unfoldable pub payment_if : ℤ → ℤ → Option Payment
payment_if net carry = cond (signed64 (net +ℤ carry)) (Some (split (net +ℤ carry))) None

-- nothing is lost between the sum and the payment, and less than a fen is carried on
pub record Paid (net carry : ℤ) (p : Payment) : Type 0 where
  pub whole : (p.fen.count *ℤ pos 1000000) +ℤ p.carry.count ≡ net +ℤ carry
  pub low : pos 0 ≤ℤ p.carry.count
  pub high : p.carry.count <ℤ pos 1000000

-- no net is larger, either way: at most 3,000,000,000 kWh at a yuan each, or 3,000,000,000 kWh assessed at less
-- than that, and a side balance of 300,000,000,000,000,000 grains
abbrev pub most_net : ℕ
most_net = 600000000000000000

-- no carry is larger, either way: the difference of two nets and less than a fen
abbrev pub most_carry : ℕ
most_carry = 1200000000001000000

abbrev pub SumsFit : Type 0
SumsFit =
    (net carry : ℤ) → unsigned_abs net ≤ most_net → unsigned_abs carry ≤ most_carry
    → (signed64 net ≡ true) × (signed64 carry ≡ true) × (signed64 (net +ℤ carry) ≡ true)

-- a close adds to what a payment carries on the net at the end less the net that was paid
abbrev pub CarriesStay : Type 0
CarriesStay =
    (net end rest : ℤ) → unsigned_abs net ≤ most_net → unsigned_abs end ≤ most_net → pos 0 ≤ℤ rest → rest <ℤ pos 1000000
    → unsigned_abs (rest +ℤ (end -ℤ net)) ≤ most_carry
