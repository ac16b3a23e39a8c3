-- The fee of a transfer in grains. Assumes nothing.
use Rattle.std.specs.Prelude.{ℕ, ◌*◌, ℤ, pos, ◌-ℤ◌, ◌*ℤ◌}

-- so many kWh, in hundredths, at the contract's price less the transfer's
abbrev pub fee_of : ℕ → ℕ → ℕ → ℤ
fee_of kwh contract transfer = pos (kwh * 100) *ℤ (pos contract -ℤ pos transfer)
