-- Quantities made from numbers that may be too large to hold. Assumes nothing.
use Rattle.std.specs.Prelude.{ℕ, ◌^◌, Bool, cond, ℤ, Some, None, Option, nat_lt}
use Rattle.std.specs.Int.Signed.{mag}
use Rattle.units.specs.declared.energy.Hundredths.{Hundredths}
use Rattle.units.specs.declared.money.Grains.{Grains}

-- 64 bits hold a number with its sign: from -2 ^ 63 to 2 ^ 63 - 1
abbrev pub signed64 : ℤ → Bool
signed64 z = nat_lt (mag z) (2 ^ 63)

abbrev pub grains : ℤ → Grains
grains z = record { count = z }

-- so many grains, where 64 bits hold them
unfoldable pub grains_if : ℤ → Option Grains
grains_if z = cond (signed64 z) (Some (grains z)) None

-- so many hundredths, where 64 bits hold them
unfoldable pub hundredths_if : ℕ → Option Hundredths
hundredths_if n = cond (nat_lt n (2 ^ 64)) (Some (record { count = n })) None
