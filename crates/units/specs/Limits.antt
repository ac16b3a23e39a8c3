-- Within which limits signed money stands. Assumes nothing.
use Rattle.std.specs.Prelude.{Bool, ◌&&◌, ℤ, pos, int_le, nat_le, unsigned_abs}

-- a side balance in grains
abbrev pub side_balance : ℤ → Bool
side_balance z = nat_le (unsigned_abs z) 300000000000000000

-- a compensation in fen
abbrev pub compensation : ℤ → Bool
compensation z = int_le (pos 0) z && int_le z (pos 100000000)
