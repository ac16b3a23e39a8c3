-- Payments that fit, and what they keep. Assumes nothing.
use Rattle.std.proofs.Common.{◌≡◌, ℤ, pos, negsuc, ◌+ℤ◌, ◌*ℤ◌, ◌≤ℤ◌, ◌<ℤ◌, ap, arith, lit<, rules}
use Rattle.std.specs.Int.{int_div_euclid, int_rem_euclid}
use Rattle.std.proofs.lemmas.Nat.{div-add-mod', mod_below}
use Rattle.std.proofs.lemmas.Int.{ints}
use Rattle.units.specs.Payments.{split, Paid, SumsFit}

-- within the bounds of a net and a carry there is a payment
pub sums_fit : SumsFit
sums_fit net carry h k = search rules

whole : (z : ℤ) → (int_div_euclid z (pos 1000000) *ℤ pos 1000000) +ℤ int_rem_euclid z (pos 1000000) ≡ z
whole (pos a) = ap pos (div-add-mod' a 1000000)
whole (negsuc a) = let d = div-add-mod' a 1000000 in let m = mod_below a 1000000 (lit< tt) in omega (arith, ints)

low : (z : ℤ) → pos 0 ≤ℤ int_rem_euclid z (pos 1000000)
low (pos a) = omega (arith, ints)
low (negsuc a) = omega (arith, ints)

high : (z : ℤ) → int_rem_euclid z (pos 1000000) <ℤ pos 1000000
high (pos a) = let m = mod_below a 1000000 (lit< tt) in omega (arith, ints)
high (negsuc a) = omega (arith, ints)

pub split_paid : (net carry : ℤ) → Paid net carry (split (net +ℤ carry))
split_paid net carry = record { whole = whole (net +ℤ carry); low = low (net +ℤ carry); high = high (net +ℤ carry) }
