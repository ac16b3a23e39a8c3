-- Grains and hundredths that fit. Assumes nothing.
use Rattle.std.proofs.Common.{◌≡◌, ℕ, ◌^◌, ◌<◌, ◌≤◌, true, ℤ, pos, negsuc, nat_abs, is_some, Some, Option, sym, ap, ◌∙◌, arith, w64, SFits}
use lib.Signed.{mag}
use Rattle.units.specs.declared.energy.Hundredths.{Hundredths}
use Rattle.units.specs.declared.money.Grains.{Grains}
use Rattle.std.proofs.lemmas.Bool.{lt-ltb, cond-true}
use Rattle.units.specs.Fits.{grains, grains_if, hundredths_if}

pub grains_some : (z : ℤ) → SFits w64 z → grains_if z ≡ Some (grains z)
unfolding grains_if
grains_some z f = cond-true _ _ _ (lt-ltb (mag z) (2 ^ 63) f.sfits)

pub hundredths_some : (n : ℕ) → n < 2 ^ 64 → hundredths_if n ≡ Some (record { count = n })
unfolding hundredths_if
hundredths_some n h = cond-true _ _ _ (lt-ltb n (2 ^ 64) h)

-- for a caller: grains and hundredths that fit are there, and are what was asked for
mag_le : (z : ℤ) → mag z ≤ nat_abs z
mag_le (pos n) = omega arith
mag_le (negsuc n) = omega arith

within_some : (z : ℤ) → nat_abs z ≤ 9000000000000000000 → grains_if z ≡ Some (grains z)
within_some z h = grains_some z (record { sfits = omega (arith, mag_le z) })

pub grains_held : (o : Option Grains) (z : ℤ) → o ≡ grains_if z → nat_abs z ≤ 9000000000000000000 → is_some o ≡ true
grains_held o z e h = ap is_some (e ∙ within_some z h)

pub grains_value : (o : Option Grains) (z : ℤ) (g : Grains) → o ≡ grains_if z → nat_abs z ≤ 9000000000000000000 → o ≡ Some g → g.count ≡ z
grains_value o z g e h is =
    let same : Some g ≡ Some (grains z) = sym is ∙ e ∙ within_some z h in
    let inside : g ≡ grains z = cc in
    ap (λ (x : Grains). x.count) inside

pub hundredths_held : (o : Option Hundredths) (n : ℕ) → o ≡ hundredths_if n → n < 2 ^ 64 → is_some o ≡ true
hundredths_held o n e h = ap is_some (e ∙ hundredths_some n h)

pub hundredths_value : (o : Option Hundredths) (n : ℕ) (x : Hundredths) → o ≡ hundredths_if n → n < 2 ^ 64 → o ≡ Some x → x.count ≡ n
hundredths_value o n x e h is =
    let same : Some x ≡ Some (record { count = n }) = sym is ∙ e ∙ hundredths_some n h in
    let inside : x ≡ record { count = n } = cc in
    ap (λ (y : Hundredths). y.count) inside
