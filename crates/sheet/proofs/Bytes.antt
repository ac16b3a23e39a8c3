-- Numbers as bytes: a number that fits is read back from its bytes, and bytes are written back from their number. Assumes nothing.
use Rattle.std.proofs.Common.{◌≡◌, ℕ, zero, suc, ◌+◌, ◌*◌, ◌/◌, ◌%◌, ◌^◌, ◌<◌, ◌≤◌, List, [], ◌∷◌, length, take, drop, sym, refl, ap, ◌∙◌, subst, arith}
use native.Mathlib.Nat.{pow-succ'}
use Rattle.std.specs.List.{AllByRecursion}
use Rattle.std.proofs.lemmas.List.{length-take-le, length-drop}
use Rattle.std.proofs.ByRecursion.{All-take, All-drop}
use Rattle.sheet.specs.Formats.{number, field, bytes_of}

pub number_bytes_of : (w n : ℕ) → n < 256 ^ w → number (bytes_of w n) ≡ n
number_bytes_of zero n h = omega arith
number_bytes_of (suc w) n h =
    let rest : number (bytes_of w (n / 256)) ≡ n / 256 = number_bytes_of w (n / 256) (omega (arith, pow-succ' 256 w)) in omega arith

pub bytes_of_number : (bs : List ℕ) → AllByRecursion (λ b. b < 256) bs → bytes_of (length bs) (number bs) ≡ bs
bytes_of_number [] h = refl
bytes_of_number (b ∷ bs) h =
    let low : (b + 256 * number bs) % 256 ≡ b = omega arith in
    let high : (b + 256 * number bs) / 256 ≡ number bs = omega arith in
    let rest = bytes_of_number bs h.1 in
    cc (low, ap (bytes_of (length bs)) high, rest)

pub number_lt : (bs : List ℕ) → AllByRecursion (λ b. b < 256) bs → number bs < 256 ^ length bs
number_lt [] h = omega arith
number_lt (b ∷ bs) h = omega (arith, number_lt bs h.1, pow-succ' 256 (length bs))

length_field : (p w : ℕ) (bs : List ℕ) → p + w ≤ length bs → length (take w (drop p bs)) ≡ w
length_field p w bs h = length-take-le w (drop p bs) (omega (arith, length-drop p bs))

-- a field is the bytes that stand there
pub bytes_of_field : (p w : ℕ) (bs : List ℕ) → AllByRecursion (λ b. b < 256) bs → p + w ≤ length bs → bytes_of w (field p w bs) ≡ take w (drop p bs)
bytes_of_field p w bs h l =
    ap (λ n. bytes_of n (field p w bs)) (sym (length_field p w bs l))
    ∙ bytes_of_number (take w (drop p bs)) (All-take (λ b. b < 256) w (drop p bs) (All-drop (λ b. b < 256) p bs h))

pub field_lt : (p w : ℕ) (bs : List ℕ) → AllByRecursion (λ b. b < 256) bs → p + w ≤ length bs → field p w bs < 256 ^ w
field_lt p w bs h l =
    let P : ℕ → Type 0 = λ n. field p w bs < 256 ^ n in
    subst P (length_field p w bs l) (number_lt (take w (drop p bs)) (All-take (λ b. b < 256) w (drop p bs) (All-drop (λ b. b < 256) p bs h)))
