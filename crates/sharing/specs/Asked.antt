-- What is known of a question that is not declined, and which questions are not. Assumes nothing.
use Rattle.std.specs.Prelude.{◌≡◌, ℕ, suc, ◌*◌, ◌≤◌, false, List, [], ◌∷◌, length, None, sum, slice_index, refl}
use Rattle.std.proofs.Common.{mul-le-mul, arith}
use Rattle.std.proofs.lemmas.Bool.Decides.{nat_tests}
use Rattle.sharing.specs.Questions.{any_above, declined, Accepted, Asked, RankAccepted, CompensationAccepted}
use Rattle.sharing.specs.Claims.{each_under, sum_under, get_d_le_sum}

pub asked : (claims : List ℕ) (total places : ℕ) → declined claims total places ≡ None → Asked claims total places
unfolding declined
asked claims total places h =
    let none : any_above 300000000000 claims ≡ false = grind (arith, nat_tests) in
    let few : length claims ≤ 256 = grind (arith, nat_tests) in
    record {
      same = grind (arith, nat_tests);
      few = few;
      zero = λ e. grind (arith, nat_tests);
      each = each_under 300000000000 claims none;
      whole = omega (arith, sum_under 300000000000 claims none);
      small = grind (arith, nat_tests);
    }

-- none of the claims is above a limit that each keeps
none_above : (m : ℕ) (xs : List ℕ) → ((i : ℕ) → slice_index xs i ≤ m) → any_above m xs ≡ false
none_above m [] h = refl
none_above m (x ∷ xs) h = grind (arith, nat_tests, h 0, none_above m xs (λ i. h (suc i)))

accepted : (claims : List ℕ) (total : ℕ) → length claims ≤ 256 → (sum claims ≡ 0 → total ≡ 0) → ((i : ℕ) → slice_index claims i ≤ 300000000000) → total * sum claims ≤ 9000000000000000000 → Accepted claims total
unfolding declined
accepted claims total few zero each small =
    let none : any_above 300000000000 claims ≡ false = none_above 300000000000 claims each in grind (arith, nat_tests)

pub rank_accepted : RankAccepted
rank_accepted claims total few whole h =
    let low : total ≤ 3000000000 = omega arith in
    let product : total * sum claims ≤ 3000000000 * 3000000000 = mul-le-mul low whole in
    accepted claims total few (λ e. omega arith) (λ i. omega (arith, get_d_le_sum claims i)) (omega arith)

pub compensation_accepted : CompensationAccepted
compensation_accepted claims total few each some small =
    let under : sum claims ≤ length claims * 3000000000 = sum_under 3000000000 claims (none_above 3000000000 claims each) in
    let whole : sum claims ≤ 72000000000 = omega arith in
    let product : total * sum claims ≤ 100000000 * 72000000000 = mul-le-mul small whole in
    accepted claims total (omega arith) (λ e. absurd (omega arith)) (λ i. omega (arith, each i)) (omega arith)
