-- Questions that are declined or not. Assumes nothing.
use Rattle.std.proofs.Common.{◌≡◌, ℕ, ◌*◌, ◌≤◌, false, ◌||◌, ltb, refl, List, [], ◌∷◌, length, None, sum, Option, Result, IsOk, sym, ap, ◌∙◌, subst, arith}
use Rattle.std.specs.List.{list_any}
use Rattle.std.proofs.lemmas.Bool.{ltb-false, or_parts}
use Rattle.std.proofs.lemmas.Bool.Decides.{nat_tests}
use Rattle.units.specs.declared.energy.Energy.{Energy}
use Rattle.sharing.specs.Questions.{any_above}
use Rattle.market.specs.Dividing.{kwhs, divide_declined}
use Rattle.sharing.specs.Declining.{answered}
use Rattle.market.proofs.Filling.{sum_cons}

-- what is not declined is answered
pub is_answered : {X E : Type 0} (r : Result X E) (why : Option E) (x : X) → r ≡ answered why x → why ≡ None → IsOk r
is_answered r why x e n = subst IsOk (sym (e ∙ ap (λ w. answered w x) n)) refl

pub same_pair : {X Y : Type 0} (p q : X × Y) → p.0 ≡ q.0 → p.1 ≡ q.1 → p ≡ q
same_pair p q e f = ap (λ x. (x, p.1)) e ∙ ap (λ y. (q.0, y)) f

-- an energy above a limit, as the library looks for it
pub above_is : (m : ℕ) (es : List Energy) → any_above m (kwhs es) ≡ list_any (λ (e : Energy). ltb m e.kwh) es
above_is m [] = refl
above_is m (e ∷ es) = ap (λ b. ltb m e.kwh || b) (above_is m es)

sum_under : (m : ℕ) (xs : List ℕ) → any_above m xs ≡ false → sum xs ≤ length xs * m
sum_under m [] h = omega arith
sum_under m (x ∷ xs) h =
    let parts = or_parts (ltb m x) (any_above m xs) h in
    omega (arith, ltb-false m x parts.0, sum_under m xs parts.1, sum_cons x xs)

-- what is known of a division that is not declined
pub division_long : (m : ℕ) (claims : List ℕ) (places : ℕ) → divide_declined m claims places ≡ None → (length claims ≡ 7) × (places ≡ 7) × (sum claims ≤ 21000000000)
unfolding divide_declined
division_long m claims places h =
    let none : any_above 3000000000 claims ≡ false = grind (arith, nat_tests) in
    let long : length claims ≡ 7 = grind (arith, nat_tests) in
    let most = sum_under 3000000000 claims none in
    (long, grind (arith, nat_tests), omega arith)
