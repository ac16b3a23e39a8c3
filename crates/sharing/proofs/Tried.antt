-- The sum of the claims in one pass, which ends at the first claim that is too large. Assumes nothing.
use Rattle.std.proofs.Common.{◌≡◌, ℕ, ◌+◌, ◌*◌, ◌^◌, ◌<◌, ◌≤◌, cond, nat_lt, List, [], ◌∷◌, length, Some, None, sum, Option, Iter, ap, ◌∙◌, ⊎_elim, arith}
use Rattle.std.specs.Fn.{Called}
use Rattle.std.specs.Iterator.{Yields}
use Rattle.std.specs.List.{FoldsTo}
use Rattle.std.specs.Option.{MatchOption}
use Rattle.std.proofs.lemmas.Bool.{cases_lt}
use Rattle.std.proofs.lemmas.Bool.Decides.{nat_tests}
use Rattle.std.proofs.lemmas.Fn.{fronts}
use Rattle.std.proofs.lemmas.List.{nil_from_length}
use denote.Param.Members.{Mut}
use denote.Ref.{Bor}
use Rattle.sharing.specs.Questions.{any_above}
use Rattle.sharing.specs.Claims.{sum_cons}

-- one claim more, where it is not too large and the sum fits
abbrev turn : ℕ → ℕ → Option ℕ
turn a x = cond (nat_lt 300000000000 x) None (cond (nat_lt (a + x) (2 ^ 64)) (Some (a + x)) None)

-- each claim in turn, for as long as there is a sum
abbrev turns : List ℕ → Option ℕ → Option ℕ
turns xs None = None
turns [] (Some a) = Some a
turns (x ∷ xs) (Some a) = turns xs (turn a x)

-- the clause `ran` of `try_fold` over a slice, where each call gives what `turn` gives. E is the type of what a call that ends the pass hands over.
module _ {F : Type 0} (g : Mut F (ℕ × (Bor ℕ × Unit {0})) (Option ℕ)) (acts : (f : F) (a : ℕ) (x : Bor ℕ) (r : Option ℕ) (f' : F) → Called g f (a, (x, tt)) r f' → r ≡ turn a x.now) where
  pub tried : (E : Type 0) (xs : List (Bor ℕ)) (o : Option (Bor ℕ)) (s t u : Iter ℕ) (p q : F × ℕ) (r : Option ℕ) → Yields fronts s xs t → fronts t o u
      → FoldsTo {P = F × ℕ} (λ p x q. (v : Option ℕ) × Called g p.0 (p.1, (x, tt)) v q.0 × (v ≡ Some q.1)) p xs q
      → MatchOption o (r ≡ Some q.1) (λ x. (v : Option ℕ) × (h : F) × (e : E) × Called g q.0 (q.1, (x, tt)) v h × (v ≡ None) × (r ≡ None))
      → r ≡ turns s.rest.now (Some p.1)
  tried E [] None s t u p q r y n k m = cc (nil_from_length t.rest.now n.0)
  tried E [] (Some x) s t u p q r y n k m = cc (acts q.0 q.1 x m.0 m.1 m.3)
  tried E (x ∷ xs) o s t u p q r y n k m =
      cc (acts p.0 p.1 x k.1.0 k.0.0 k.1.1, tried E xs o y.0 t u k.0 q r y.2 n k.2 m)

turn_within : (a x : ℕ) → x ≤ 300000000000 → a + x < 2 ^ 64 → turn a x ≡ Some (a + x)
turn_within a x h k = grind (arith, nat_tests)

-- where the sum fits, the turns give it, or nothing where a claim is too large
pub summed : (a : ℕ) (xs : List ℕ) → a + length xs * 300000000000 < 2 ^ 64 → turns xs (Some a) ≡ cond (any_above 300000000000 xs) None (Some (a + sum xs))
summed a [] h = ap Some (omega arith)
summed a (x ∷ xs) h =
    ⊎_elim (λ (p : 300000000000 < x). grind (arith, nat_tests))
    (λ (p : x ≤ 300000000000).
    ap (turns xs) (turn_within a x p (omega arith)) ∙ summed (a + x) xs (omega arith) ∙ grind (arith, nat_tests, sum_cons x xs))
    (cases_lt 300000000000 x)
