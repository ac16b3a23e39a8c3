-- Stretches, words and lines. Assumes nothing.
use Rattle.std.proofs.Common.{◌≡◌, ℕ, Bool, Option, true, false, cond, not, List, [], ◌∷◌, ◌++◌, length, take, drop, sym, refl, ap, ◌∙◌, ⊎_elim, arith}
use Rattle.std.proofs.lemmas.List.{append_assoc, append-nil}
use Rattle.std.proofs.lemmas.Bool.{cond-true, cond-false, cases_Bool, not_from_true, not_from_false}
use Rattle.std.proofs.lemmas.Bool.Decides.{nat_tests}
use Rattle.std.proofs.lemmas.Grind.{common_steps}
use Rattle.std.proofs.lemmas.List.Sums.{prefix_len-le-length}
use Rattle.std.specs.List.{position, position_or_len}
use Rattle.std.specs.Option.{unwrap_or}
use Rattle.question.specs.Stretches.{blank, before, onward, with_word, words_after, words_of}

-- the place of the first byte that passes a test, or the end, and the text on both sides of it
pub place_found : (p : ℕ → Bool) (xs : List ℕ) (found : Option ℕ) (place : ℕ) → found ≡ position p xs → place ≡ unwrap_or found (length xs) → place ≡ position_or_len p xs
place_found p xs found place is e = grind (arith, nat_tests, prefix_len-le-length (λ x. not (p x)) xs)

pub before_place : (p : ℕ → Bool) (xs : List ℕ) → take (position_or_len p xs) xs ≡ before p xs
before_place p [] = refl
before_place p (x ∷ xs) =
    ⊎_elim (λ e. rw e refl) (λ e. rw e (grind (arith, common_steps, before_place p xs))) (cases_Bool (p x))

pub onward_place : (p : ℕ → Bool) (xs : List ℕ) → drop (position_or_len p xs) xs ≡ onward p xs
onward_place p [] = refl
onward_place p (x ∷ xs) =
    ⊎_elim (λ e. rw e refl) (λ e. rw e (grind (arith, common_steps, onward_place p xs))) (cases_Bool (p x))

-- blanks in front make no word
words_skip : (bs : List ℕ) → words_after [] bs ≡ words_after [] (onward (λ b. not (blank b)) bs)
words_skip [] = refl
words_skip (b ∷ bs) =
    ⊎_elim
    (λ (e : blank b ≡ true). cond-true (blank b) (words_after [] bs) _ e ∙ words_skip bs ∙ ap (words_after []) (sym (cond-false (not (blank b)) (b ∷ bs) _ (not_from_true (blank b) e))))
    (λ (e : blank b ≡ false). ap (words_after []) (sym (cond-true (not (blank b)) (b ∷ bs) _ (not_from_false (blank b) e))))
    (cases_Bool (blank b))

-- what stands before the next blank ends the word that has begun
words_front : (begun bs : List ℕ) → words_after begun bs ≡ with_word (begun ++ before blank bs) (words_after [] (onward blank bs))
words_front begun [] = ap (λ w. with_word w []) (sym (append-nil begun))
words_front begun (b ∷ bs) =
    ⊎_elim (λ (e : blank b ≡ true). rw e (rw e (ap (λ w. with_word w (words_after [] bs)) (sym (append-nil begun)))))
    (λ (e : blank b ≡ false). rw e (words_front (begun ++ (b ∷ [])) bs ∙ ap (λ w. with_word w (words_after [] (onward blank bs))) (append_assoc begun (b ∷ []) (before blank bs))))
    (cases_Bool (blank b))

-- the first word of a text, and the words after it
pub words_split : (text rest : List ℕ) → rest ≡ onward (λ b. not (blank b)) text → words_of text ≡ with_word (before blank rest) (words_of (onward blank rest))
unfolding words_of
words_split text rest e = words_skip text ∙ ap (words_after []) (sym e) ∙ words_front [] rest

no_word : (bs : List ℕ) → length (before blank (onward (λ b. not (blank b)) bs)) ≡ 0 → words_after [] bs ≡ []
no_word [] h = refl
no_word (b ∷ bs) h =
    ⊎_elim
    (λ (e : blank b ≡ true). rw e (no_word bs (ap (λ v. length (before blank (cond (not v) (b ∷ bs) (onward (λ c. not (blank c)) bs)))) (sym e) ∙ h)))
    (λ (e : blank b ≡ false). let z : ◌≡◌ {A = ℕ} 0 1 = absurd (omega (arith, ap (λ v. length (before blank (cond (not v) (b ∷ bs) (onward (λ c. not (blank c)) bs)))) (sym e) ∙ h, ap (λ v. length (cond v [] (b ∷ before blank bs))) e)) in absurd (omega arith))
    (cases_Bool (blank b))

pub words_none : (text rest : List ℕ) → rest ≡ onward (λ b. not (blank b)) text → length (before blank rest) ≡ 0 → words_of text ≡ []
unfolding words_of
words_none text rest e h = no_word text (ap (λ l. length (before blank l)) (sym e) ∙ h)
