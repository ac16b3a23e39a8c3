-- Stretches of bytes, and the words and lines that they make up. Assumes nothing.
use Rattle.std.specs.Prelude.{ℕ, Bool, cond, ◌||◌, List, [], ◌∷◌, ◌++◌, ◌==◌, nat_eq}

-- A space, a tab or a carriage return stands between words.
unfoldable pub blank : ℕ → Bool
blank b = b == 32 || b == 9 || b == 13

-- The stretch before the first byte that passes a test, and the bytes from there on.
abbrev pub before : (ℕ → Bool) → List ℕ → List ℕ
before p [] = []
before p (b ∷ bs) = cond (p b) [] (b ∷ before p bs)

abbrev pub onward : (ℕ → Bool) → List ℕ → List ℕ
onward p [] = []
onward p (b ∷ bs) = cond (p b) (b ∷ bs) (onward p bs)

-- A word put before others, unless it is empty.
abbrev pub with_word : List ℕ → List (List ℕ) → List (List ℕ)
with_word [] rest = rest
with_word (b ∷ bs) rest = (b ∷ bs) ∷ rest

-- The words of a text, where one has begun with the bytes given.
abbrev pub words_after : List ℕ → List ℕ → List (List ℕ)
words_after begun [] = with_word begun []
words_after begun (b ∷ bs) = cond (blank b) (with_word begun (words_after [] bs)) (words_after (begun ++ (b ∷ [])) bs)

-- The words of a text: its longest stretches with no blank.
unfoldable pub words_of : List ℕ → List (List ℕ)
words_of bytes = words_after [] bytes

-- The first line of a text, without the newline that ends it, and the text after that newline.
abbrev pub line_of : List ℕ → List ℕ
line_of text = before (λ b. nat_eq b 10) text

abbrev pub without_first : List ℕ → List ℕ
without_first [] = []
without_first (b ∷ bs) = bs

abbrev pub after_line : List ℕ → List ℕ
after_line text = without_first (onward (λ b. nat_eq b 10) text)
