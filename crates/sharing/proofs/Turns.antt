-- One turn of each loop over claims, and its end: what the loops' invariants say from step to step. Assumes nothing.
use Rattle.std.proofs.Common.{◌≡◌, ℕ, ◌+◌, ◌-◌, ◌<◌, ◌≤◌, true, ◌||◌, List, [], ◌∷◌, ◌++◌, length, get_or, take, drop, set, sum, Some, sym, ap, ◌∙◌, arith}
use Rattle.std.proofs.lemmas.List.{append_assoc, append-nil, at_drop_all, at_drop_more, take_all, take_more_set}
use Rattle.std.proofs.lemmas.Bool.{le-ltb, lt-ltb, or_left}
use Rattle.std.proofs.lemmas.Bool.Decides.{nat_tests}
use Rattle.sharing.specs.declared.refusal.Refusal.TheVariants.{Lengths}
use Rattle.sharing.specs.Questions.{any_above, declined}
use Rattle.sharing.specs.Rules.{order_from, ratio_from, running_floor, turn_of}

-- places that are filled from the front
pub places_more : (places : List ℕ) (i v : ℕ) (rest : List ℕ) → i < length places → take (i + 1) (set places i v) ++ rest ≡ take i places ++ (v ∷ rest)
places_more places i v rest h = ap (λ l. l ++ rest) (take_more_set places i v h) ∙ append_assoc (take i places) (v ∷ []) rest

pub places_all : (places : List ℕ) (i : ℕ) → length places ≤ i → take i places ++ [] ≡ places
places_all places i h = append-nil (take i places) ∙ take_all i places h

-- filled by equal ratio
pub ratio_more : (w t s : ℕ) (claims places : List ℕ) (i v : ℕ) → i < length claims → i < length places → v ≡ running_floor w t (s + get_or claims i 0) - running_floor w t s → take (i + 1) (set places i v) ++ ratio_from w t (s + get_or claims i 0) (drop (i + 1) claims) ≡ take i places ++ ratio_from w t s (drop i claims)
ratio_more w t s claims places i v h k e =
    places_more places i v (ratio_from w t (s + get_or claims i 0) (drop (i + 1) claims)) k
    ∙ ap (λ x. take i places ++ (x ∷ ratio_from w t (s + get_or claims i 0) (drop (i + 1) claims))) e
    ∙ ap (λ l. take i places ++ l) (sym (at_drop_more (ratio_from w t s) claims i 0 h))

pub ratio_all : (w t s : ℕ) (claims places : List ℕ) (i : ℕ) → length claims ≤ i → length places ≤ i → take i places ++ ratio_from w t s (drop i claims) ≡ places
ratio_all w t s claims places i h k = ap (λ l. take i places ++ l) (at_drop_all (ratio_from w t s) claims i h) ∙ places_all places i k

-- filled in order
pub order_more : (left rest : ℕ) (claims places : List ℕ) (i v : ℕ) → i < length claims → i < length places → rest ≡ sum (drop (i + 1) claims) → v ≡ turn_of left (get_or claims i 0) rest → take (i + 1) (set places i v) ++ order_from (left - v) (drop (i + 1) claims) ≡ take i places ++ order_from left (drop i claims)
order_more left rest claims places i v h k r e =
    let same : v ≡ turn_of left (get_or claims i 0) (sum (drop (i + 1) claims)) = e ∙ ap (turn_of left (get_or claims i 0)) r in
    places_more places i v (order_from (left - v) (drop (i + 1) claims)) k
    ∙ ap (λ x. take i places ++ (x ∷ order_from (left - x) (drop (i + 1) claims))) same
    ∙ ap (λ l. take i places ++ l) (sym (at_drop_more (order_from left) claims i 0 h))

pub order_all : (left : ℕ) (claims places : List ℕ) (i : ℕ) → length claims ≤ i → length places ≤ i → take i places ++ order_from left (drop i claims) ≡ places
order_all left claims places i h k = ap (λ l. take i places ++ l) (at_drop_all (order_from left) claims i h) ∙ places_all places i k

-- claims above a limit: one is found, or it is passed
pub above_at : (m : ℕ) (xs : List ℕ) (i : ℕ) → i < length xs → m < get_or xs i 0 → any_above m (drop i xs) ≡ true
above_at m xs i h e = at_drop_more (any_above m) xs i 0 h ∙ or_left _ _ (lt-ltb _ _ e)

pub above_past : (m : ℕ) (xs : List ℕ) (i : ℕ) → i < length xs → get_or xs i 0 ≤ m → any_above m (drop (i + 1) xs) ≡ any_above m (drop i xs)
above_past m xs i h e =
    sym (at_drop_more (any_above m) xs i 0 h ∙ ap (λ b. b || any_above m (drop (i + 1) xs)) (le-ltb _ _ e))

-- more places than a share may have
pub too_many : (claims : List ℕ) (total places : ℕ) → 256 < places → declined claims total places ≡ Some Lengths
unfolding declined
too_many claims total places h = grind (arith, nat_tests)
