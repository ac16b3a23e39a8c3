-- Claims filled in order. Assumes nothing.
use Rattle.std.proofs.Common.{◌≡◌, ℕ, zero, suc, ◌+◌, ◌-◌, ◌<◌, ◌≤◌, min, List, [], ◌∷◌, ◌++◌, length, get_or, take, drop, set, sum, sym, refl, ap, ◌∙◌, subst, arith}
use Rattle.std.proofs.lemmas.List.{append_assoc, append-nil, take_all, take_more_set, at_drop_more, at_drop_all}
use Rattle.std.proofs.lemmas.List.Sums.{sum_by-cons}
use Rattle.std.proofs.lemmas.Bool.Decides.{nat_tests}
use Rattle.units.specs.declared.energy.Energy.{Energy}
use Rattle.sharing.specs.Rules.{turn_of, order_from}
use Rattle.market.specs.Dividing.{energy, energies, kwhs, divided, left_over, unfilled, Filled}

pub sum_cons : (x : ℕ) (xs : List ℕ) → sum (x ∷ xs) ≡ x + sum xs
sum_cons x xs = sum_by-cons (λ y. y) x xs

-- each claim takes what it can of what is left
abbrev pub taken : ℕ → List ℕ → List ℕ
taken m [] = []
taken m (c ∷ cs) = min m c ∷ taken (m - min m c) cs

turn_is : (m c s : ℕ) → turn_of (min m (c + s)) c s ≡ min m c
turn_is m c s = grind (arith, nat_tests)

order_taken : (m : ℕ) (cs : List ℕ) → order_from (min m (sum cs)) cs ≡ taken m cs
order_taken m [] = refl
order_taken m (c ∷ cs) =
    let t = turn_is m c (sum cs) in
    let rest : min m (c + sum cs) - min m c ≡ min (m - min m c) (sum cs) = omega arith in
    ap (λ l. turn_of (min m l) c (sum cs) ∷ order_from (min m l - turn_of (min m l) c (sum cs)) cs) (sum_cons c cs)
    ∙ ap (λ p. p ∷ order_from (min m (c + sum cs) - p) cs) t
    ∙ ap (λ l. min m c ∷ order_from l cs) rest
    ∙ ap (λ l. min m c ∷ l) (order_taken (m - min m c) cs)

pub divided_is : (m : ℕ) (cs : List ℕ) → divided m cs ≡ taken m cs
unfolding divided
divided_is m cs = order_taken m cs

taken_long : (m : ℕ) (cs : List ℕ) → length (taken m cs) ≡ length cs
taken_long m [] = refl
taken_long m (c ∷ cs) = ap suc (taken_long (m - min m c) cs)

taken_sum : (m : ℕ) (cs : List ℕ) → sum (taken m cs) ≡ min m (sum cs)
taken_sum m [] = omega arith
taken_sum m (c ∷ cs) =
    omega (arith, sum_cons (min m c) (taken (m - min m c) cs), sum_cons c cs, taken_sum (m - min m c) cs)

taken_within : (m : ℕ) (cs : List ℕ) (i : ℕ) → get_or (taken m cs) i 0 ≤ get_or cs i 0
taken_within m [] i = omega arith
taken_within m (c ∷ cs) zero = omega arith
taken_within m (c ∷ cs) (suc i) = taken_within (m - min m c) cs i

taken_le : (m : ℕ) (cs : List ℕ) (i : ℕ) → get_or (taken m cs) i 0 ≤ m
taken_le m [] i = omega arith
taken_le m (c ∷ cs) zero = omega arith
taken_le m (c ∷ cs) (suc i) = omega (arith, taken_le (m - min m c) cs i)

taken_order : (m : ℕ) (cs : List ℕ) (i j : ℕ) → i < j → 0 < get_or (taken m cs) j 0 → get_or (taken m cs) i 0 ≡ get_or cs i 0
taken_order m [] i j h k = refl
taken_order m (c ∷ cs) zero zero h k = absurd (omega arith)
taken_order m (c ∷ cs) zero (suc j) h k = omega (arith, taken_le (m - min m c) cs j)
taken_order m (c ∷ cs) (suc i) zero h k = absurd (omega arith)
taken_order m (c ∷ cs) (suc i) (suc j) h k = taken_order (m - min m c) cs i j (omega arith) k

taken_full : (m : ℕ) (cs : List ℕ) → sum cs ≤ m → (i : ℕ) → get_or (taken m cs) i 0 ≡ get_or cs i 0
taken_full m [] h i = refl
taken_full m (c ∷ cs) h zero = omega (arith, sum_cons c cs)
taken_full m (c ∷ cs) h (suc i) = taken_full (m - min m c) cs (omega (arith, sum_cons c cs)) i

taken_filled : (m : ℕ) (cs : List ℕ) → Filled m cs (taken m cs) (left_over m cs) (unfilled m cs)
taken_filled m cs =
    record {
      long = taken_long m cs;
      spent = omega (arith, taken_sum m cs);
      claimed = omega (arith, taken_sum m cs);
      within = taken_within m cs;
      order = taken_order m cs;
      over = λ h i. taken_full m cs (omega arith) i;
    }

pub divided_filled : (m : ℕ) (cs : List ℕ) → Filled m cs (divided m cs) (left_over m cs) (unfilled m cs)
divided_filled m cs = subst (λ ps. Filled m cs ps (left_over m cs) (unfilled m cs)) (sym (divided_is m cs)) (taken_filled m cs)

pub kwhs_energies : (ns : List ℕ) → kwhs (energies ns) ≡ ns
kwhs_energies [] = refl
kwhs_energies (n ∷ ns) = ap (λ l. n ∷ l) (kwhs_energies ns)

-- a loop that fills places from the front
pub places_more : {X : Type 0} (places : List X) (i : ℕ) (v : X) (rest : List X) → i < length places → take (i + 1) (set places i v) ++ rest ≡ take i places ++ (v ∷ rest)
places_more places i v rest h = ap (λ l. l ++ rest) (take_more_set places i v h) ∙ append_assoc (take i places) (v ∷ []) rest

pub places_all : {X : Type 0} (places : List X) (i : ℕ) → length places ≤ i → take i places ++ [] ≡ places
places_all places i h = append-nil (take i places) ∙ take_all i places h

pub sum_drop : (es : List Energy) (i : ℕ) → i < length es → sum (kwhs (drop i es)) ≡ (get_or es i (energy 0)).kwh + sum (kwhs (drop (i + 1) es))
sum_drop es i h = at_drop_more (λ l. sum (kwhs l)) es i (energy 0) h ∙ sum_cons (get_or es i (energy 0)).kwh (kwhs (drop (i + 1) es))

-- one turn of the loop, and its end
pub fill_more : (left : ℕ) (claims places : List Energy) (i p : ℕ) (v : Energy) → i < length claims → i < length places → p ≡ min left (get_or claims i (energy 0)).kwh → v.kwh ≡ p → take (i + 1) (set places i v) ++ energies (taken (left - p) (kwhs (drop (i + 1) claims))) ≡ take i places ++ energies (taken left (kwhs (drop i claims)))
fill_more left claims places i p v h k e is =
    places_more places i v (energies (taken (left - p) (kwhs (drop (i + 1) claims)))) k
    ∙ ap (λ x. take i places ++ (energy x ∷ energies (taken (left - p) (kwhs (drop (i + 1) claims))))) is
    ∙ ap (λ x. take i places ++ (energy x ∷ energies (taken (left - x) (kwhs (drop (i + 1) claims))))) e
    ∙ ap (λ l. take i places ++ l) (sym (at_drop_more (λ l. energies (taken left (kwhs l))) claims i (energy 0) h))

pub fill_all : (left : ℕ) (claims places : List Energy) (i : ℕ) → length claims ≤ i → length places ≤ i → take i places ++ energies (taken left (kwhs (drop i claims))) ≡ places
fill_all left claims places i h k =
    ap (λ l. take i places ++ l) (at_drop_all (λ l. energies (taken left (kwhs l))) claims i h) ∙ places_all places i k
