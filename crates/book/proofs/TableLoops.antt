-- Loops over the contract table, and the places that it finds. Assumes nothing.
use Rattle.std.proofs.Common.{◌≡◌, ℕ, zero, suc, ◌+◌, ◌<◌, ◌≤◌, Bool, true, false, cond, eqb, ltb, List, [], ◌∷◌, length, get_or, drop, set, is_some, Option, Some, None, sym, refl, ap, ◌∙◌, subst, ⊎_elim, arith}
use Rattle.std.specs.List.{insert, sum_by, prefix_len}
use Rattle.std.specs.List.Sorted.{IsPartitionPoint, IsPartitionedBy}
use Rattle.std.proofs.lemmas.List.{at_drop_more}
use Rattle.std.proofs.lemmas.List.Sums.{prefix_len_is, sum_by-cons}
use Rattle.std.proofs.lemmas.Bool.{true≢false, cases_Bool, cond-true, cond-false, eq-eqb, ne_eqb, lt-ltb, le-ltb, ltb-true, and_parts, and_from, cases_order}
use Rattle.market.specs.declared.kinds.Rank.TheVariants.{InProvinceMarket}
use Rattle.book.specs.declared.row.Row.{Row}
use Rattle.units.specs.declared.energy.Energy.{Energy}
use Rattle.book.proofs.RowFacts.{above_head, above_less, number_found, same_above}
use Rattle.book.specs.Rows.{all_above, rising, row_of, place_of, with_row, with_energy, at_energy, plant_sum, contracts_of}

-- ---- the place of a number

pub blank_row : Row
blank_row = record { number = 0; plant = 0; contract = record { rank = InProvinceMarket; energy = record { kwh = 0 }; price = record { micro = 0 } } }

above_at : (m : ℕ) (xs : List Row) (k : ℕ) (d : Row) → all_above m xs ≡ true → k < length xs → m < (get_or xs k d).number
above_at m [] k d a h = absurd (omega arith)
above_at m (c ∷ cs) zero d a h = (above_head m c cs a).0
above_at m (c ∷ cs) (suc k) d a h = above_at m cs k d (above_head m c cs a).1 (omega arith)

-- In a rising list the contracts below a number stand before the others.
pub below_first : (n : ℕ) (xs : List Row) → rising xs ≡ true → IsPartitionedBy (λ (c : Row). ltb c.number n) xs
below_first n [] r i j d le h t = absurd (omega arith)
below_first n (c ∷ cs) r zero zero d le h t = t
below_first n (c ∷ cs) r zero (suc j) d le h t =
    lt-ltb _ _ (omega (arith, above_at c.number cs j d (and_parts _ _ r).0 (omega arith), ltb-true _ _ t))
below_first n (c ∷ cs) r (suc i) zero d le h t = absurd (omega arith)
below_first n (c ∷ cs) r (suc i) (suc j) d le h t = below_first n cs (and_parts _ _ r).1 i j d (omega arith) (omega arith) t

place_prefix : (n : ℕ) (xs : List Row) → place_of n xs ≡ prefix_len (λ (c : Row). ltb c.number n) xs
place_prefix n [] = refl
place_prefix n (c ∷ cs) =
    let ih = place_prefix n cs in
    elim (ltb c.number n) as (λ b. cond b (suc (place_of n cs)) 0 ≡ cond b (1 + prefix_len (λ (c : Row). ltb c.number n) cs) 0)
    [ true ↦ omega arith | false ↦ refl ]

pub place_is : (n : ℕ) (xs : List Row) (i : ℕ) → i ≤ length xs → IsPartitionPoint (λ (c : Row). ltb c.number n ≡ true) (λ (c : Row). ltb c.number n ≡ false) xs i → i ≡ place_of n xs
place_is n xs i h p =
    sym (place_prefix n xs ∙ prefix_len_is (λ (c : Row). ltb c.number n) xs i blank_row h (λ k l. p.0 k blank_row (omega arith) l) (λ l. p.1 i blank_row (omega arith) l))

pub inserted_is : (x : Row) (xs : List Row) → insert xs (place_of x.number xs) x ≡ with_row x xs
inserted_is x [] = refl
inserted_is x (c ∷ cs) =
    elim (ltb c.number x.number) as (λ b. insert (c ∷ cs) (cond b (suc (place_of x.number cs)) 0) x ≡ cond b (c ∷ with_row x cs) (x ∷ c ∷ cs))
    [ true ↦ ap (λ l. c ∷ l) (inserted_is x cs) | false ↦ refl ]

pub inserted_held : (x : Row) (xs ys : List Row) (i : ℕ) (b : Bool) → ys ≡ cond b (insert xs i x) xs → b ≡ true → i ≡ place_of x.number xs → ys ≡ with_row x xs
inserted_held x xs ys i b e t p = e ∙ cond-true b (insert xs i x) xs t ∙ ap (λ j. insert xs j x) p ∙ inserted_is x xs

pub place_within : (n : ℕ) (xs : List Row) → place_of n xs ≤ length xs
place_within n [] = omega arith
place_within n (c ∷ cs) =
    let ih = place_within n cs in
    elim (ltb c.number n) as (λ b. cond b (suc (place_of n cs)) 0 ≤ suc (length cs)) [ true ↦ omega arith | false ↦ omega arith ]

none_from_above : (n : ℕ) (xs : List Row) → all_above n xs ≡ true → row_of n xs ≡ None
none_from_above n [] h = refl
none_from_above n (c ∷ cs) h =
    let p = above_head n c cs h in
    cond-false _ _ _ (ne_eqb c.number n (λ e. omega arith)) ∙ none_from_above n cs p.1

-- where number n stands in a rising list
pub record Standing (n : ℕ) (e : Energy) (d : Row) (xs : List Row) : Type 0 where
  pub within : place_of n xs < length xs
  pub changed : set xs (place_of n xs) (at_energy e (get_or xs (place_of n xs) d)) ≡ with_energy n e xs
  pub named : row_of n xs ≡ Some (get_or xs (place_of n xs) d)

standing_next : (n : ℕ) (e : Energy) (d c : Row) (cs : List Row) → c.number < n → Standing n e d cs → Standing n e d (c ∷ cs)
standing_next n e d c cs l s =
    let t : ltb c.number n ≡ true = lt-ltb _ _ l in
    let u : eqb c.number n ≡ false = ne_eqb _ _ (λ q. omega arith) in
    record {
      within = rw t (omega (arith, s.within));
      changed = rw (t, u) (ap (λ l. c ∷ l) s.changed);
      named = rw (t, u) s.named;
    }

standing_here : (n : ℕ) (e : Energy) (d c : Row) (cs : List Row) → c.number ≡ n → all_above n cs ≡ true → Standing n e d (c ∷ cs)
standing_here n e d c cs q a =
    let t : ltb c.number n ≡ false = le-ltb _ _ (omega arith) in
    let u : eqb c.number n ≡ true = eq-eqb _ _ q in
    record {
      within = rw t (omega arith);
      changed = rw (t, u) (ap (λ l. at_energy e c ∷ l) (sym (same_above n e cs a)));
      named = rw (t, u) refl;
    }

pub standing : (n : ℕ) (e : Energy) (d : Row) (xs : List Row) → rising xs ≡ true → is_some (row_of n xs) ≡ true → Standing n e d xs
standing n e d [] r f = absurd (true≢false (sym f))
standing n e d (c ∷ cs) r f =
    let p = and_parts _ _ r in
    ⊎_elim
    (λ q. standing_here n e d c cs q (subst (λ m. all_above m cs ≡ true) q p.0))
    (⊎_elim
    (λ l. let u = cond-false _ (Some c) (row_of n cs) (ne_eqb c.number n (λ q. omega arith)) in
    standing_next n e d c cs l (standing n e d cs p.1 (sym (ap is_some u) ∙ f)))
    (λ l. let none = none_from_above n (c ∷ cs) (and_from _ _ (lt-ltb _ _ l) (above_less _ _ cs l p.0)) in
    absurd (true≢false (sym f ∙ ap is_some none))))
    (cases_order c.number n)

-- what the code has at the place i that it found, with the contract x that it read there
module _ (n : ℕ) (e : Energy) (xs : List Row) (r : rising xs ≡ true) (f : is_some (row_of n xs) ≡ true) (i : ℕ) (p : i ≡ place_of n xs) where
  pub energy_within : i < length xs
  energy_within = let w = (standing n e blank_row xs r f).within in omega (arith, w)

  pub energy_set : (x : Row) → x ≡ get_or xs i x → set xs i (at_energy e x) ≡ with_energy n e xs
  energy_set x q = ap (λ y. set xs i (at_energy e y)) q ∙ ap (λ j. set xs j (at_energy e (get_or xs j x))) p ∙ (standing n e x xs r f).changed

-- ---- what stands under a number

pub held_at : (n : ℕ) (xs : List Row) (k : ℕ) (d : Row) → k < length xs → (get_or xs k d).number ≡ n → is_some (row_of n xs) ≡ true
held_at n [] k d h e = absurd (omega arith)
held_at n (c ∷ cs) zero d h e = ap is_some (cond-true _ (Some c) (row_of n cs) (eq-eqb c.number n e))
held_at n (c ∷ cs) (suc k) d h e =
    let ih = held_at n cs k d (omega arith) e in
    elim (eqb c.number n) as (λ b. is_some (cond b (Some c) (row_of n cs)) ≡ true) [ true ↦ refl | false ↦ ih ]

-- A number names the contract at its place, where that contract has the number, and no contract where it has not.
pub named_at : (n : ℕ) (xs : List Row) (d : Row) → rising xs ≡ true → place_of n xs < length xs → (get_or xs (place_of n xs) d).number ≡ n → row_of n xs ≡ Some (get_or xs (place_of n xs) d)
named_at n xs d r h e = (standing n record { kwh = 0 } d xs r (held_at n xs (place_of n xs) d h e)).named

none_is : (o : Option Row) → is_some o ≡ false → o ≡ None
none_is None h = refl
none_is (Some x) h = absurd (true≢false h)

pub none_named : (n : ℕ) (xs : List Row) (d : Row) → rising xs ≡ true → (place_of n xs < length xs → (get_or xs (place_of n xs) d).number ≡ n → ⊥) → row_of n xs ≡ None
none_named n xs d r other =
    ⊎_elim
    (λ yes. let s = standing n record { kwh = 0 } d xs r yes in absurd (other s.within (number_found n xs (get_or xs (place_of n xs) d) s.named)))
    (λ no. none_is (row_of n xs) no)
    (cases_Bool (is_some (row_of n xs)))

-- ---- a plant's contracts

module _ (p : ℕ) (xs : List Row) (i : ℕ) (d : Row) (h : i < length xs) where
  pub sum_hit : (get_or xs i d).plant ≡ p → plant_sum p (drop i xs) ≡ (get_or xs i d).contract.energy.kwh + plant_sum p (drop (i + 1) xs)
  sum_hit e = at_drop_more (plant_sum p) xs i d h ∙ ap (λ n. n + plant_sum p (drop (i + 1) xs)) (cond-true _ _ _ (eq-eqb _ _ e))

  pub sum_miss : ((get_or xs i d).plant ≡ p → ⊥) → plant_sum p (drop i xs) ≡ 0 + plant_sum p (drop (i + 1) xs)
  sum_miss e = at_drop_more (plant_sum p) xs i d h ∙ ap (λ n. n + plant_sum p (drop (i + 1) xs)) (cond-false _ _ _ (ne_eqb _ _ e))

pub count_by : (p : ℕ) (xs : List Row) → length (contracts_of p xs) ≡ sum_by (λ (c : Row). cond (eqb c.plant p) 1 0) xs
count_by p [] = refl
count_by p (c ∷ cs) =
    let ih = count_by p cs in
    let own : Row → ℕ = λ x. cond (eqb x.plant p) 1 0 in
    ⊎_elim
    (λ yes. omega (arith, ih, sum_by-cons own c cs, cond-true {A = ℕ} (eqb c.plant p) 1 0 yes, ap length (cond-true (eqb c.plant p) (c.contract ∷ contracts_of p cs) (contracts_of p cs) yes)))
    (λ other. omega (arith, ih, sum_by-cons own c cs, cond-false {A = ℕ} (eqb c.plant p) 1 0 other, ap length (cond-false (eqb c.plant p) (c.contract ∷ contracts_of p cs) (contracts_of p cs) other)))
    (cases_Bool (eqb c.plant p))
