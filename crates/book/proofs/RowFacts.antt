-- Facts on lists of contracts in rising number. Assumes nothing.
use Rattle.std.proofs.Common.{◌≡◌, ℕ, suc, ◌+◌, ◌-◌, ◌<◌, ◌≤◌, true, false, cond, ◌&&◌, eqb, ltb, leb, List, [], ◌∷◌, length, is_some, Some, sym, refl, ap, ◌∙◌, subst, ⊎_elim, arith}
use lib.ListN.{length-map}
use Rattle.std.specs.List.{AllByRecursion}
use Rattle.std.proofs.lemmas.Bool.{true≢false, cond-true, cond-false, cond_both, eqb-true, eq-eqb, ne_eqb, lt-ltb, ltb-true, ltb-false, and_parts, and_from, cases_eq}
use Rattle.units.specs.declared.energy.Energy.{Energy}
use Rattle.market.specs.declared.figures.Contract.{Contract}
use Rattle.market.specs.Figures.{contracted}
use Rattle.book.specs.declared.row.Row.{Row}
use Rattle.book.specs.Rows.{plant_ok, energy_ok, price_ok, row_ok, all_above, rising, row_of, with_row, at_energy, with_energy, plant_sum, energy_in_all, contracts_of, split_off, split_rows}

-- ---- the order

pub above_head : (n : ℕ) (c : Row) (cs : List Row) → all_above n (c ∷ cs) ≡ true → (n < c.number) × (all_above n cs ≡ true)
above_head n c cs h = let p = and_parts (ltb n c.number) (all_above n cs) h in (ltb-true _ _ p.0, p.1)

pub above_less : (m n : ℕ) (xs : List Row) → m < n → all_above n xs ≡ true → all_above m xs ≡ true
above_less m n [] h e = refl
above_less m n (c ∷ cs) h e =
    let p = above_head n c cs e in
    let q : m < c.number = omega (arith, p.0) in
    and_from _ _ (lt-ltb _ _ q) (above_less m n cs h p.1)

above_with : (m : ℕ) (x : Row) (xs : List Row) → m < x.number → all_above m xs ≡ true → all_above m (with_row x xs) ≡ true
above_with m x [] h e = and_from _ _ (lt-ltb _ _ h) refl
above_with m x (c ∷ cs) h e =
    let p = and_parts _ _ e in
    cond_both (ltb c.number x.number) (c ∷ with_row x cs) (x ∷ c ∷ cs) (λ l. all_above m l ≡ true)
    (λ _. and_from _ _ p.0 (above_with m x cs h p.1))
    (λ _. and_from _ _ (lt-ltb _ _ h) e)

-- The first has not the number n, and neither has another.
none_head : (n : ℕ) (c : Row) (cs : List Row) → is_some (row_of n (c ∷ cs)) ≡ false → (c.number ≡ n → ⊥) × (is_some (row_of n cs) ≡ false)
none_head n c cs e =
    ⊎_elim
    (λ q. absurd (true≢false (sym (ap is_some (cond-true _ (Some c) (row_of n cs) (eq-eqb _ _ q))) ∙ e)))
    (λ q. (q, sym (ap is_some (cond-false _ (Some c) (row_of n cs) (ne_eqb _ _ q))) ∙ e))
    (cases_eq c.number n)

pub rising_with : (x : Row) (xs : List Row) → rising xs ≡ true → is_some (row_of x.number xs) ≡ false → rising (with_row x xs) ≡ true
rising_with x [] r e = refl
rising_with x (c ∷ cs) r e =
    let p = and_parts _ _ r in
    let q = none_head x.number c cs e in
    let other = q.0 in
    cond_both (ltb c.number x.number) (c ∷ with_row x cs) (x ∷ c ∷ cs) (λ l. rising l ≡ true)
    (λ t. and_from _ _ (above_with c.number x cs (ltb-true _ _ t) p.0) (rising_with x cs p.1 q.1))
    (λ t. let h : x.number < c.number = omega (arith, ltb-false _ _ t) in
    and_from _ _ (and_from _ _ (lt-ltb _ _ h) (above_less _ _ cs h p.0)) r)

above_energy : (m n : ℕ) (e : Energy) (xs : List Row) → all_above m (with_energy n e xs) ≡ all_above m xs
above_energy m n e [] = refl
above_energy m n e (c ∷ cs) =
    elim (eqb c.number n) as (λ b. (ltb m (cond b (at_energy e c) c).number && all_above m (with_energy n e cs)) ≡ (ltb m c.number && all_above m cs))
    [ true ↦ ap (λ b. ltb m c.number && b) (above_energy m n e cs) | false ↦ ap (λ b. ltb m c.number && b) (above_energy m n e cs) ]

pub rising_energy : (n : ℕ) (e : Energy) (xs : List Row) → rising (with_energy n e xs) ≡ rising xs
rising_energy n e [] = refl
rising_energy n e (c ∷ cs) =
    let both : (all_above c.number (with_energy n e cs) && rising (with_energy n e cs)) ≡ (all_above c.number cs && rising cs) =
    ap (λ b. b && rising (with_energy n e cs)) (above_energy c.number n e cs) ∙ ap (λ b. all_above c.number cs && b) (rising_energy n e cs) in
    elim (eqb c.number n) as (λ b. (all_above (cond b (at_energy e c) c).number (with_energy n e cs) && rising (with_energy n e cs)) ≡ (all_above c.number cs && rising cs))
    [ true ↦ both | false ↦ both ]

same_names : (m n : ℕ) (e : Energy) (cs : List Row) → is_some (row_of m (with_energy n e cs)) ≡ is_some (row_of m cs)
same_names m n e [] = refl
same_names m n e (c ∷ cs) =
    elim (eqb c.number n) as (λ b. is_some (cond (eqb (cond b (at_energy e c) c).number m) (Some (cond b (at_energy e c) c)) (row_of m (with_energy n e cs))) ≡ is_some (cond (eqb c.number m) (Some c) (row_of m cs))) [
      | true ↦ elim (eqb c.number m) as (λ b. is_some (cond b (Some (at_energy e c)) (row_of m (with_energy n e cs))) ≡ is_some (cond b (Some c) (row_of m cs))) [ true ↦ refl | false ↦ same_names m n e cs ]
      | false ↦ elim (eqb c.number m) as (λ b. is_some (cond b (Some c) (row_of m (with_energy n e cs))) ≡ is_some (cond b (Some c) (row_of m cs))) [ true ↦ refl | false ↦ same_names m n e cs ]
    ]

-- Another energy makes no new number.
pub still_fresh : (m n : ℕ) (e : Energy) (cs : List Row) → is_some (row_of m cs) ≡ false → is_some (row_of m (with_energy n e cs)) ≡ false
still_fresh m n e cs h = same_names m n e cs ∙ h

pub length_with : (x : Row) (xs : List Row) → length (with_row x xs) ≡ suc (length xs)
length_with x [] = refl
length_with x (c ∷ cs) =
    cond_both (ltb c.number x.number) (c ∷ with_row x cs) (x ∷ c ∷ cs) (λ l. length l ≡ suc (suc (length cs)))
    (λ _. ap suc (length_with x cs))
    (λ _. refl)

pub length_energy : (n : ℕ) (e : Energy) (cs : List Row) → length (with_energy n e cs) ≡ length cs
length_energy n e cs = length-map cs _

-- ---- what holds of each contract

pub all_with : (P : Row → Type 0) (x : Row) (xs : List Row) → P x → AllByRecursion P xs → AllByRecursion P (with_row x xs)
all_with P x [] h a = (h, tt)
all_with P x (c ∷ cs) h a =
    cond_both (ltb c.number x.number) (c ∷ with_row x cs) (x ∷ c ∷ cs) (AllByRecursion P)
    (λ _. (a.0, all_with P x cs h a.1))
    (λ _. (h, a))

pub all_energy : (P : Row → Type 0) (n : ℕ) (e : Energy) (xs : List Row) → ((c : Row) → P c → P (at_energy e c)) → AllByRecursion P xs → AllByRecursion P (with_energy n e xs)
all_energy P n e [] k a = tt
all_energy P n e (c ∷ cs) k a =
    (cond_both (eqb c.number n) (at_energy e c) c P (λ _. k c a.0) (λ _. a.0), all_energy P n e cs k a.1)

some_inner : {X : Type 0} (x y : X) → Some x ≡ Some y → x ≡ y
some_inner x y e = cc

found_in : (P : Row → Type 0) (n : ℕ) (xs : List Row) (c : Row) → AllByRecursion P xs → row_of n xs ≡ Some c → P c × (c.number ≡ n)
found_in P n [] c a f = let z : ◌≡◌ {A = ℕ} 0 1 = cc in absurd (omega arith)
found_in P n (x ∷ xs) c a f =
    ⊎_elim
    (λ q. let same : x ≡ c = some_inner x c (sym (cond-true _ (Some x) (row_of n xs) (eq-eqb _ _ q)) ∙ f) in
    (subst P same a.0, ap (λ (y : Row). y.number) (sym same) ∙ q))
    (λ q. found_in P n xs c a.1 (sym (cond-false _ (Some x) (row_of n xs) (ne_eqb _ _ q)) ∙ f))
    (cases_eq x.number n)

pub all_found : (P : Row → Type 0) (n : ℕ) (xs : List Row) (c : Row) → AllByRecursion P xs → row_of n xs ≡ Some c → P c
all_found P n xs c a f = (found_in P n xs c a f).0

nothing : (xs : List Row) → AllByRecursion (λ _. Unit {0}) xs
nothing [] = tt
nothing (x ∷ xs) = (tt, nothing xs)

pub number_found : (n : ℕ) (xs : List Row) (c : Row) → row_of n xs ≡ Some c → c.number ≡ n
number_found n xs c f = (found_in (λ _. Unit {0}) n xs c (nothing xs) f).1

pub ok_energy : (e : Energy) (c : Row) → energy_ok e ≡ true → row_ok c ≡ true → row_ok (at_energy e c) ≡ true
ok_energy e c l h =
    let all = and_parts (leb 1 c.number && plant_ok c.plant && energy_ok c.contract.energy) (price_ok c.contract.price) h in
    let front = and_parts (leb 1 c.number && plant_ok c.plant) (energy_ok c.contract.energy) all.0 in
    and_from _ _ (and_from _ _ front.0 l) all.1

-- ---- sums over the contracts, of any number that each has

abbrev pub total : (Row → ℕ) → List Row → ℕ
total w [] = 0
total w (c ∷ cs) = w c + total w cs

abbrev pub kwh_of : Row → ℕ
kwh_of c = c.contract.energy.kwh

abbrev pub share_of : ℕ → Row → ℕ
share_of p c = cond (eqb c.plant p) c.contract.energy.kwh 0

pub plant_total : (p : ℕ) (xs : List Row) → plant_sum p xs ≡ total (share_of p) xs
plant_total p [] = refl
plant_total p (c ∷ cs) = ap (λ n. share_of p c + n) (plant_total p cs)

pub all_total : (xs : List Row) → energy_in_all xs ≡ total kwh_of xs
all_total [] = refl
all_total (c ∷ cs) = ap (λ n. kwh_of c + n) (all_total cs)

pub total_with : (w : Row → ℕ) (x : Row) (xs : List Row) → total w (with_row x xs) ≡ w x + total w xs
total_with w x [] = refl
total_with w x (c ∷ cs) =
    let ih = total_with w x cs in
    cond_both (ltb c.number x.number) (c ∷ with_row x cs) (x ∷ c ∷ cs) (λ l. total w l ≡ w x + (w c + total w cs))
    (λ _. omega (arith, ih))
    (λ _. refl)

pub same_above : (n : ℕ) (e : Energy) (xs : List Row) → all_above n xs ≡ true → with_energy n e xs ≡ xs
same_above n e [] h = refl
same_above n e (c ∷ cs) h =
    let p = above_head n c cs h in
    let t : eqb c.number n ≡ false = ne_eqb c.number n (λ e. omega arith) in
    ap (λ y. y ∷ with_energy n e cs) (cond-false _ (at_energy e c) c t) ∙ ap (λ l. c ∷ l) (same_above n e cs p.1)

pub total_energy : (w : Row → ℕ) (n : ℕ) (e : Energy) (xs : List Row) (c : Row) → rising xs ≡ true → row_of n xs ≡ Some c → total w (with_energy n e xs) + w c ≡ total w xs + w (at_energy e c)
total_energy w n e [] c r f = let z : ◌≡◌ {A = ℕ} 0 1 = cc in absurd (omega arith)
total_energy w n e (x ∷ xs) c r f =
    let both = and_parts (all_above x.number xs) (rising xs) r in
    ⊎_elim
    (λ q. let t : eqb x.number n ≡ true = eq-eqb _ _ q in
    let xc : x ≡ c = some_inner x c (sym (cond-true _ (Some x) (row_of n xs) t) ∙ f) in
    let rest = ap (total w) (same_above n e xs (subst (λ m. all_above m xs ≡ true) q both.0)) in
    let head = ap w (cond-true _ (at_energy e x) x t) in
    let a = ap w xc in
    let b = ap (λ y. w (at_energy e y)) xc in
    omega (arith, rest, head, a, b))
    (λ q. let t : eqb x.number n ≡ false = ne_eqb _ _ q in
    let ih = total_energy w n e xs c both.1 (sym (cond-false _ (Some x) (row_of n xs) t) ∙ f) in
    let head = ap w (cond-false _ (at_energy e x) x t) in
    omega (arith, ih, head))
    (cases_eq x.number n)

-- ---- the energy of a plant's contracts, and of all

pub share_own : (p : ℕ) (c : Row) → c.plant ≡ p → share_of p c ≡ kwh_of c
share_own p c q = cond-true _ (kwh_of c) 0 (eq-eqb c.plant p q)

pub share_other : (p : ℕ) (c : Row) → (c.plant ≡ p → ⊥) → share_of p c ≡ 0
share_other p c q = cond-false _ (kwh_of c) 0 (ne_eqb c.plant p q)

pub plant_with : (p : ℕ) (x : Row) (xs : List Row) → plant_sum p (with_row x xs) ≡ share_of p x + plant_sum p xs
plant_with p x xs = plant_total p (with_row x xs) ∙ total_with (share_of p) x xs ∙ ap (λ n. share_of p x + n) (sym (plant_total p xs))

pub in_all_with : (x : Row) (xs : List Row) → energy_in_all (with_row x xs) ≡ kwh_of x + energy_in_all xs
in_all_with x xs = all_total (with_row x xs) ∙ total_with kwh_of x xs ∙ ap (λ n. kwh_of x + n) (sym (all_total xs))

pub plant_energy : (p n : ℕ) (e : Energy) (xs : List Row) (c : Row) → rising xs ≡ true → row_of n xs ≡ Some c → plant_sum p (with_energy n e xs) + share_of p c ≡ plant_sum p xs + share_of p (at_energy e c)
plant_energy p n e xs c r f = omega (arith, plant_total p (with_energy n e xs), plant_total p xs, total_energy (share_of p) n e xs c r f)

pub in_all_energy : (n : ℕ) (e : Energy) (xs : List Row) (c : Row) → rising xs ≡ true → row_of n xs ≡ Some c → energy_in_all (with_energy n e xs) + kwh_of c ≡ energy_in_all xs + e.kwh
in_all_energy n e xs c r f = omega (arith, all_total (with_energy n e xs), all_total xs, total_energy kwh_of n e xs c r f)

-- Another energy leaves the sum of each other plant.
pub plant_energy_other : (p n : ℕ) (e : Energy) (xs : List Row) (c : Row) → rising xs ≡ true → row_of n xs ≡ Some c → (c.plant ≡ p → ⊥) → plant_sum p (with_energy n e xs) ≡ plant_sum p xs
plant_energy_other p n e xs c r f q =
    omega (arith, plant_energy p n e xs c r f, share_other p c q, share_other p (at_energy e c) q)

-- ---- limits of the plants' sums

pub limit_with : (x : Row) (xs : List Row) → ((p : ℕ) → plant_sum p xs ≤ 3000000000) → plant_sum x.plant xs + kwh_of x ≤ 3000000000 → (p : ℕ) → plant_sum p (with_row x xs) ≤ 3000000000
limit_with x xs all one p =
    let s = plant_with p x xs in
    ⊎_elim
    (λ q. let u = ap (λ k. plant_sum k xs) q in omega (arith, s, share_own p x q, u, one))
    (λ q. omega (arith, s, share_other p x q, all p))
    (cases_eq x.plant p)

pub limit_energy : (n : ℕ) (e : Energy) (xs : List Row) (c : Row) → rising xs ≡ true → row_of n xs ≡ Some c → ((p : ℕ) → plant_sum p xs ≤ 3000000000) → plant_sum c.plant (with_energy n e xs) ≤ 3000000000 → (p : ℕ) → plant_sum p (with_energy n e xs) ≤ 3000000000
limit_energy n e xs c r f all one p =
    ⊎_elim
    (λ q. let u = ap (λ k. plant_sum k (with_energy n e xs)) q in omega (arith, u, one))
    (λ q. omega (arith, plant_energy_other p n e xs c r f q, all p))
    (cases_eq c.plant p)

-- ---- a transfer

module _ (n p : ℕ) (e : Energy) (c : Row) (cs : List Row) (r : rising cs ≡ true) (f : row_of c.number cs ≡ Some c) where
  split_total : (w : Row → ℕ) → total w (split_rows n p e c cs) + w c ≡ w (split_off n p e c) + (total w cs + w (at_energy record { kwh = kwh_of c - e.kwh } c))
  split_total w =
      let less : Energy = record { kwh = kwh_of c - e.kwh } in
      omega (arith, total_with w (split_off n p e c) (with_energy c.number less cs), total_energy w c.number less cs c r f)

  -- Energy is moved, and none is made or lost.
  pub split_in_all : e.kwh ≤ kwh_of c → energy_in_all (split_rows n p e c cs) ≡ energy_in_all cs
  split_in_all h = omega (arith, all_total (split_rows n p e c cs), all_total cs, split_total kwh_of)

  -- The sum of any plant but the receiver does not grow.
  pub split_other : (q : ℕ) → (p ≡ q → ⊥) → plant_sum q (split_rows n p e c cs) ≤ plant_sum q cs
  split_other q apart =
      let less : Energy = record { kwh = kwh_of c - e.kwh } in
      let s = split_total (share_of q) in
      let a = plant_total q (split_rows n p e c cs) in
      let b = plant_total q cs in
      let none = share_other q (split_off n p e c) apart in
      ⊎_elim
      (λ h. omega (arith, s, a, b, none, share_own q c h, share_own q (at_energy less c) h))
      (λ h. omega (arith, s, a, b, none, share_other q c h, share_other q (at_energy less c) h))
      (cases_eq c.plant q)

  pub limit_split : ((q : ℕ) → plant_sum q cs ≤ 3000000000) → plant_sum p (split_rows n p e c cs) ≤ 3000000000 → (q : ℕ) → plant_sum q (split_rows n p e c cs) ≤ 3000000000
  limit_split all one q =
      ⊎_elim
      (λ h. let u = ap (λ k. plant_sum k (split_rows n p e c cs)) h in omega (arith, u, one))
      (λ h. omega (arith, split_other q h, all q))
      (cases_eq p q)

-- ---- a plant's contracts

pub contracted_of : (p : ℕ) (xs : List Row) → plant_sum p xs ≡ contracted (contracts_of p xs)
contracted_of p [] = refl
contracted_of p (c ∷ cs) =
    let ih = contracted_of p cs in
    elim (eqb c.plant p) as (λ b. cond b c.contract.energy.kwh 0 + plant_sum p cs ≡ contracted (cond b (c.contract ∷ contracts_of p cs) (contracts_of p cs)))
    [ true ↦ omega (arith, ih) | false ↦ omega (arith, ih) ]

pub length_contracts : (p : ℕ) (xs : List Row) → length (contracts_of p xs) ≤ length xs
length_contracts p [] = omega arith
length_contracts p (c ∷ cs) =
    let ih = length_contracts p cs in
    elim (eqb c.plant p) as (λ b. length (cond b (c.contract ∷ contracts_of p cs) (contracts_of p cs)) ≤ suc (length cs))
    [ true ↦ omega (arith, ih) | false ↦ omega (arith, ih) ]

-- What holds of each contract that plant p holds.
pub all_contracts : (P : Contract → Type 0) (p : ℕ) (xs : List Row) → AllByRecursion (λ (c : Row). c.plant ≡ p → P c.contract) xs → AllByRecursion P (contracts_of p xs)
all_contracts P p [] a = tt
all_contracts P p (c ∷ cs) a =
    cond_both (eqb c.plant p) (c.contract ∷ contracts_of p cs) (contracts_of p cs) (AllByRecursion P)
    (λ t. (a.0 (eqb-true _ _ t), all_contracts P p cs a.1))
    (λ _. all_contracts P p cs a.1)
