-- The loop that debits the enrolled plants. Assumes nothing.
use Rattle.std.proofs.Common.{◌≡◌, ℕ, suc, ◌+◌, ◌<◌, ◌≤◌, true, false, List, [], ◌∷◌, ◌++◌, length, get_or, take, drop, set, is_some, sym, ap, ◌∙◌, arith, length-set}
use Rattle.std.proofs.lemmas.Bool.{cond-true, cond-false}
use Rattle.std.proofs.lemmas.List.{at_drop_more, take_more, take_more_set, drop_more, drop-set-lt, set-get_or, append_assoc}
use Rattle.book.specs.declared.account.Account.{Account}
use Rattle.book.specs.Accounts.{metered_kwh, metered_claims, debited, debit_of, side_moved}

-- The accounts xs are to pay the parts ps. The first i have paid, which left the accounts ys and the parts rest.
pub record Debiting (xs : List Account) (ps : List ℕ) (i : ℕ) (ys : List Account) (rest : List ℕ) : Type 0 where
  pub long : length ys ≡ length xs
  pub same : drop i ys ≡ drop i xs
  pub enough : length (metered_claims (drop i xs)) ≤ length rest
  pub small : (k : ℕ) → get_or rest k 0 ≤ 100000000
  pub paid : take i ys ++ debited (drop i xs) rest ≡ debited xs ps

module _ (xs : List Account) (ps : List ℕ) (i : ℕ) (ys : List Account) (rest : List ℕ) (d : Account) (s : Debiting xs ps i ys rest) (h : i < length xs) where
  tails : get_or ys i d ∷ drop (i + 1) ys ≡ get_or xs i d ∷ drop (i + 1) xs
  tails = sym (drop_more ys i d (omega (arith, s.long))) ∙ s.same ∙ drop_more xs i d h

  pub unpaid : get_or ys i d ≡ get_or xs i d
  unpaid = let e = tails in cc

  later : drop (i + 1) ys ≡ drop (i + 1) xs
  later = let e = tails in cc

  on : is_some (get_or ys i d).enrolment ≡ true → is_some (get_or xs i d).enrolment ≡ true
  on t = ap (λ (a : Account). is_some a.enrolment) (sym unpaid) ∙ t

  claims : is_some (get_or ys i d).enrolment ≡ true → length (metered_claims (drop (i + 1) xs)) + 1 ≤ length rest
  claims t =
      let one = at_drop_more metered_claims xs i d h ∙ cond-true _ (metered_kwh (get_or xs i d).reading ∷ metered_claims (drop (i + 1) xs)) _ (on t) in
      omega (arith, ap length one, s.enough)

  -- There is a part for each enrolled plant.
  pub part_left : is_some (get_or ys i d).enrolment ≡ true → length rest ≡ 0 → ⊥
  part_left t e = omega (arith, claims t, e)

  pub pays : (p : ℕ) (less : List ℕ) (v : Account) → rest ≡ p ∷ less → is_some (get_or ys i d).enrolment ≡ true → v ≡ side_moved (debit_of p) (get_or ys i d) → Debiting xs ps (i + 1) (set ys i v) less
  pays p less v q t e =
      let after = debited (drop (i + 1) xs) less in
      let step : debited (drop i xs) (p ∷ less) ≡ side_moved (debit_of p) (get_or xs i d) ∷ after = at_drop_more (λ l. debited l (p ∷ less)) xs i d h ∙ cond-true _ _ _ (on t) in
      let whole : debited (drop i xs) rest ≡ v ∷ after = ap (debited (drop i xs)) q ∙ step ∙ ap (λ a. side_moved (debit_of p) a ∷ after) (sym unpaid) ∙ ap (λ a. a ∷ after) (sym e) in
      record {
        long = length-set ys i v ∙ s.long;
        same = drop-set-lt (i + 1) ys i v (omega arith) ∙ later;
        enough = omega (arith, claims t, ap length q);
        small = λ k. omega (arith, ap (λ l. get_or l (suc k) 0) q, s.small (suc k));
        paid = ap (λ l. l ++ after) (take_more_set ys i v (omega (arith, s.long))) ∙ append_assoc (take i ys) (v ∷ []) after ∙ ap (λ r. take i ys ++ r) (sym whole) ∙ s.paid;
      }

  skips_one : is_some (get_or ys i d).enrolment ≡ false → Debiting xs ps (i + 1) ys rest
  skips_one t =
      let off : is_some (get_or xs i d).enrolment ≡ false = ap (λ (a : Account). is_some a.enrolment) (sym unpaid) ∙ t in
      let after = debited (drop (i + 1) xs) rest in
      let none = at_drop_more metered_claims xs i d h ∙ cond-false _ (metered_kwh (get_or xs i d).reading ∷ metered_claims (drop (i + 1) xs)) _ off in
      let whole : debited (drop i xs) rest ≡ get_or ys i d ∷ after = at_drop_more (λ l. debited l rest) xs i d h ∙ cond-false _ _ _ off ∙ ap (λ a. a ∷ after) (sym unpaid) in
      record {
        long = s.long;
        same = later;
        enough = omega (arith, ap length none, s.enough);
        small = s.small;
        paid = ap (λ l. l ++ after) (take_more ys i d (omega (arith, s.long))) ∙ append_assoc (take i ys) (get_or ys i d ∷ []) after ∙ ap (λ r. take i ys ++ r) (sym whole) ∙ s.paid;
      }

  -- The account is written back as it was.
  pub skips : is_some (get_or ys i d).enrolment ≡ false → Debiting xs ps (i + 1) (set ys i (get_or ys i d)) rest
  skips t = rw set-get_or (skips_one t)
