-- Facts on the accounts of the plants. Assumes nothing.
use Rattle.std.proofs.Common.{◌≡◌, ℕ, zero, suc, ◌+◌, ◌-◌, ◌*◌, ◌<◌, ◌≤◌, true, false, ltb, List, [], ◌∷◌, map, length, get_or, drop, set, replicate, ℤ, pos, ◌+ℤ◌, ◌-ℤ◌, neg_ℤ, nat_abs, ◌≤ℤ◌, ◌<ℤ◌, is_some, Some, None, sum, Option, sym, refl, ap, ◌∙◌, ⊎_elim, arith, length-set}
use Rattle.std.specs.List.{AllByRecursion}
use Rattle.std.proofs.ByRecursion.{All-get_or, All-set, All-map, All-weaker}
use Rattle.std.proofs.lemmas.List.{get_or-set_same, get_or-set_other}
use Rattle.std.proofs.lemmas.Int.{ints}
use Rattle.std.proofs.lemmas.List.Sums.{sum_by-cons}
use Rattle.std.proofs.lemmas.Bool.{true≢false, false≢true, cond-true, cond-false, cond_both, and_parts, or_parts, or_cases, not-false, ltb-true, leb-true, cases_eq, cases_Bool}
use Rattle.units.specs.declared.price.Price.{Price}
use Rattle.units.specs.Payments.{split, most_net, most_carry}
use Rattle.units.proofs.Paying.{split_paid}
use Rattle.market.specs.declared.kinds.Class.{Class}
use Rattle.market.specs.declared.kinds.Rank.{Rank}
use Rattle.book.specs.declared.account.Account.{Account}
use Rattle.book.specs.declared.account.Enrolment.{Enrolment}
use Rattle.book.specs.declared.account.Reading.{Reading}
use Rattle.book.specs.declared.row.Row.{Row}
use Rattle.book.specs.Accounts.{blank, account_of, with_account, is_enrolled, metered_kwh, enrolled_as, with_reading, with_side, side_moved, issued_at, issued_net, closed_at, turned, any_account, has_generated, is_past_side_limit, metered_claims, debit_of, debited, compensated, sides, may_be_held}
use Rattle.book.specs.Calls.{fee_paid}
use Rattle.book.specs.Sound.{Fair}

-- ---- what stands under a number

pub account_same : (p : ℕ) (f : Account → Account) (xs : List Account) → p - 1 < length xs → account_of p (with_account p f xs) ≡ f (account_of p xs)
account_same p f xs h = get_or-set_same xs (p - 1) (f (account_of p xs)) blank h

pub account_other : (p q : ℕ) (f : Account → Account) (xs : List Account) → 1 ≤ p → 1 ≤ q → (p ≡ q → ⊥) → account_of p (with_account q f xs) ≡ account_of p xs
account_other p q f xs hp hq ne = get_or-set_other xs (q - 1) (p - 1) (f (account_of q xs)) blank (λ e. ne (omega arith))

pub fair_at : (p : ℕ) (xs : List Account) → p - 1 < length xs → AllByRecursion Fair xs → Fair (account_of p xs)
fair_at p xs h a = All-get_or Fair xs (p - 1) blank h a

pub fair_with : (p : ℕ) (f : Account → Account) (xs : List Account) → Fair (f (account_of p xs)) → AllByRecursion Fair xs → AllByRecursion Fair (with_account p f xs)
fair_with p f xs h a = All-set Fair xs (p - 1) (f (account_of p xs)) h a

pub length_account : (p : ℕ) (f : Account → Account) (xs : List Account) → length (with_account p f xs) ≡ length xs
length_account p f xs = length-set xs (p - 1) (f (account_of p xs))

-- ---- the classes of the contracts' holders

abbrev pub Owned : List Account → List Row → Type 0
Owned xs rows = AllByRecursion (λ (c : Row). may_be_held (account_of c.plant xs).enrolment c.contract.rank ≡ true) rows

-- What h reads of each account is the same in both lists.
abbrev pub Same : {X : Type 0} → (Account → X) → List Account → List Account → Type 0
Same h xs ys = (i : ℕ) → h (get_or ys i blank) ≡ h (get_or xs i blank)

abbrev pub enrolment_of : Account → Option Enrolment
enrolment_of a = a.enrolment

pub owned_same : (xs ys : List Account) (rows : List Row) → Same enrolment_of xs ys → Owned xs rows → Owned ys rows
owned_same xs ys [] s o = tt
owned_same xs ys (c ∷ cs) s o = (ap (λ e. may_be_held e c.contract.rank) (s (c.plant - 1)) ∙ o.0, owned_same xs ys cs s o.1)

same_set : {X : Type 0} (h : Account → X) (xs : List Account) (i : ℕ) (y : Account) → h y ≡ h (get_or xs i blank) → Same h xs (set xs i y)
same_set h [] i y e j = refl
same_set h (x ∷ xs) zero y e zero = e
same_set h (x ∷ xs) zero y e (suc j) = refl
same_set h (x ∷ xs) (suc i) y e zero = refl
same_set h (x ∷ xs) (suc i) y e (suc j) = same_set h xs i y e j

pub same_with : {X : Type 0} (h : Account → X) (p : ℕ) (f : Account → Account) (xs : List Account) → h (f (account_of p xs)) ≡ h (account_of p xs) → Same h xs (with_account p f xs)
same_with h p f xs e = same_set h xs (p - 1) (f (account_of p xs)) e

none_holds : (o : Option Enrolment) (r : Rank) → is_some o ≡ false → may_be_held o r ≡ true → ⊥
none_holds None r e h = true≢false (sym h)
none_holds (Some x) r e h = true≢false e

-- A plant that is not enrolled holds nothing, so whatever is done to its account leaves the others' contracts held.
pub owned_enrol : (p : ℕ) (f : Account → Account) (xs : List Account) (rows : List Row) → is_enrolled (account_of p xs) ≡ false → Owned xs rows → Owned (with_account p f xs) rows
owned_enrol p f xs [] none o = tt
owned_enrol p f xs (c ∷ cs) none o = (
  ⊎_elim
      (λ q. absurd (none_holds (account_of p xs).enrolment c.contract.rank none (ap (λ i. may_be_held (get_or xs i blank).enrolment c.contract.rank) (sym q) ∙ o.0)))
      (λ q. ap (λ (a : Account). may_be_held a.enrolment c.contract.rank) (get_or-set_other xs (p - 1) (c.plant - 1) (f (account_of p xs)) blank q) ∙ o.0)
      (cases_eq (c.plant - 1) (p - 1)),
  owned_enrol p f xs cs none o.1,
)

-- ---- side balances

pub sides_set : (xs : List Account) (i : ℕ) (y : Account) → i < length xs → sides (set xs i y) +ℤ (get_or xs i blank).side.count ≡ sides xs +ℤ y.side.count
sides_set [] i y h = absurd (omega arith)
sides_set (x ∷ xs) zero y h = omega (arith, ints)
sides_set (x ∷ xs) (suc i) y h = let ih = sides_set xs i y (omega arith) in omega (arith, ints, ih)

pub sides_kept : (p : ℕ) (f : Account → Account) (xs : List Account) → p - 1 < length xs → (f (account_of p xs)).side.count ≡ (account_of p xs).side.count → sides (with_account p f xs) ≡ sides xs
sides_kept p f xs h e = omega (arith, ints, sides_set xs (p - 1) (f (account_of p xs)) h, e)

pub sides_moved : (p : ℕ) (z : ℤ) (xs : List Account) → p - 1 < length xs → sides (with_account p (side_moved z) xs) ≡ sides xs +ℤ z
sides_moved p z xs h = omega (arith, ints, sides_set xs (p - 1) (side_moved z (account_of p xs)) h)

pub sides_turned : (xs : List Account) → sides (map turned xs) ≡ pos 0
sides_turned [] = refl
sides_turned (x ∷ xs) = omega (arith, ints, sides_turned xs)

pub sides_blank : (n : ℕ) → sides (replicate n blank) ≡ pos 0
sides_blank zero = refl
sides_blank (suc n) = omega (arith, ints, sides_blank n)

-- ---- fees

-- What does not read side balances is the same after a fee.
pub same_fee : {X : Type 0} (h : Account → X) → ((z : ℤ) (a : Account) → h (side_moved z a) ≡ h a) → (from to : ℕ) (z : ℤ) (xs : List Account) → Same h xs (fee_paid from to z xs)
same_fee h moved from to z xs i =
    let mid = with_account to (side_moved z) xs in
    same_with h from (side_moved (neg_ℤ z)) mid (moved (neg_ℤ z) (account_of from mid)) i ∙ same_with h to (side_moved z) xs (moved z (account_of to xs)) i

pub sides_fee : (from to : ℕ) (z : ℤ) (xs : List Account) → from - 1 < length xs → to - 1 < length xs → sides (fee_paid from to z xs) ≡ sides xs
sides_fee from to z xs h k =
    let mid = with_account to (side_moved z) xs in
    omega (arith, ints, sides_moved from (neg_ℤ z) mid (omega (arith, length_account to (side_moved z) xs)), sides_moved to z xs k)

-- ---- debits

pub debited_length : (xs : List Account) (ps : List ℕ) → length (debited xs ps) ≡ length xs
debited_length [] ps = refl
debited_length (a ∷ xs) ps =
    cond_both (is_enrolled a) (side_moved (debit_of (get_or ps 0 0)) a ∷ debited xs (drop 1 ps)) (a ∷ debited xs ps) (λ l. length l ≡ suc (length xs))
    (λ _. ap suc (debited_length xs (drop 1 ps)))
    (λ _. ap suc (debited_length xs ps))

-- What does not read side balances is the same after debits.
pub same_debited : {X : Type 0} (h : Account → X) → ((z : ℤ) (a : Account) → h (side_moved z a) ≡ h a) → (xs : List Account) (ps : List ℕ) → Same h xs (debited xs ps)
same_debited h moved [] ps i = refl
same_debited h moved (a ∷ xs) ps zero =
    cond_both (is_enrolled a) (side_moved (debit_of (get_or ps 0 0)) a ∷ debited xs (drop 1 ps)) (a ∷ debited xs ps) (λ l. h (get_or l 0 blank) ≡ h a) (λ _. moved (debit_of (get_or ps 0 0)) a) (λ _. refl)
same_debited h moved (a ∷ xs) ps (suc i) =
    cond_both (is_enrolled a) (side_moved (debit_of (get_or ps 0 0)) a ∷ debited xs (drop 1 ps)) (a ∷ debited xs ps) (λ l. h (get_or l (suc i) blank) ≡ h (get_or xs i blank))
    (λ _. same_debited h moved xs (drop 1 ps) i)
    (λ _. same_debited h moved xs ps i)

debit_sum : (a : Account) (p m : ℕ) (s d : ℤ) → d +ℤ pos (m * 1000000) ≡ s → ((side_moved (debit_of p) a).side.count +ℤ d) +ℤ pos ((p + m) * 1000000) ≡ a.side.count +ℤ s
debit_sum a p m s d e = omega (arith, ints, e)

-- With the fact for the accounts that follow.
paying : (a : Account) (xs : List Account) (ps : List ℕ) → ((qs : List ℕ) → length qs ≡ length (metered_claims xs) → sides (debited xs qs) +ℤ pos (sum qs * 1000000) ≡ sides xs) → is_enrolled a ≡ true → length ps ≡ length (metered_kwh a.reading ∷ metered_claims xs) → sides (debited (a ∷ xs) ps) +ℤ pos (sum ps * 1000000) ≡ sides (a ∷ xs)
paying a xs [] later t h = absurd (omega arith)
paying a xs (p ∷ ps) later t h =
    let d = ap sides (cond-true _ (side_moved (debit_of p) a ∷ debited xs ps) (a ∷ debited xs (p ∷ ps)) t) in
    let m = sum_by-cons (λ x. x) p ps in
    let ih = later ps (omega arith) in
    ap (λ z. z +ℤ pos (sum (p ∷ ps) * 1000000)) d ∙ ap (λ k. ((side_moved (debit_of p) a).side.count +ℤ sides (debited xs ps)) +ℤ pos (k * 1000000)) m ∙ debit_sum a p (sum ps) (sides xs) (sides (debited xs ps)) ih

-- What the enrolled plants pay is what the parts come to.
pub sides_debited : (xs : List Account) (ps : List ℕ) → length ps ≡ length (metered_claims xs) → sides (debited xs ps) +ℤ pos (sum ps * 1000000) ≡ sides xs
sides_debited [] [] h = refl
sides_debited [] (p ∷ ps) h = absurd (omega arith)
sides_debited (a ∷ xs) ps h =
    ⊎_elim
    (λ t. paying a xs ps (sides_debited xs) t (h ∙ ap length (cond-true _ (metered_kwh a.reading ∷ metered_claims xs) (metered_claims xs) t)))
    (λ t. let d = ap sides (cond-false _ (side_moved (debit_of (get_or ps 0 0)) a ∷ debited xs (drop 1 ps)) (a ∷ debited xs ps) t) in
    let ih = sides_debited xs ps (h ∙ ap length (cond-false _ (metered_kwh a.reading ∷ metered_claims xs) (metered_claims xs) t)) in
    omega (arith, ints, d, ih))
    (cases_Bool (is_enrolled a))

-- ---- claims

pub claims_few : (xs : List Account) → length (metered_claims xs) ≤ length xs
claims_few [] = omega arith
claims_few (a ∷ xs) =
    let ih = claims_few xs in
    cond_both (is_enrolled a) (metered_kwh a.reading ∷ metered_claims xs) (metered_claims xs) (λ l. length l ≤ suc (length xs)) (λ _. omega (arith, ih)) (λ _. omega (arith, ih))

head_or_rest : (k : ℕ) (l : List ℕ) → k ≤ 3000000000 → ((i : ℕ) → get_or l i 0 ≤ 3000000000) → (i : ℕ) → get_or (k ∷ l) i 0 ≤ 3000000000
head_or_rest k l h r zero = h
head_or_rest k l h r (suc i) = r i

pub claims_each : (xs : List Account) → AllByRecursion Fair xs → (i : ℕ) → get_or (metered_claims xs) i 0 ≤ 3000000000
claims_each [] a i = omega arith
claims_each (x ∷ xs) a i =
    cond_both (is_enrolled x) (metered_kwh x.reading ∷ metered_claims xs) (metered_claims xs) (λ l. get_or l i 0 ≤ 3000000000)
    (λ _. head_or_rest (metered_kwh x.reading) (metered_claims xs) a.0.metered (claims_each xs a.1) i)
    (λ _. claims_each xs a.1 i)

claims_more : (a : Account) (xs : List Account) → (0 < sum (metered_claims xs)) → 0 < sum (metered_claims (a ∷ xs))
claims_more a xs h =
    cond_both (is_enrolled a) (metered_kwh a.reading ∷ metered_claims xs) (metered_claims xs) (λ l. 0 < sum l)
    (λ _. omega (arith, sum_by-cons (λ x. x) (metered_kwh a.reading) (metered_claims xs)))
    (λ _. h)

-- Some plant has generated, so something is claimed.
pub claims_some : (xs : List Account) → any_account has_generated xs ≡ true → 0 < sum (metered_claims xs)
claims_some [] h = absurd (false≢true h)
claims_some (a ∷ xs) h =
    ⊎_elim
    (λ t. let k = and_parts (is_enrolled a) (ltb 0 (metered_kwh a.reading)) t in
    let e = cond-true _ (metered_kwh a.reading ∷ metered_claims xs) (metered_claims xs) k.0 in
    omega (arith, ap sum e, sum_by-cons (λ x. x) (metered_kwh a.reading) (metered_claims xs), ltb-true _ _ k.1))
    (λ t. claims_more a xs (claims_some xs t))
    (or_cases (has_generated a) (any_account has_generated xs) h)

-- ---- an account after a change keeps its limits

pub fair_blank : Fair blank
fair_blank = record {
  approved = omega arith;
  metered = omega arith;
  commissioning = omega arith;
  side = omega arith;
  issued = omega arith;
  carry = omega arith;
  pending = λ i c. absurd (false≢true i);
  closed = λ c. absurd (false≢true c);
  ready = λ i. absurd (false≢true i);
  known = λ r. absurd (false≢true r);
}

pub fair_enrolled : (k : Class) (q : Price) (a : Account) → q.micro ≤ 1000000 → Fair a → Fair (enrolled_as (Some k) q a)
fair_enrolled k q a h f = record {
  approved = h;
  metered = f.metered;
  commissioning = f.commissioning;
  side = f.side;
  issued = f.issued;
  carry = f.carry;
  pending = f.pending;
  closed = f.closed;
  ready = f.ready;
  known = λ r. refl;
}

pub fair_metered : (r : Reading) (a : Account) → r.metered.kwh ≤ 3000000000 → r.commissioning.kwh ≤ r.metered.kwh → is_enrolled a ≡ true → Fair a → Fair (with_reading r a)
fair_metered r a h k e f = record {
  approved = f.approved;
  metered = h;
  commissioning = k;
  side = f.side;
  issued = f.issued;
  carry = f.carry;
  pending = f.pending;
  closed = f.closed;
  ready = λ i. refl;
  known = λ x. e;
}

pub fair_side : (z : ℤ) (a : Account) → nat_abs z ≤ 300000000000000000 → Fair a → Fair (with_side z a)
fair_side z a h f = record {
  approved = f.approved;
  metered = f.metered;
  commissioning = f.commissioning;
  side = h;
  issued = f.issued;
  carry = f.carry;
  pending = f.pending;
  closed = f.closed;
  ready = f.ready;
  known = f.known;
}

carry_small : (z : ℤ) → pos 0 ≤ℤ z → z <ℤ pos 1000000 → nat_abs z ≤ most_carry
carry_small z a b = omega (arith, ints)

pub fair_issued : (net : ℤ) (a : Account) → nat_abs net ≤ most_net → is_some a.reading ≡ true → Fair a → Fair (issued_at net a)
fair_issued net a h r f =
    let k = split_paid net a.carry.count in
    record {
      approved = f.approved;
      metered = f.metered;
      commissioning = f.commissioning;
      side = f.side;
      issued = h;
      carry = carry_small (split (net +ℤ a.carry.count)).carry.count k.low k.high;
      pending = λ i c. (k.low, k.high);
      closed = λ c. refl;
      ready = λ i. r;
      known = f.known;
    }

carry_stays : (net end rest : ℤ) → nat_abs net ≤ most_net → nat_abs end ≤ most_net → pos 0 ≤ℤ rest → rest <ℤ pos 1000000 → nat_abs (rest +ℤ (end -ℤ net)) ≤ most_carry
carry_stays net end rest a b c d = omega (arith, ints)

pub fair_closed : (net : ℤ) (a : Account) → nat_abs net ≤ most_net → is_some a.issued ≡ true → a.closed ≡ false → Fair a → Fair (closed_at net a)
fair_closed net a h i o f =
    let k = f.pending i o in
    record {
      approved = f.approved;
      metered = f.metered;
      commissioning = f.commissioning;
      side = f.side;
      issued = f.issued;
      carry = carry_stays (issued_net a) net a.carry.count f.issued h k.0 k.1;
      pending = λ i c. absurd (true≢false c);
      closed = λ c. i;
      ready = f.ready;
      known = f.known;
    }

pub fair_turned : (a : Account) → Fair a → Fair (turned a)
fair_turned a f = record {
  approved = f.approved;
  metered = omega arith;
  commissioning = omega arith;
  side = omega arith;
  issued = omega arith;
  carry = f.carry;
  pending = λ i c. absurd (false≢true i);
  closed = λ c. absurd (false≢true c);
  ready = λ i. absurd (false≢true i);
  known = λ r. absurd (false≢true r);
}

pub all_turned : (xs : List Account) → AllByRecursion Fair xs → AllByRecursion Fair (map turned xs)
all_turned xs a = All-map Fair turned xs (All-weaker Fair (λ x. Fair (turned x)) fair_turned xs a)

pub all_blank : (n : ℕ) → AllByRecursion Fair (replicate n blank)
all_blank zero = tt
all_blank (suc n) = (fair_blank, all_blank n)

-- All limits but that of the side balance.
abbrev pub Calm : Account → Type 0
Calm a = Fair (with_side (pos 0) a)

calm : (a : Account) → Fair a → Calm a
calm a f = fair_side (pos 0) a (omega arith) f

calm_debited : (xs : List Account) (ps : List ℕ) → AllByRecursion Calm xs → AllByRecursion Calm (debited xs ps)
calm_debited [] ps h = tt
calm_debited (a ∷ xs) ps h =
    cond_both (is_enrolled a) (side_moved (debit_of (get_or ps 0 0)) a ∷ debited xs (drop 1 ps)) (a ∷ debited xs ps) (AllByRecursion Calm)
    (λ _. (h.0, calm_debited xs (drop 1 ps) h.1))
    (λ _. (h.0, calm_debited xs ps h.1))

calm_moved : (p : ℕ) (z : ℤ) (xs : List Account) → p - 1 < length xs → AllByRecursion Calm xs → AllByRecursion Calm (with_account p (side_moved z) xs)
calm_moved p z xs h a = All-set Calm xs (p - 1) (side_moved z (account_of p xs)) (All-get_or Calm xs (p - 1) blank h a) a

fair_again : (xs : List Account) → AllByRecursion Calm xs → any_account is_past_side_limit xs ≡ false → AllByRecursion Fair xs
fair_again [] a e = tt
fair_again (x ∷ xs) a e =
    let k = or_parts (is_past_side_limit x) (any_account is_past_side_limit xs) e in
    (fair_side x.side.count (with_side (pos 0) x) (leb-true _ _ (not-false _ k.0)) a.0, fair_again xs a.1 k.1)

-- ---- a compensation

module _ (shares : List ℕ → ℕ → List ℕ) (p fen : ℕ) (xs : List Account) (there : p - 1 < length xs) where
  long : p - 1 < length (debited xs (shares (metered_claims xs) fen))
  long = omega (arith, debited_length xs (shares (metered_claims xs) fen))

  pub fair_compensated : AllByRecursion Fair xs → any_account is_past_side_limit (compensated shares p fen xs) ≡ false → AllByRecursion Fair (compensated shares p fen xs)
  fair_compensated a e =
      let ys = debited xs (shares (metered_claims xs) fen) in
      fair_again (compensated shares p fen xs) (calm_moved p (pos (fen * 1000000)) ys long (calm_debited xs (shares (metered_claims xs) fen) (All-weaker Fair Calm calm xs a))) e

  pub sides_compensated : length (shares (metered_claims xs) fen) ≡ length (metered_claims xs) → sum (shares (metered_claims xs) fen) ≡ fen → sides (compensated shares p fen xs) ≡ sides xs
  sides_compensated even adds =
      let ps = shares (metered_claims xs) fen in
      sides_moved p (pos (fen * 1000000)) (debited xs ps) long ∙ ap (λ n. sides (debited xs ps) +ℤ pos (n * 1000000)) (sym adds) ∙ sides_debited xs ps even

  pub length_compensated : length (compensated shares p fen xs) ≡ length xs
  length_compensated = let ps = shares (metered_claims xs) fen in length_account p (side_moved (pos (fen * 1000000))) (debited xs ps) ∙ debited_length xs ps

  pub same_compensated : {X : Type 0} (h : Account → X) → ((z : ℤ) (a : Account) → h (side_moved z a) ≡ h a) → Same h xs (compensated shares p fen xs)
  same_compensated h moved i =
      let ps = shares (metered_claims xs) fen in
      let z = pos (fen * 1000000) in
      same_with h p (side_moved z) (debited xs ps) (moved z (account_of p (debited xs ps))) i ∙ same_debited h moved xs ps i
