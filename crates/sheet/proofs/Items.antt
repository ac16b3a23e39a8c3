-- The items of a section: calls are written back to the bytes that they were read from, and read back from the bytes that they are written as. Assumes nothing.
use Rattle.std.proofs.Common.{◌≡◌, ℕ, zero, suc, ◌+◌, ◌*◌, ◌<◌, List, [], ◌∷◌, length, take, drop, Some, None, sym, refl, ap, ◌∙◌, subst, suc-mul, zero-mul, arith, take-add}
use Rattle.std.specs.List.{AllByRecursion}
use Rattle.std.proofs.lemmas.List.{length-append, length-drop, length-take-le, take_all, take_at, drop_at, take-append-drop, nil_from_length}
use Rattle.std.proofs.ByRecursion.{All-take, All-drop}
use Rattle.book.specs.declared.call.Call.{Call}
use Rattle.book.specs.declared.call.Call.TheVariants.{Enrol, Enter, Amend, Transfer, Meter, Compensate, Issue, Close, Turn}
use Rattle.sheet.specs.declared.kind.Kind.{Kind}
use Rattle.sheet.specs.declared.kind.Kind.TheVariants.{Enrols, Enters, Transfers, Meters}
use Rattle.sheet.specs.Formats.{number, field, bytes_of, energy, price, head_size, term_size, call_of, calls_in, kind_for, head_of, term_of, all_heads, all_terms, FiguresFit}
use Rattle.sheet.proofs.Bytes.{number_bytes_of, bytes_of_field, field_lt}

-- One item, cut from its bytes.
record Item (k : Kind) (head term : List ℕ) (c : Call) : Type 0 where
  pub head_is : head_of c ≡ head
  pub term_is : term_of c ≡ term
  pub kind : kind_for c ≡ Some k
  pub fit : FiguresFit c

item : (k : Kind) (head term : List ℕ) → AllByRecursion (λ b. b < 256) head → AllByRecursion (λ b. b < 256) term → length head ≡ head_size k → length term ≡ term_size k → Item k head term (call_of k head term)
item Enrols head term h t lh lt =
    let h0 : bytes_of 1 (field 0 1 head) ≡ take 1 head = bytes_of_field 0 1 head h (omega arith) in
    let t0 : bytes_of 1 (field 0 1 term) ≡ take 1 term = bytes_of_field 0 1 term t (omega arith) in
    let t1 : bytes_of 4 (field 1 4 term) ≡ take 4 (drop 1 term) = bytes_of_field 1 4 term t (omega arith) in
    record {
      head_is = h0 ∙ take_all 1 head (omega arith);
      term_is = cc (t0, t1, take-add 1 4 term, take_all 5 term (omega arith));
      kind = refl;
      fit = (field_lt 0 1 head h (omega arith), field_lt 0 1 term t (omega arith), field_lt 1 4 term t (omega arith));
    }
item Enters head term h t lh lt =
    let h0 : bytes_of 4 (field 0 4 head) ≡ take 4 head = bytes_of_field 0 4 head h (omega arith) in
    let t0 : bytes_of 1 (field 0 1 term) ≡ take 1 term = bytes_of_field 0 1 term t (omega arith) in
    let t1 : bytes_of 1 (field 1 1 term) ≡ take 1 (drop 1 term) = bytes_of_field 1 1 term t (omega arith) in
    let t2 : bytes_of 8 (field 2 8 term) ≡ take 8 (drop 2 term) = bytes_of_field 2 8 term t (omega arith) in
    let t3 : bytes_of 4 (field 10 4 term) ≡ take 4 (drop 10 term) = bytes_of_field 10 4 term t (omega arith) in
    record {
      head_is = h0 ∙ take_all 4 head (omega arith);
      term_is = cc (t0, t1, t2, t3, take-add 1 1 term, take-add 2 8 term, take-add 10 4 term, take_all 14 term (omega arith));
      kind = refl;
      fit = (field_lt 0 4 head h (omega arith), field_lt 0 1 term t (omega arith), field_lt 1 1 term t (omega arith), field_lt 2 8 term t (omega arith), field_lt 10 4 term t (omega arith));
    }
item Transfers head term h t lh lt =
    let h0 : bytes_of 4 (field 0 4 head) ≡ take 4 head = bytes_of_field 0 4 head h (omega arith) in
    let h1 : bytes_of 4 (field 4 4 head) ≡ take 4 (drop 4 head) = bytes_of_field 4 4 head h (omega arith) in
    let t0 : bytes_of 1 (field 0 1 term) ≡ take 1 term = bytes_of_field 0 1 term t (omega arith) in
    let t1 : bytes_of 8 (field 1 8 term) ≡ take 8 (drop 1 term) = bytes_of_field 1 8 term t (omega arith) in
    let t2 : bytes_of 4 (field 9 4 term) ≡ take 4 (drop 9 term) = bytes_of_field 9 4 term t (omega arith) in
    record {
      head_is = cc (h0, h1, take-add 4 4 head, take_all 8 head (omega arith));
      term_is = cc (t0, t1, t2, take-add 1 8 term, take-add 9 4 term, take_all 13 term (omega arith));
      kind = refl;
      fit = (field_lt 0 4 head h (omega arith), field_lt 4 4 head h (omega arith), field_lt 0 1 term t (omega arith), field_lt 1 8 term t (omega arith), field_lt 9 4 term t (omega arith));
    }
item Meters head term h t lh lt =
    let h0 : bytes_of 1 (field 0 1 head) ≡ take 1 head = bytes_of_field 0 1 head h (omega arith) in
    let t0 : bytes_of 8 (field 0 8 term) ≡ take 8 term = bytes_of_field 0 8 term t (omega arith) in
    let t1 : bytes_of 8 (field 8 8 term) ≡ take 8 (drop 8 term) = bytes_of_field 8 8 term t (omega arith) in
    record {
      head_is = h0 ∙ take_all 1 head (omega arith);
      term_is = cc (t0, t1, take-add 8 8 term, take_all 16 term (omega arith));
      kind = refl;
      fit = (field_lt 0 1 head h (omega arith), field_lt 0 8 term t (omega arith), field_lt 8 8 term t (omega arith));
    }

-- So many items, cut from their bytes.
pub record Cut (k : Kind) (n : ℕ) (heads terms : List ℕ) (cs : List Call) : Type 0 where
  pub heads_are : all_heads cs ≡ heads
  pub terms_are : all_terms cs ≡ terms
  pub count : length cs ≡ n
  pub kinds : AllByRecursion (λ c. kind_for c ≡ Some k) cs
  pub fit : AllByRecursion FiguresFit cs

pub cut : (k : Kind) (n : ℕ) (heads terms : List ℕ) → AllByRecursion (λ b. b < 256) heads → AllByRecursion (λ b. b < 256) terms → length heads ≡ n * head_size k → length terms ≡ n * term_size k → Cut k n heads terms (calls_in k n heads terms)
cut k zero heads terms h t lh lt =
    record {
      heads_are = sym (nil_from_length heads (omega (arith, zero-mul (head_size k))));
      terms_are = sym (nil_from_length terms (omega (arith, zero-mul (term_size k))));
      count = refl;
      kinds = tt;
      fit = tt;
    }
cut k (suc n) heads terms h t lh lt =
    let few : length heads ≡ n * head_size k + head_size k = lh ∙ suc-mul n (head_size k) in
    let bits : length terms ≡ n * term_size k + term_size k = lt ∙ suc-mul n (term_size k) in
    let first =
    item k (take (head_size k) heads) (take (term_size k) terms) (All-take (λ b. b < 256) (head_size k) heads h) (All-take (λ b. b < 256) (term_size k) terms t)
    (length-take-le (head_size k) heads (omega arith)) (length-take-le (term_size k) terms (omega arith)) in
    let rest =
    cut k n (drop (head_size k) heads) (drop (term_size k) terms) (All-drop (λ b. b < 256) (head_size k) heads h) (All-drop (λ b. b < 256) (term_size k) terms t)
    (omega (arith, length-drop (head_size k) heads)) (omega (arith, length-drop (term_size k) terms)) in
    record {
      heads_are = cc (first.head_is, rest.heads_are, take-append-drop (head_size k) heads);
      terms_are = cc (first.term_is, rest.terms_are, take-append-drop (term_size k) terms);
      count = ap suc rest.count;
      kinds = (first.kind, rest.kinds);
      fit = (first.fit, rest.fit);
    }

-- One call, read back from the bytes that it is written as.
record Back (c : Call) (k : Kind) : Type 0 where
  pub is : call_of k (head_of c) (term_of c) ≡ c
  pub head_long : length (head_of c) ≡ head_size k
  pub term_long : length (term_of c) ≡ term_size k

of_kind : (c : Call) (j k : Kind) → Some j ≡ Some k → Back c j → Back c k
of_kind c j k e b = let same : j ≡ k = cc in subst (Back c) same b

of_none : {A : Type 0} (k : Kind) → None ≡ Some k → A
of_none k e = let z : ◌≡◌ {A = ℕ} 0 1 = cc in absurd (omega arith)

back : (k : Kind) (c : Call) → kind_for c ≡ Some k → FiguresFit c → Back c k
back k (Enrol p r q) e fit =
    let shown : Enrol (number (bytes_of 1 p)) (number (bytes_of 1 r)) (price (number (bytes_of 4 q.micro))) ≡ Enrol p r (price q.micro) = cc (number_bytes_of 1 p fit.0, number_bytes_of 1 r fit.1, number_bytes_of 4 q.micro fit.2) in
    of_kind (Enrol p r q) Enrols k e record { is = shown; head_long = refl; term_long = refl }
back k (Enter n p r e q) is fit =
    let shown : Enter (number (bytes_of 4 n)) (number (bytes_of 1 p)) (number (bytes_of 1 r)) (energy (number (bytes_of 8 e.kwh))) (price (number (bytes_of 4 q.micro))) ≡ Enter n p r (energy e.kwh) (price q.micro) = cc (number_bytes_of 4 n fit.0, number_bytes_of 1 p fit.1, number_bytes_of 1 r fit.2, number_bytes_of 8 e.kwh fit.3, number_bytes_of 4 q.micro fit.4) in
    of_kind (Enter n p r e q) Enters k is record { is = shown; head_long = refl; term_long = refl }
back k (Amend n e) is fit = of_none k is
back k (Transfer n o p e q) is fit =
    let shown : Transfer (number (bytes_of 4 n)) (number (bytes_of 4 o)) (number (bytes_of 1 p)) (energy (number (bytes_of 8 e.kwh))) (price (number (bytes_of 4 q.micro))) ≡ Transfer n o p (energy e.kwh) (price q.micro) = cc (number_bytes_of 4 n fit.0, number_bytes_of 4 o fit.1, number_bytes_of 1 p fit.2, number_bytes_of 8 e.kwh fit.3, number_bytes_of 4 q.micro fit.4) in
    of_kind (Transfer n o p e q) Transfers k is record { is = shown; head_long = refl; term_long = refl }
back k (Meter p m c) is fit =
    let shown : Meter (number (bytes_of 1 p)) (energy (number (bytes_of 8 m.kwh))) (energy (number (bytes_of 8 c.kwh))) ≡ Meter p (energy m.kwh) (energy c.kwh) = cc (number_bytes_of 1 p fit.0, number_bytes_of 8 m.kwh fit.1, number_bytes_of 8 c.kwh fit.2) in
    of_kind (Meter p m c) Meters k is record { is = shown; head_long = refl; term_long = refl }
back k (Compensate p a) is fit = of_none k is
back k (Issue p) is fit = of_none k is
back k (Close p) is fit = of_none k is
back k (Turn q) is fit = of_none k is

-- Calls of one kind, read back from the bytes that they are written as.
pub record AllBack (cs : List Call) (k : Kind) : Type 0 where
  pub are : calls_in k (length cs) (all_heads cs) (all_terms cs) ≡ cs
  pub heads_long : length (all_heads cs) ≡ length cs * head_size k
  pub terms_long : length (all_terms cs) ≡ length cs * term_size k

pub all_back : (k : Kind) (cs : List Call) → AllByRecursion (λ c. kind_for c ≡ Some k) cs → AllByRecursion FiguresFit cs → AllBack cs k
all_back k [] kinds fit = record { are = refl; heads_long = sym (zero-mul (head_size k)); terms_long = sym (zero-mul (term_size k)) }
all_back k (c ∷ cs) kinds fit =
    let first = back k c kinds.0 fit.0 in
    let rest = all_back k cs kinds.1 fit.1 in
    let h0 = take_at (head_of c) (all_heads cs) (head_size k) first.head_long in
    let h1 = drop_at (head_of c) (all_heads cs) (head_size k) first.head_long in
    let t0 = take_at (term_of c) (all_terms cs) (term_size k) first.term_long in
    let t1 = drop_at (term_of c) (all_terms cs) (term_size k) first.term_long in
    record {
      are = cc (h0, h1, t0, t1, first.is, rest.are);
      heads_long = omega (arith, length-append (head_of c) (all_heads cs), suc-mul (length cs) (head_size k), first.head_long, rest.heads_long);
      terms_long = omega (arith, length-append (term_of c) (all_terms cs), suc-mul (length cs) (term_size k), first.term_long, rest.terms_long);
    }
