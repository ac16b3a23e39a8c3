-- A share that is not declined, by a rule that keeps the law. Assumes nothing.
use Rattle.std.proofs.Common.{◌≡◌, ℕ, List, length, None, Ok, sum, Option, sym, ap, ◌∙◌, subst, arith}
use Rattle.sharing.specs.Laws.{Fair}
use Rattle.sharing.specs.Declining.{answered, placed}
use Rattle.sharing.specs.Questions.{declined, Accepted, Asked, Shared}
use Rattle.sharing.specs.Asked.{asked}

pub was_none : {X E : Type 0} (why : Option E) (x y : X) → Ok x ≡ answered why y → why ≡ None
was_none why x y e = grind arith

pub was_value : {X E : Type 0} (why : Option E) (x y : X) → Ok x ≡ answered why y → x ≡ y
was_value why x y e = grind arith

-- what an answer tells of the question, and of the number beside it
pub granted : (claims : List ℕ) (total places claimed : ℕ) → Ok claimed ≡ answered (declined claims total places) (sum claims) → (declined claims total places ≡ None) × Asked claims total places × (claimed ≡ sum claims)
granted claims total places claimed e =
    let none = was_none _ _ _ e in (none, asked claims total places none, was_value _ _ _ e)

-- a rule fills the parts of a question that was admitted
pub shared : (f : List ℕ → ℕ → List ℕ) (claims : List ℕ) (total claimed : ℕ) (old new : List ℕ) → (Accepted claims total → Fair claims total (f claims total)) → Ok claimed ≡ answered (declined claims total (length old)) (sum claims) → new ≡ f claims total → Shared f claims total old new (Ok tt)
shared f claims total claimed old new law told same =
    let known = granted claims total (length old) claimed told in
    let accepted : Accepted claims total = ap (declined claims total) known.1.same ∙ known.0 in
    record {
      answer = ap (λ w. answered w tt) (sym known.0);
      after = same ∙ ap (λ w. placed w (f claims total) old) (sym known.0);
      fair = subst (Fair claims total) (sym same) (law accepted);
      sizes = known.1;
    }
