-- The steps of a share, one by one. Assumes nothing.
use Rattle.std.proofs.Common.{◌≡◌, ℕ, zero, suc, ◌+◌, ◌*◌, ◌/◌, ◌<◌, List, [], ◌∷◌, length, get_or, take, None, Ok, sum, sym, ap, ◌⊎◌, ⊎_elim, ◌∙◌, subst, arith, refl}
use Rattle.sharing.specs.Places.{sum_of_first}
use Rattle.sharing.specs.Declining.{placed}
use Rattle.sharing.specs.Questions.{declined, Shared}
use Rattle.sharing.specs.Rules.{equal_ratio}
use Rattle.sharing.proofs.ByPlace.{ratio_places}
use Rattle.sharing.specs.Claims.{sum_cons}
use Rattle.sharing.proofs.Granted.{was_none}
use Rattle.question.specs.declared.working.Step.{Step}
use Rattle.question.specs.Asking.{Asking}
use Rattle.question.specs.Naming.{shares_by}
use Rattle.question.specs.Workings.{steps_after, steps_of, zero_step, Worked}

-- no step is left where no claim or no part is
pub steps_end : (s g : ℕ) (cs ps : List ℕ) → (cs ≡ []) ⊎ (ps ≡ []) → steps_after s g cs ps ≡ []
steps_end s g [] ps h = refl
steps_end s g (c ∷ cs) [] h = refl
steps_end s g (c ∷ cs) (p ∷ ps) h = absurd (⊎_elim (λ e. cc) (λ e. cc) h)

-- what a step shows
step_sum : (s g : ℕ) (cs ps : List ℕ) (i : ℕ) → i < length cs → i < length ps → ((get_or (steps_after s g cs ps) i zero_step).sum ≡ s + sum_of_first (suc i) cs) × ((get_or (steps_after s g cs ps) i zero_step).given ≡ g + sum_of_first (suc i) ps)
step_sum s g [] ps i h k = absurd (omega arith)
step_sum s g (c ∷ cs) [] i h k = absurd (omega arith)
step_sum s g (c ∷ cs) (p ∷ ps) zero h k = (omega (arith, sum_cons c []), omega (arith, sum_cons p []))
step_sum s g (c ∷ cs) (p ∷ ps) (suc i) h k =
    let tail = step_sum (s + c) (g + p) cs ps i (omega arith) (omega arith) in
    (omega (arith, tail.0, sum_cons c (take (suc i) cs)), omega (arith, tail.1, sum_cons p (take (suc i) ps)))

-- by equal ratio a step shows the running floor
pub step_floor : (claims : List ℕ) (total i : ℕ) → 0 < sum claims → i < length claims → length (equal_ratio claims total) ≡ length claims → (get_or (steps_of claims (equal_ratio claims total)) i zero_step).given ≡ total * (get_or (steps_of claims (equal_ratio claims total)) i zero_step).sum / sum claims
unfolding steps_of
step_floor claims total i some h long =
    let shown = step_sum 0 0 claims (equal_ratio claims total) i h (omega arith) in
    let floor = (ratio_places claims total).front some (suc i) in
    let same : total * (get_or (steps_after 0 0 claims (equal_ratio claims total)) i zero_step).sum / sum claims ≡ total * sum_of_first (suc i) claims / sum claims = ap (λ n. total * n / sum claims) (omega (arith, shown.0)) in
    omega (arith, shown.1, floor, same)

-- a share that was answered, and its steps
pub worked : (q : Asking) (old parts : List ℕ) (shown : List Step) (x : Unit {0}) → length old ≡ length q.claims → Shared (shares_by q.rule) q.claims q.total old parts (Ok x) → shown ≡ steps_of q.claims parts → Worked q shown
worked q old parts shown x long told e =
    let none : declined q.claims q.total (length old) ≡ None = was_none (declined q.claims q.total (length old)) x tt told.answer in
    let is : parts ≡ shares_by q.rule q.claims q.total = told.after ∙ ap (λ w. placed w (shares_by q.rule q.claims q.total) old) none in
    let steps : shown ≡ steps_of q.claims (shares_by q.rule q.claims q.total) = e ∙ ap (steps_of q.claims) is in
    record {
      accepted = ap (declined q.claims q.total) (sym long) ∙ none;
      steps = steps;
      floors = λ ratio some i h.
          let by : shares_by q.rule q.claims q.total ≡ equal_ratio q.claims q.total = ap (λ r. shares_by r q.claims q.total) ratio in
          let same : shown ≡ steps_of q.claims (equal_ratio q.claims q.total) = steps ∙ ap (steps_of q.claims) by in
          let count : length (equal_ratio q.claims q.total) ≡ length q.claims = ap length (sym (is ∙ by)) ∙ told.fair.long in
          let P : List Step → Type 0 = λ l. (get_or l i zero_step).given ≡ q.total * (get_or l i zero_step).sum / sum q.claims in
          subst P (sym same) (step_floor q.claims q.total i some h count);
    }
