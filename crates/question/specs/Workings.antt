-- A share step by step, with the running sums of the claims and of the parts. Assumes nothing.
use Rattle.std.specs.Prelude.{◌≡◌, ℕ, ◌+◌, ◌*◌, ◌/◌, ◌<◌, List, [], ◌∷◌, length, Some, None, sum, slice_index_or}
use Rattle.sharing.specs.Questions.{declined}
use Rattle.question.specs.declared.chosen.ChosenRule.TheVariants.{EqualRatio}
use Rattle.question.specs.declared.working.Step.{Step}
use Rattle.question.specs.declared.working.Failure.{Failure}
use Rattle.question.specs.declared.working.Failure.TheVariants.{Declined, NoMemory}
use Rattle.question.specs.Asking.{Asking}
use Rattle.question.specs.Naming.{shares_by}

-- The steps of the claims and parts that stand after others adding up to s and g.
abbrev pub steps_after : ℕ → ℕ → List ℕ → List ℕ → List Step
steps_after s g [] parts = []
steps_after s g (c ∷ cs) [] = []
steps_after s g (c ∷ cs) (p ∷ ps) = record { claim = c; sum = s + c; part = p; given = g + p } ∷ steps_after (s + c) (g + p) cs ps

unfoldable pub steps_of : List ℕ → List ℕ → List Step
steps_of claims parts = steps_after 0 0 claims parts

abbrev pub zero_step : Step
zero_step = record { claim = 0; sum = 0; part = 0; given = 0 }

-- A question that was worked out.
pub record Worked (q : Asking) (shown : List Step) : Type 0 where
  pub accepted : declined q.claims q.total (length q.claims) ≡ None
  pub steps : shown ≡ steps_of q.claims (shares_by q.rule q.claims q.total)
  -- by equal ratio, what is given up to a claim is the running floor: total times the sum so far, divided by all that is claimed
  pub floors : q.rule ≡ EqualRatio → 0 < sum q.claims → (i : ℕ) → i < length q.claims → (slice_index_or shown i zero_step).given ≡ q.total * (slice_index_or shown i zero_step).sum / sum q.claims

abbrev pub Failed : Asking → Failure → Type 0
Failed q (Declined why) = declined q.claims q.total (length q.claims) ≡ Some why
Failed q NoMemory = Unit {0}
