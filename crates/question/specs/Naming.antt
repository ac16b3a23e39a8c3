-- The rules by name, and what a chosen rule means. Assumes nothing.
use Rattle.std.specs.Prelude.{ℕ, cond, List, Some, None, codes, Option}
use Rattle.std.specs.Str.{bytes_eq}
use Rattle.sharing.specs.Rules.{equal_ratio, in_order}
use Rattle.question.specs.declared.chosen.ChosenRule.{ChosenRule}
use Rattle.question.specs.declared.chosen.ChosenRule.TheVariants.{EqualRatio, InOrder}

abbrev pub shares_by : ChosenRule → List ℕ → ℕ → List ℕ
shares_by EqualRatio = equal_ratio
shares_by InOrder = in_order

unfoldable pub rule_named : List ℕ → Option ChosenRule
rule_named word =
    cond (bytes_eq word (codes "equal-ratio")) (Some EqualRatio)
    (cond (bytes_eq word (codes "in-order")) (Some InOrder) None)
