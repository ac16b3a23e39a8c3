use Rattle.std.proofs.Common.{◌≡◌, length, get_or, codes, ap, arith, rules}
use Rattle.std.proofs.lemmas.Slice.Eq.{text_from_reads, bytes_eq-Decides}
use Rattle.question.specs.Naming.{rule_named}
use Rattle.question.proofs.chosen.ChosenRuleTryFromRefSliceU8.try_from.Goals as goal

pub returns-in-101 : goal.returns-in-101
unfolding rule_named
returns-in-101 c =
    let is : c.args.word.now ≡ codes "equal-ratio" = text_from_reads _ _ (omega arith) (search rules) in
    search rules

pub returns-in-105 : goal.returns-in-105
unfolding rule_named
returns-in-105 c =
    let is : c.args.word.now ≡ codes "in-order" = text_from_reads _ _ (omega arith) (search rules) in
    search rules

pub returns-in_default-11 : goal.returns-in_default-11
unfolding rule_named
returns-in_default-11 c =
    let ratio : c.args.word.now ≡ codes "equal-ratio" → ⊥ = λ e. let last : get_or c.args.word.now 10 0 ≡ 111 = ap (λ l. get_or l 10 0) e in search rules in
    let order : c.args.word.now ≡ codes "in-order" → ⊥ = λ e. absurd (omega (arith, ap length e)) in
    search (rules, bytes_eq-Decides)
