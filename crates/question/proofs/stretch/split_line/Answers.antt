use Rattle.std.proofs.Common.{◌==◌, rules}
use Rattle.question.proofs.Stretching.{before_place, onward_place}
use Rattle.question.proofs.stretch.split_line.Goals as goal

pub returns-in-Some-clause-line : goal.returns-in-Some-clause-line
returns-in-Some-clause-line c =
    let end = c.stretch.ensures.place (λ b. b == 10) (λ x b q k. search rules) in
    let line = before_place (λ b. b == 10) c.args.text.now in
    search rules

pub returns-in-Some-clause-rest : goal.returns-in-Some-clause-rest
returns-in-Some-clause-rest c =
    let end = c.stretch.ensures.place (λ b. b == 10) (λ x b q k. search rules) in
    let rest = onward_place (λ b. b == 10) c.args.text.now in
    search rules

pub returns-in-None-clause-line : goal.returns-in-None-clause-line
returns-in-None-clause-line c =
    let end = c.stretch.ensures.place (λ b. b == 10) (λ x b q k. search rules) in
    let line = before_place (λ b. b == 10) c.args.text.now in
    search rules

pub returns-in-None-clause-rest : goal.returns-in-None-clause-rest
returns-in-None-clause-rest c =
    let end = c.stretch.ensures.place (λ b. b == 10) (λ x b q k. search rules) in
    let rest = onward_place (λ b. b == 10) c.args.text.now in
    search rules
