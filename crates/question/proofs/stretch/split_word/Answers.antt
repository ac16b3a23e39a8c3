use Rattle.std.proofs.Common.{◌≡◌, not, length, take, drop, sym, ap, ◌∙◌, rules}
use Rattle.std.specs.List.{position_or_len}
use Rattle.question.specs.Stretches.{blank, before, onward, with_word, words_of}
use Rattle.question.proofs.Stretching.{before_place, onward_place, words_split, words_none}
use Rattle.question.proofs.stretch.split_word.Goals as goal

pub returns : goal.returns
returns c =
    let text = c.args.text.now in
    let rest = c.split_at.result.1.now in
    let word = c.split_at-2.result.0.now in
    let after = c.split_at-2.result.1.now in
    let start : c.stretch.result ≡ position_or_len (λ b. not (blank b)) text = c.stretch.ensures.place (λ b. not (blank b)) (λ x b q k. search rules) in
    let end : c.stretch-2.result ≡ position_or_len blank rest = c.stretch-2.ensures.place blank (λ x b q k. search rules) in
    let from : rest ≡ onward (λ b. not (blank b)) text = c.split_at.ensures.back ∙ ap (λ n. drop n text) start ∙ onward_place (λ b. not (blank b)) text in
    let front : word ≡ before blank rest = c.split_at-2.ensures.front ∙ ap (λ n. take n rest) end ∙ before_place blank rest in
    let back : after ≡ onward blank rest = c.split_at-2.ensures.back ∙ ap (λ n. drop n rest) end ∙ onward_place blank rest in
    record {
      words = words_split text rest from ∙ ap (λ w. with_word w (words_of (onward blank rest))) (sym front) ∙ ap (λ l. with_word word (words_of l)) (sym back);
      none = λ h. words_none text rest from (ap length (sym front) ∙ h);
    }
