use Rattle.std.proofs.Common.{◌≡◌, vec_items, vec_len}
use Rattle.question.specs.Asking.{claims_of}
use Rattle.question.specs.Stretches.{words_of}
use Rattle.question.proofs.Reading.{onto}
use Rattle.question.proofs.line.read_claims.Given as goal

abbrev pub invariant-loop-word : goal.invariant-loop-word
invariant-loop-word l =
    onto (vec_items l.claims) (claims_of (vec_len l.claims) (words_of l.word-iterator.text.now)) ≡ claims_of 0 (words_of l.initial.word-iterator.text.now)
