-- A line of text as a question: the rule's name, the total, and the claims. Assumes nothing.
use Rattle.std.specs.Prelude.{◌≡◌, ℕ, ◌+◌, ◌-◌, ◌*◌, ◌^◌, cond, ◌&&◌, List, [], ◌∷◌, Some, None, Ok, Err, vec_items, Option, Result, ◌==◌, ◌≢◌, nat_le, nat_lt, slice_index}
use Rattle.question.specs.declared.chosen.ChosenRule.{ChosenRule}
use Rattle.question.specs.declared.fault.Fault.{Fault}
use Rattle.question.specs.declared.fault.Fault.TheVariants.{UnknownRule, NoTotal, BadTotal, BadClaim, NoMemory}
use Rattle.question.specs.declared.line.Question.{Question}
use Rattle.question.specs.Naming.{rule_named}

-- What a question asks.
pub record Asking : Type 0 where
  pub rule : ChosenRule
  pub total : ℕ
  pub claims : List ℕ

abbrev pub asking : Question → Asking
asking q = record { rule = q.rule; total = q.total; claims = vec_items q.claims }

-- The number below 2 ^ 64 that decimal digits write, after others that wrote n.
abbrev pub number_after : ℕ → List ℕ → Option ℕ
number_after n [] = Some n
number_after n (d ∷ ds) = cond (nat_le 48 d && nat_le d 57 && nat_lt (n * 10 + (d - 48)) (2 ^ 64)) (number_after (n * 10 + (d - 48)) ds) None

abbrev pub number_of : List ℕ → Option ℕ
number_of [] = None
number_of (d ∷ ds) = number_after 0 (d ∷ ds)

-- A claim put before others that were read, or its fault where it is no number; n claims stand before it.
abbrev pub with_claim : ℕ → Option ℕ → Result (List ℕ) Fault → Result (List ℕ) Fault
with_claim n None rest = Err (BadClaim n)
with_claim n (Some c) (Ok cs) = Ok (c ∷ cs)
with_claim n (Some c) (Err e) = Err e

abbrev pub claims_of : ℕ → List (List ℕ) → Result (List ℕ) Fault
claims_of n [] = Ok []
claims_of n (w ∷ ws) = with_claim n (number_of w) (claims_of (n + 1) ws)

abbrev pub with_claims : ChosenRule → ℕ → Result (List ℕ) Fault → Result (Option Asking) Fault
with_claims rule total (Ok claims) = Ok (Some (record { rule = rule; total = total; claims = claims }))
with_claims rule total (Err e) = Err e

abbrev pub with_total : ChosenRule → Option ℕ → Result (List ℕ) Fault → Result (Option Asking) Fault
with_total rule None claims = Err BadTotal
with_total rule (Some total) claims = with_claims rule total claims

abbrev pub after_rule : Option ChosenRule → List (List ℕ) → Result (Option Asking) Fault
after_rule None ws = Err UnknownRule
after_rule (Some rule) [] = Err NoTotal
after_rule (Some rule) (w ∷ ws) = with_total rule (number_of w) (claims_of 0 ws)

-- A line with no words, or whose first word begins with '#', asks nothing.
abbrev pub asked_by : List (List ℕ) → Result (Option Asking) Fault
asked_by [] = Ok None
asked_by (name ∷ ws) = cond (slice_index name 0 == 35) (Ok None) (after_rule (rule_named name) ws)

abbrev pub asks : Option Question → Option Asking
asks None = None
asks (Some q) = Some (asking q)

-- A fault is the one that the definition gives, unless memory was short.
abbrev pub Told : {X : Type 0} → Fault → Result X Fault → Type 0
Told e d = (e ≢ NoMemory) → d ≡ Err e
