-- Ordered tables of conditions under which a call is declined, and what a call then answers and leaves. Assumes nothing.
use Rattle.std.specs.Prelude.{Bool, cond, List, [], ◌∷◌, Some, None, Ok, Err, Option, Result}

-- What stands beside the first condition that holds.
abbrev pub first_of : {E : Type 0} → List (Bool × E) → Option E
first_of [] = None
first_of ((b, why) ∷ rest) = cond b (Some why) (first_of rest)

-- The answer: why the call is declined, or else x.
abbrev pub answered : {X E : Type 0} → Option E → X → Result X E
answered None x = Ok x
answered (Some why) x = Err why

-- What is left by the call: what is new, or where it is declined what stood before.
abbrev pub placed : {X E : Type 0} → Option E → X → X → X
placed None new old = new
placed (Some why) new old = old
