-- Claims read one by one. Assumes nothing.
use Rattle.std.proofs.Common.{ℕ, List, ◌++◌, Ok, Err, Result}
use Rattle.question.specs.declared.fault.Fault.{Fault}

-- claims that were read, before those still to be read
abbrev pub onto : List ℕ → Result (List ℕ) Fault → Result (List ℕ) Fault
onto read (Ok more) = Ok (read ++ more)
onto read (Err e) = Err e
