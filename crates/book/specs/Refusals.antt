-- The number of each refusal of a book. Assumes nothing.
use Rattle.std.specs.Prelude.{ℕ}
use Rattle.book.specs.declared.refusal.Refusal.{Refusal}
use Rattle.book.specs.declared.refusal.Refusal.TheVariants.{PastLimit, NotEnrolled, NoContract, AlreadyThere, Closed, NotPermitted, TooMuch, Full, SumPastLimit, NotReady, SliceLength}

abbrev pub numbered : Refusal → ℕ
numbered PastLimit = 1
numbered NotEnrolled = 2
numbered NoContract = 3
numbered AlreadyThere = 4
numbered Closed = 5
numbered NotPermitted = 6
numbered TooMuch = 7
numbered Full = 8
numbered SumPastLimit = 9
numbered NotReady = 10
numbered SliceLength = 11
