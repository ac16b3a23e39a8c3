-- The number of each refusal. Assumes nothing.
use Rattle.std.specs.Prelude.{ℕ}
use Rattle.market.specs.declared.refusal.Refusal.{Refusal}
use Rattle.market.specs.declared.refusal.Refusal.TheVariants.{PastLimit, NotHeld, AboveMeter, TooManyContracts, ContractSum, SliceLength}

abbrev pub numbered : Refusal → ℕ
numbered PastLimit = 1
numbered NotHeld = 6
numbered AboveMeter = 7
numbered TooManyContracts = 8
numbered ContractSum = 9
numbered SliceLength = 11
