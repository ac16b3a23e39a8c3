-- What every sharing rule keeps on a question that is not declined. Assumes nothing.
use Rattle.std.specs.Prelude.{◌≡◌, ℕ, ◌≤◌, List, length, sum, slice_index}

-- These parts are a fair share of the total over the claims.
pub record Fair (claims : List ℕ) (total : ℕ) (parts : List ℕ) : Type 0 where
  -- as many parts as claims
  pub long : length parts ≡ length claims
  -- the parts add up to the total
  pub adds : sum parts ≡ total
  -- a claim of zero gets zero
  pub none : (i : ℕ) → slice_index claims i ≡ 0 → slice_index parts i ≡ 0
  -- where the total is no more than what is claimed, no part exceeds its claim
  pub within : total ≤ sum claims → (i : ℕ) → slice_index parts i ≤ slice_index claims i
