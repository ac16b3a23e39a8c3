-- What each part is, by its place, through sums of the first claims. Assumes nothing.
use Rattle.std.specs.Prelude.{◌≡◌, ℕ, ◌+◌, ◌-◌, ◌*◌, ◌/◌, ◌<◌, ◌≤◌, min, List, length, take, drop, sum, slice_index}

-- S(i), the sum of the first i claims.
abbrev pub sum_of_first : ℕ → List ℕ → ℕ
sum_of_first i claims = sum (take i claims)

-- Equal ratio, where something is claimed.
pub record RatioPlaces (claims : List ℕ) (total : ℕ) (parts : List ℕ) : Type 0 where
  -- a part is the difference of two running floors: up to its claim, and before it
  pub part : 0 < sum claims → (i : ℕ) → i < length claims → slice_index parts i ≡ total * sum_of_first (i + 1) claims / sum claims - total * sum_of_first i claims / sum claims
  -- the first i parts add up to the running floor of the first i claims
  pub front : 0 < sum claims → (i : ℕ) → sum_of_first i parts ≡ total * sum_of_first i claims / sum claims
  -- where nothing is claimed, each part is zero
  pub nothing : sum claims ≡ 0 → (i : ℕ) → slice_index parts i ≡ 0

-- In order.
pub record OrderPlaces (claims : List ℕ) (total : ℕ) (parts : List ℕ) : Type 0 where
  -- a total within what is claimed: a part is what the claims before it leave, or the whole claim where that is less
  pub filled : total ≤ sum claims → (i : ℕ) → i < length claims → slice_index parts i ≡ min (total - sum_of_first i claims) (slice_index claims i)
  -- a total above it: every claim that has one above zero after it is filled, no more
  pub before : sum claims ≤ total → (i : ℕ) → i < length claims → 0 < sum (drop (i + 1) claims) → slice_index parts i ≡ slice_index claims i
  -- and the last claim above zero gets the rest besides
  pub last : sum claims ≤ total → (i : ℕ) → i < length claims → 0 < slice_index claims i → sum (drop (i + 1) claims) ≡ 0 → slice_index parts i ≡ slice_index claims i + (total - sum claims)
