-- The parts of the ranks laid out over their contracts. Assumes nothing.
use Rattle.std.specs.Prelude.{ℕ, ◌-◌, ◌≤◌, cond, List, [], ◌∷◌, drop, sum, ◌≢◌, slice_index}
use Rattle.units.specs.declared.energy.Energy.{Energy}
use Rattle.market.specs.declared.figures.Contract.{Contract}
use Rattle.market.specs.declared.kinds.Rank.{Rank}
use Rattle.market.specs.declared.kinds.Rank.TheVariants.{Commissioning}
use Rattle.market.specs.Dividing.{energy}
use Rattle.market.specs.Figures.{of_rank, claims_of}
use Rattle.market.specs.Kinds.{rank_number}

-- each contract of the rank takes the next part, and every other place stands as it did
abbrev pub laid : ℕ → List Contract → List ℕ → List Energy → List Energy
laid n [] parts es = []
laid n (c ∷ cs) parts [] = []
laid n (c ∷ cs) parts (e ∷ es) = cond (of_rank n c) (energy (slice_index parts 0) ∷ laid n cs (drop 1 parts) es) (e ∷ laid n cs parts es)

-- the parts of some ranks laid out, rank by rank
abbrev pub laid_ranks : (ℕ → List ℕ) → List Contract → List Rank → List Energy → List Energy
laid_ranks parts cs [] es = es
laid_ranks parts cs (r ∷ rs) es = laid_ranks parts cs rs (laid (rank_number r) cs (parts (rank_number r)) es)

-- the parts of every rank that has contracts laid out, rank by rank
abbrev pub laid_all : (ℕ → List ℕ) → List Contract → List Energy → List Energy
laid_all parts cs es =
    laid 7 cs (parts 7) (laid 6 cs (parts 6) (laid 5 cs (parts 5) (laid 4 cs (parts 4) (laid 2 cs (parts 2) (laid 1 cs (parts 1) es)))))

-- no rank is given more than its contracts' energies
abbrev pub Covered : List Contract → List ℕ → Type 0
Covered cs given = (r : Rank) → (r ≢ Commissioning) → slice_index given (rank_number r - 1) ≤ sum (claims_of (rank_number r) cs)
