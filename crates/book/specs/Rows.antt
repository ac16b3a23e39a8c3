-- Contracts in rising number: which stands under a number, one more, one with another energy. Assumes nothing.
use Rattle.std.specs.Prelude.{ℕ, suc, ◌+◌, ◌-◌, Bool, true, cond, ◌&&◌, List, [], ◌∷◌, map, find, Option, ◌==◌, nat_le, nat_lt}
use Rattle.units.specs.declared.energy.Energy.{Energy}
use Rattle.units.specs.declared.price.Price.{Price}
use Rattle.market.specs.declared.figures.Contract.{Contract}
use Rattle.book.specs.declared.row.Row.{Row}

-- Plants are numbered from 1 to 24.
abbrev pub plant_ok : ℕ → Bool
plant_ok p = nat_le 1 p && nat_le p 24

abbrev pub energy_ok : Energy → Bool
energy_ok e = nat_le e.kwh 3000000000

abbrev pub price_ok : Price → Bool
price_ok q = nat_le q.micro 1000000

abbrev pub row_ok : Row → Bool
row_ok c = nat_le 1 c.number && plant_ok c.plant && energy_ok c.contract.energy && price_ok c.contract.price

-- Every number in the list is above n.
abbrev pub all_above : ℕ → List Row → Bool
all_above n [] = true
all_above n (c ∷ cs) = nat_lt n c.number && all_above n cs

abbrev pub rising : List Row → Bool
rising [] = true
rising (c ∷ cs) = all_above c.number cs && rising cs

-- The contract under the number n.
abbrev pub row_of : ℕ → List Row → Option Row
row_of n cs = find (λ (c : Row). c.number == n) cs

-- One contract more, before the first that has a higher number.
abbrev pub with_row : Row → List Row → List Row
with_row x [] = x ∷ []
with_row x (c ∷ cs) = cond (nat_lt c.number x.number) (c ∷ with_row x cs) (x ∷ c ∷ cs)

-- How many contracts come before the number n.
abbrev pub place_of : ℕ → List Row → ℕ
place_of n [] = 0
place_of n (c ∷ cs) = cond (nat_lt c.number n) (suc (place_of n cs)) 0

-- The contract of number n has the energy e, and each other stands as it did.
abbrev pub at_energy : Energy → Row → Row
at_energy e c = record { number = c.number; plant = c.plant; contract = record { rank = c.contract.rank; energy = e; price = c.contract.price } }

abbrev pub with_energy : ℕ → Energy → List Row → List Row
with_energy n e = map (λ (c : Row). cond (c.number == n) (at_energy e c) c)

-- The energy of a plant's contracts, and of all.
abbrev pub plant_sum : ℕ → List Row → ℕ
plant_sum p [] = 0
plant_sum p (c ∷ cs) = cond (c.plant == p) c.contract.energy.kwh 0 + plant_sum p cs

abbrev pub energy_in_all : List Row → ℕ
energy_in_all [] = 0
energy_in_all (c ∷ cs) = c.contract.energy.kwh + energy_in_all cs

-- A plant's contracts, in rising number.
abbrev pub contracts_of : ℕ → List Row → List Contract
contracts_of p [] = []
contracts_of p (c ∷ cs) = cond (c.plant == p) (c.contract ∷ contracts_of p cs) (contracts_of p cs)

-- The contract that a transfer makes has the old one's rank and price.
abbrev pub split_off : ℕ → ℕ → Energy → Row → Row
split_off n p e c = record { number = n; plant = p; contract = record { rank = c.contract.rank; energy = e; price = c.contract.price } }

-- The contracts after e was moved from c to a new contract n of plant p.
abbrev pub split_rows : ℕ → ℕ → Energy → Row → List Row → List Row
split_rows n p e c cs = with_row (split_off n p e c) (with_energy c.number record { kwh = c.contract.energy.kwh - e.kwh } cs)
