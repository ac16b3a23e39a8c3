-- The numbers of classes and ranks, what a class may do, and the season of a month. Assumes nothing.
use Rattle.std.specs.Prelude.{◌≡◌, ℕ, Bool, true, false, cond, ◌&&◌, ◌||◌, Some, None, Option, Result, ◌==◌, nat_le, nat_lt}
use Rattle.std.specs.Option.{ok_or}
use Rattle.market.specs.declared.kinds.Class.{Class}
use Rattle.market.specs.declared.kinds.Class.TheVariants.{Hydro, Coal, Gas, Renewable, PovertyRelief}
use Rattle.market.specs.declared.kinds.Rank.{Rank}
use Rattle.market.specs.declared.kinds.Rank.TheVariants.{InterProvincePriority, InterProvinceMarket, Commissioning, Retained, Aluminium, InProvincePriority, InProvinceMarket}
use Rattle.market.specs.declared.kinds.UnknownClass.{UnknownClass}
use Rattle.market.specs.declared.kinds.UnknownRank.{UnknownRank}
use Rattle.market.specs.declared.kinds.Season.{Season}
use Rattle.market.specs.declared.kinds.Season.TheVariants.{Wet, Dry, Level}

abbrev pub class_number : Class → ℕ
class_number Hydro = 1
class_number Coal = 2
class_number Gas = 3
class_number Renewable = 4
class_number PovertyRelief = 5

abbrev pub rank_number : Rank → ℕ
rank_number InterProvincePriority = 1
rank_number InterProvinceMarket = 2
rank_number Commissioning = 3
rank_number Retained = 4
rank_number Aluminium = 5
rank_number InProvincePriority = 6
rank_number InProvinceMarket = 7

abbrev pub class_of : ℕ → Option Class
class_of n =
    cond (n == 1) (Some Hydro)
    (cond (n == 2) (Some Coal) (cond (n == 3) (Some Gas) (cond (n == 4) (Some Renewable) (cond (n == 5) (Some PovertyRelief) None))))

abbrev pub rank_of : ℕ → Option Rank
rank_of n =
    cond (n == 1) (Some InterProvincePriority)
    (cond (n == 2) (Some InterProvinceMarket)
    (cond (n == 3) (Some Commissioning)
    (cond (n == 4) (Some Retained)
    (cond (n == 5) (Some Aluminium) (cond (n == 6) (Some InProvincePriority) (cond (n == 7) (Some InProvinceMarket) None))))))

-- the class or the rank that a number names, or an error that holds the number
abbrev pub class_from : ℕ → Result Class UnknownClass
class_from n = ok_or (class_of n) (record { 0 = n })

abbrev pub rank_from : ℕ → Result Rank UnknownRank
rank_from n = ok_or (rank_of n) (record { 0 = n })

abbrev pub is_hydro : Class → Bool
is_hydro Hydro = true
is_hydro Coal = false
is_hydro Gas = false
is_hydro Renewable = false
is_hydro PovertyRelief = false

-- only hydro plants hold contracts between provinces, of retained energy and with aluminium works; every class holds the
-- other contracts, and none commissioning energy
abbrev pub may_hold : Class → Rank → Bool
may_hold c InterProvincePriority = is_hydro c
may_hold c InterProvinceMarket = is_hydro c
may_hold c Commissioning = false
may_hold c Retained = is_hydro c
may_hold c Aluminium = is_hydro c
may_hold c InProvincePriority = true
may_hold c InProvinceMarket = true

abbrev pub may_transfer : Class → Bool
may_transfer Hydro = true
may_transfer Coal = true
may_transfer Gas = true
may_transfer Renewable = false
may_transfer PovertyRelief = false

-- wet from June to October, level in May and November, else dry
abbrev pub season_of : ℕ → Option Season
season_of month =
    cond (month == 0 || nat_lt 12 month) None
    (Some (cond (nat_le 6 month && nat_le month 10) Wet (cond (month == 5 || month == 11) Level Dry)))

-- a number names a class or a rank exactly where that class or rank has it
abbrev pub NumbersAgree : Type 0
NumbersAgree =
    ((c : Class) → class_of (class_number c) ≡ Some c)
    × ((n : ℕ) (c : Class) → class_of n ≡ Some c → class_number c ≡ n)
    × ((r : Rank) → rank_of (rank_number r) ≡ Some r)
    × ((n : ℕ) (r : Rank) → rank_of n ≡ Some r → rank_number r ≡ n)
