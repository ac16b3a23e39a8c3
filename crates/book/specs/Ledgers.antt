-- The figures of a month book, and the figures of one of its plants. Assumes nothing.
use Rattle.std.specs.Prelude.{ℕ, List, [], replicate, ℤ, Some, None, Option}
use Rattle.std.specs.Option.{unwrap_or}
use Rattle.units.specs.declared.price.Price.{Price}
use Rattle.market.specs.declared.kinds.Class.{Class}
use Rattle.market.specs.declared.kinds.Class.TheVariants.{Hydro}
use Rattle.market.specs.declared.kinds.Season.TheVariants.{Dry}
use Rattle.market.specs.declared.figures.PlantFigures.{PlantFigures}
use Rattle.market.specs.Dividing.{energy}
use Rattle.market.specs.Figures.{Figures, settlement_of}
use Rattle.market.specs.Kinds.{season_of}
use Rattle.market.specs.Prices.{micro}
use Rattle.book.specs.declared.account.Account.{Account}
use Rattle.book.specs.declared.account.Enrolment.{Enrolment}
use Rattle.book.specs.declared.account.Reading.{Reading}
use Rattle.book.specs.declared.row.Row.{Row}
use Rattle.book.specs.Accounts.{blank, account_of, metered_kwh}
use Rattle.book.specs.Rows.{contracts_of}

-- All figures of a book: shares is what its sharing rule means, rows are the contracts in rising number, accounts the 24 plants'.
pub record Ledger : Type 0 where
  pub month : ℕ
  pub residential : Price
  pub shares : List ℕ → ℕ → List ℕ
  pub rows : List Row
  pub accounts : List Account

abbrev pub with_rows : List Row → Ledger → Ledger
with_rows cs f = record { month = f.month; residential = f.residential; shares = f.shares; rows = cs; accounts = f.accounts }

abbrev pub with_accounts : List Account → Ledger → Ledger
with_accounts xs f = record { month = f.month; residential = f.residential; shares = f.shares; rows = f.rows; accounts = xs }

-- The figures without the rule, which what a book keeps does not speak of.
abbrev pub bare_ledger : ℕ → Price → List Row → List Account → Ledger
bare_ledger m q cs xs = record { month = m; residential = q; shares = λ claims total. []; rows = cs; accounts = xs }

-- A book as it is opened.
abbrev pub opened : ℕ → Price → (List ℕ → ℕ → List ℕ) → Ledger
opened m q shares = record { month = m; residential = q; shares = shares; rows = []; accounts = replicate 24 blank }

abbrev pub class_in : Option Enrolment → Class
class_in None = Hydro
class_in (Some e) = e.class

abbrev pub approved_in : Option Enrolment → Price
approved_in None = micro 0
approved_in (Some e) = e.approved

abbrev pub commissioning_kwh : Option Reading → ℕ
commissioning_kwh None = 0
commissioning_kwh (Some r) = r.commissioning.kwh

abbrev pub plant_figures : ℕ → Price → Account → PlantFigures
plant_figures month residential a =
    record {
      class = class_in a.enrolment;
      season = unwrap_or (season_of month) Dry;
      residential = residential;
      approved = approved_in a.enrolment;
      metered = energy (metered_kwh a.reading);
      commissioning = energy (commissioning_kwh a.reading);
      side = a.side;
    }

-- All that the settlement of plant p rests on.
abbrev pub plant_in : Ledger → ℕ → Figures
plant_in f p =
    record {
      plant = plant_figures f.month f.residential (account_of p f.accounts);
      contracts = contracts_of p f.rows;
      shares = f.shares;
    }

unfoldable pub net_of_plant : Ledger → ℕ → ℤ
net_of_plant f p = (settlement_of (plant_in f p)).net.count
