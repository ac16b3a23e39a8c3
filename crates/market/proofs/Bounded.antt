-- How large prices, amounts and nets can be. Assumes nothing.
use Rattle.std.proofs.Common.{ℕ, ◌+◌, ◌*◌, ◌≤◌, ltb, List, [], ◌∷◌, ℤ, pos, nat_abs, sum, ⊎_elim, mul-le-mul, arith, lit≤}
use Rattle.std.specs.List.{AllByRecursion}
use Rattle.std.proofs.lemmas.Int.{ints}
use Rattle.std.proofs.lemmas.Bool.{cases_Bool, cond-true, cond-false}
use Rattle.units.specs.declared.energy.Energy.{Energy}
use Rattle.units.specs.declared.price.Price.{Price}
use Rattle.units.specs.Payments.{most_net}
use Rattle.market.specs.declared.figures.Contract.{Contract}
use Rattle.market.specs.declared.kinds.Class.{Class}
use Rattle.market.specs.declared.kinds.Class.TheVariants.{Hydro, Coal, Gas, Renewable, PovertyRelief}
use Rattle.market.specs.declared.kinds.Season.{Season}
use Rattle.market.specs.declared.kinds.Season.TheVariants.{Wet, Dry, Level}
use Rattle.market.specs.declared.tariff.Tariff.{Tariff}
use Rattle.market.specs.Dividing.{kwhs}
use Rattle.market.specs.Figures.{worth_of, amount_sum, assessed_of, assessed_at, assessment_of, net_of}
use Rattle.market.specs.Prices.{tariff_of, paid_at}
use Rattle.market.proofs.Filling.{sum_cons}

-- prices within their limit, and those of assessments well below it
pub record Modest (t : Tariff) : Type 0 where
  pub over : t.over_generation.micro ≤ 1000000
  pub commissioning : t.commissioning.micro ≤ 1000000
  pub contracts : (own : Price) → own.micro ≤ 1000000 → (paid_at t own).micro ≤ 1000000
  pub assessed_over : t.assessed_over.micro ≤ 207815
  pub assessed_short : t.assessed_short.micro ≤ 207815
  pub missing : t.missing_aluminium.micro ≤ 60000

pub modest : (class : Class) (season : Season) (residential approved : Price) → residential.micro ≤ 1000000 → approved.micro ≤ 1000000 → Modest (tariff_of class season residential approved)
modest Hydro Wet r a h k = record { over = lit≤ tt; commissioning = k; contracts = λ own l. l; assessed_over = lit≤ tt; assessed_short = lit≤ tt; missing = lit≤ tt }
modest Hydro Dry r a h k = record { over = lit≤ tt; commissioning = k; contracts = λ own l. l; assessed_over = lit≤ tt; assessed_short = lit≤ tt; missing = lit≤ tt }
modest Hydro Level r a h k = record { over = lit≤ tt; commissioning = k; contracts = λ own l. l; assessed_over = lit≤ tt; assessed_short = lit≤ tt; missing = lit≤ tt }
modest Coal Wet r a h k = record { over = lit≤ tt; commissioning = k; contracts = λ own l. l; assessed_over = lit≤ tt; assessed_short = lit≤ tt; missing = lit≤ tt }
modest Coal Dry r a h k = record { over = lit≤ tt; commissioning = k; contracts = λ own l. l; assessed_over = lit≤ tt; assessed_short = lit≤ tt; missing = lit≤ tt }
modest Coal Level r a h k = record { over = lit≤ tt; commissioning = k; contracts = λ own l. l; assessed_over = lit≤ tt; assessed_short = lit≤ tt; missing = lit≤ tt }
modest Gas Wet r a h k = record { over = lit≤ tt; commissioning = k; contracts = λ own l. l; assessed_over = lit≤ tt; assessed_short = lit≤ tt; missing = lit≤ tt }
modest Gas Dry r a h k = record { over = lit≤ tt; commissioning = k; contracts = λ own l. l; assessed_over = lit≤ tt; assessed_short = lit≤ tt; missing = lit≤ tt }
modest Gas Level r a h k = record { over = lit≤ tt; commissioning = k; contracts = λ own l. l; assessed_over = lit≤ tt; assessed_short = lit≤ tt; missing = lit≤ tt }
modest Renewable Wet r a h k = record { over = h; commissioning = h; contracts = λ own l. h; assessed_over = lit≤ tt; assessed_short = lit≤ tt; missing = lit≤ tt }
modest Renewable Dry r a h k = record { over = lit≤ tt; commissioning = k; contracts = λ own l. k; assessed_over = lit≤ tt; assessed_short = lit≤ tt; missing = lit≤ tt }
modest Renewable Level r a h k = record { over = k; commissioning = k; contracts = λ own l. k; assessed_over = lit≤ tt; assessed_short = lit≤ tt; missing = lit≤ tt }
modest PovertyRelief Wet r a h k = record { over = k; commissioning = k; contracts = λ own l. k; assessed_over = lit≤ tt; assessed_short = lit≤ tt; missing = lit≤ tt }
modest PovertyRelief Dry r a h k = record { over = k; commissioning = k; contracts = λ own l. k; assessed_over = lit≤ tt; assessed_short = lit≤ tt; missing = lit≤ tt }
modest PovertyRelief Level r a h k = record { over = k; commissioning = k; contracts = λ own l. k; assessed_over = lit≤ tt; assessed_short = lit≤ tt; missing = lit≤ tt }

-- an energy at a price within its limit
same_le : (n : ℕ) → n ≤ n
same_le n = omega arith

pub worth_le : (kwh price : ℕ) → price ≤ 1000000 → worth_of kwh price ≤ 100000000 * kwh
worth_le kwh price h = let m : kwh * 100 * price ≤ kwh * 100 * 1000000 = mul-le-mul (same_le (kwh * 100)) h in omega arith

pub amounts_le : (t : Tariff) (cs : List Contract) (es : List Energy) → Modest t → AllByRecursion (λ (c : Contract). c.price.micro ≤ 1000000) cs → amount_sum t cs es ≤ 100000000 * sum (kwhs es)
amounts_le t [] es m h = omega arith
amounts_le t (c ∷ cs) [] m h = omega arith
amounts_le t (c ∷ cs) (e ∷ es) m h =
    omega (arith, worth_le e.kwh (paid_at t c.price).micro (m.contracts c.price h.0), amounts_le t cs es m h.1, sum_cons e.kwh (kwhs es))

at_le : (t : Tariff) (metered k : ℕ) → Modest t → assessed_at t metered k ≤ 207815
at_le t metered k m =
    ⊎_elim (λ e. omega (arith, cond-true (ltb k metered) t.assessed_over.micro t.assessed_short.micro e, m.assessed_over))
    (λ e. omega (arith, cond-false (ltb k metered) t.assessed_over.micro t.assessed_short.micro e, m.assessed_short))
    (cases_Bool (ltb k metered))

pub assessment_le : (t : Tariff) (metered k missing : ℕ) → Modest t → metered ≤ 3000000000 → k ≤ 3000000000 → missing ≤ 3000000000 → assessment_of t metered k missing ≤ 300000000000000000
assessment_le t metered k missing m h l low =
    let hundredths : assessed_of metered k ≤ 300000000000 = omega arith in
    let first : assessed_of metered k * assessed_at t metered k ≤ 300000000000 * 207815 = mul-le-mul hundredths (at_le t metered k m) in
    let hundreds : missing * 100 ≤ 300000000000 = omega arith in
    let second : missing * 100 * t.missing_aluminium.micro ≤ 300000000000 * 60000 = mul-le-mul hundreds m.missing in
    omega arith

-- no more is paid than a yuan for each metered kWh
pub net_le : (paid commissioning over assessment : ℕ) (side : ℤ) → paid + commissioning + over ≤ 300000000000000000 → assessment ≤ 300000000000000000 → nat_abs side ≤ 300000000000000000 → nat_abs (net_of (pos paid) commissioning over assessment side) ≤ most_net
net_le paid commissioning over assessment side h k l = omega (arith, ints)
