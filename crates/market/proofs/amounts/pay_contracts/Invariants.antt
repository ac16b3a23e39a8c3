use Rattle.std.proofs.Common.{◌≡◌, ◌-◌, ◌≤◌, ◌++◌, take, drop, pos}
use Rattle.market.specs.Figures.{amounts_of, amount_sum}
use Rattle.market.proofs.amounts.pay_contracts.Given as goal

abbrev pub invariant-loop-i : goal.invariant-loop-i
invariant-loop-i l =
    (amount_sum l.tariff (drop l.i l.contracts) (drop l.i l.energies) ≤ amount_sum l.tariff l.contracts l.energies)
    × (l.total.count ≡ pos (amount_sum l.tariff l.contracts l.energies - amount_sum l.tariff (drop l.i l.contracts) (drop l.i l.energies)))
    × (take l.i l.amounts ++ amounts_of l.tariff (drop l.i l.contracts) (drop l.i l.energies) ≡ amounts_of l.tariff l.contracts l.energies)
