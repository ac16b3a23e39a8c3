-- The worked examples, by computing. Assumes nothing.
use Rattle.std.proofs.Common.{refl}
use Rattle.units.specs.Payments.{payment_if}
use Rattle.sharing.specs.Rules.{running_floor}
use Rattle.market.specs.Dividing.{divided}
use Rattle.market.specs.Examples.{TableHolds}
use Rattle.market.specs.Figures.{settled_energies, settlement_of}

pub table_holds : TableHolds
unfolding running_floor divided settled_energies settlement_of payment_if
table_holds =
    (refl, (refl, (refl, (refl, (refl, (refl, (refl, (refl, (refl, ((refl, refl, refl, refl), (refl, ((refl, refl, refl, refl), (refl, ((refl, refl, refl, refl), (refl, (refl, ((refl, refl, refl, refl), (refl, (refl, (refl, tt))))))))))))))))))))
