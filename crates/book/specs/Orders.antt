-- What a transfer asks for, within the limits of its figures. Assumes nothing.
use Rattle.std.specs.Prelude.{◌≡◌, ℕ, false, Ok, Err, Result}
use Rattle.units.specs.declared.energy.Energy.{Energy}
use Rattle.units.specs.declared.price.Price.{Price}
use Rattle.book.specs.declared.order.Order.{Order}
use Rattle.book.specs.declared.refusal.Refusal.{Refusal}
use Rattle.book.specs.declared.refusal.Refusal.TheVariants.{PastLimit}
use Rattle.book.specs.Calls.{transfer_within}

-- The order of these figures, or why they are declined.
abbrev pub NamesOrder : ℕ → ℕ → ℕ → Energy → Price → Result Order Refusal → Type 0
NamesOrder n o p e q (Ok order) = (order.new ≡ n) × (order.old ≡ o) × (order.receiver.number ≡ p) × (order.energy ≡ e) × (order.price ≡ q)
NamesOrder n o p e q (Err why) = (transfer_within n o p e q ≡ false) × (why ≡ PastLimit)
