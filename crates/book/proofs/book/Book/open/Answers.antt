use Rattle.std.proofs.Common.{sym, refl}
use Rattle.book.specs.Ledgers.{opened}
use Rattle.book.proofs.Kept.{opened_sound}
use Rattle.book.proofs.Props.{kept}
use Rattle.book.proofs.book.Book.open.Goals as goal

pub invariant_of-self : goal.invariant_of-self
invariant_of-self g c =
    let shares = g.R.Share.shares c.args.rule in
    let sound = opened_sound c.args.month c.args.residential shares (sym c.if-not-open_within.ensures) in
    record { sound = kept (opened c.args.month c.args.residential shares) _ _ _ _ sound refl refl c.clear.ensures c.new-self.ensures }
