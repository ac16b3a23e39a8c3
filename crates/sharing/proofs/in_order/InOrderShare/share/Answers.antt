use Rattle.std.proofs.Common.{sym, subst}
use Rattle.sharing.specs.Order.{order_fair}
use Rattle.sharing.specs.Places.{OrderPlaces}
use Rattle.sharing.specs.Rules.{in_order}
use Rattle.sharing.proofs.ByPlace.{order_places}
use Rattle.sharing.proofs.Granted.{granted, shared}
use Rattle.sharing.proofs.in_order.InOrderShare.share.Goals as goal

pub fill_in_order-requires : goal.fill_in_order-requires
fill_in_order-requires c =
    let known = granted _ _ _ _ c.in_ok-claimed.ensures in record { long = known.1.same; whole = known.2 }

pub returns : goal.returns
returns c =
    let xs = c.args.claims.now in
    let t = c.args.total in
    let is = c.fill_in_order.ensures in
    record {
      shared = shared in_order xs t _ c.args.parts.now _ (order_fair xs t) c.in_ok-claimed.ensures is;
      places = subst (OrderPlaces xs t) (sym is) (order_places xs t);
    }
