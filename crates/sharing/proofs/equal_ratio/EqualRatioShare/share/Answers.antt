use Rattle.std.proofs.Common.{sym, subst}
use Rattle.sharing.specs.Places.{RatioPlaces}
use Rattle.sharing.specs.Ratio.{ratio_fair}
use Rattle.sharing.specs.Rules.{equal_ratio}
use Rattle.sharing.proofs.ByPlace.{ratio_places}
use Rattle.sharing.proofs.Granted.{granted, shared}
use Rattle.sharing.proofs.equal_ratio.EqualRatioShare.share.Goals as goal

pub fill_by_ratio-requires : goal.fill_by_ratio-requires
fill_by_ratio-requires c =
    let known = granted _ _ _ _ c.in_ok-claimed.ensures in record { asked = known.1; whole = known.2 }

pub returns : goal.returns
returns c =
    let xs = c.args.claims.now in
    let t = c.args.total in
    let is = c.fill_by_ratio.ensures in
    record {
      shared = shared equal_ratio xs t _ c.args.parts.now _ (ratio_fair xs t) c.in_ok-claimed.ensures is;
      places = subst (RatioPlaces xs t) (sym is) (ratio_places xs t);
    }
