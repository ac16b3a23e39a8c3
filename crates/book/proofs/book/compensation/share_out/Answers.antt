use Rattle.std.proofs.Common.{◌≡◌, length, None, IfOk, ap, ◌∙◌, subst}
use Rattle.sharing.specs.Declining.{placed}
use Rattle.sharing.specs.Laws.{Fair}
use Rattle.sharing.specs.Questions.{declined}
use Rattle.sharing.specs.Asked.{compensation_accepted}
use Rattle.market.proofs.Declining.{is_answered}
use Rattle.book.proofs.book.compensation.share_out.Goals as goal

pub unwrap-requires : goal.unwrap-requires
unwrap-requires g c =
    let xs = c.args.claims.now in
    let t = c.args.total in
    let none : declined xs t (length c.args.parts.now) ≡ None = ap (declined xs t) c.requires.long ∙ compensation_accepted xs t c.requires.few c.requires.each c.requires.some c.requires.small in
    is_answered c.share.result (declined xs t (length c.args.parts.now)) tt c.share.ensures.answer none

pub returns : goal.returns
returns g c =
    let xs = c.args.claims.now in
    let t = c.args.total in
    let old = c.args.parts.now in
    let none : declined xs t (length old) ≡ None = ap (declined xs t) c.requires.long ∙ compensation_accepted xs t c.requires.few c.requires.each c.requires.some c.requires.small in
    let fair : Fair xs t c.share.new.parts = subst (λ r. IfOk r (λ x. Fair xs t c.share.new.parts)) c.unwrap.ensures c.share.ensures.fair in
    record { parts = c.share.ensures.after ∙ ap (λ w. placed w (g.R.Share.shares c.args.rule.now xs t) old) none; adds = fair.adds }
