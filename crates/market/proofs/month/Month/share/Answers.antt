use Rattle.std.proofs.Common.{◌≡◌, ◌-◌, ◌+◌, get_or, length, take, drop, sum, sym, refl, ap, ◌∙◌, arith, rules}
use Rattle.sharing.specs.Asked.{rank_accepted}
use Rattle.sharing.specs.Declining.{placed}
use Rattle.sharing.specs.Questions.{declined}
use Rattle.market.specs.Dealing.{laid, laid_ranks}
use Rattle.market.specs.Dividing.{energy, kwhs}
use Rattle.market.specs.Figures.{claims_of}
use Rattle.market.specs.Kinds.{rank_number}
use Rattle.market.proofs.Dealt.{given, laid_as, claims_few, claims_whole, contracted_ranks, contracted_rank, never_commissioning, laid_next}
use Rattle.market.proofs.Declining.{is_answered}
use Rattle.market.proofs.month.Month.share.Goals as goal

pub unwrap-requires : goal.unwrap-requires
unwrap-requires g c =
    let cs = c.args.self.now.contracts.now in
    let settled = c.args.settled.now in
    let i = c.loop-rank.rank-index in
    let n = rank_number (contracted_rank i) in
    let xs = c.deref.result.now in
    let t = c.kwh.result in
    let sound = c.args.self.now.sound in
    let is : xs ≡ claims_of n cs = search rules in
    let total : t ≡ (get_or settled (n - 1) (energy 0)).kwh = c.kwh.ensures ∙ ap (λ k. (get_or settled k (energy 0)).kwh) c.place.ensures.value in
    let covered = given cs settled c.requires.covered (contracted_rank i) (never_commissioning i) in
    let long : length (take c.len.result c.loop-rank.room) ≡ length xs = search rules in
    let none = ap (declined xs t) long ∙ rank_accepted xs t (omega (arith, ap length is, claims_few n cs, sound.few)) (omega (arith, ap sum is, claims_whole n cs, sound.whole)) (omega (arith, ap sum is, total, covered)) in
    is_answered c.share.result (declined xs t (length (take c.len.result c.loop-rank.room))) tt c.share.ensures.answer none

pub loop-rank-preserved : goal.loop-rank-preserved
loop-rank-preserved g c =
    let cs = c.args.self.now.contracts.now in
    let settled = c.args.settled.now in
    let i = c.loop-rank.rank-index in
    let n = rank_number (contracted_rank i) in
    let xs = c.deref.result.now in
    let t = c.kwh.result in
    let sound = c.args.self.now.sound in
    let is : xs ≡ claims_of n cs = search rules in
    let total : t ≡ (get_or settled (n - 1) (energy 0)).kwh = c.kwh.ensures ∙ ap (λ k. (get_or settled k (energy 0)).kwh) c.place.ensures.value in
    let covered = given cs settled c.requires.covered (contracted_rank i) (never_commissioning i) in
    let long : length (take c.len.result c.loop-rank.room) ≡ length xs = search rules in
    let none = ap (declined xs t) long ∙ rank_accepted xs t (omega (arith, ap length is, claims_few n cs, sound.few)) (omega (arith, ap sum is, claims_whole n cs, sound.whole)) (omega (arith, ap sum is, total, covered)) in
    let es = c.loop-rank.energies in
    let rule = g.R.Share.shares c.args.rule.now in
    let parts = c.share.ensures.after ∙ ap (λ w. placed w (rule xs t) (take c.len.result c.loop-rank.room)) none ∙ ap (λ l. rule l t) is ∙ ap (rule (claims_of n cs)) total in
    ap (laid_ranks (λ k. rule (claims_of k cs) (get_or (kwhs settled) (k - 1) 0)) cs (drop (i + 1) contracted_ranks))
    (c.lay_out.ensures ∙ ap (λ ps. laid n cs ps es) parts ∙ laid_as rule cs settled n (n - 1) es es refl)
    ∙ sym (laid_next (λ k. rule (claims_of k cs) (get_or (kwhs settled) (k - 1) 0)) cs i es c.loop-rank-test.true)
    ∙ c.loop-rank.invariant
