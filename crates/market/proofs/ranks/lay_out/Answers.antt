use Rattle.std.proofs.Common.{◌≡◌, ℕ, ◌+◌, ◌++◌, ◌∷◌, length, get_or, take, drop, Iter, sym, ap, ◌∙◌, subst, arith}
use Rattle.std.specs.Option.{MatchOption}
use Rattle.market.specs.Dealing.{laid}
use Rattle.market.specs.Kinds.{rank_number}
use Rattle.market.proofs.Dealt.{claims_hit, claims_miss, laid_hit, laid_miss, same_past, same_past_set}
use Rattle.market.proofs.ranks.lay_out.Goals as goal
use Rattle.market.proofs.ranks.lay_out.Goals.{then-is_of, else-is_of}

pub loop-i-preserved : goal.loop-i-preserved
loop-i-preserved c =
    let n = rank_number c.args.rank in
    let cs = c.args.contracts.now in
    let es = c.args.energies.now in
    let out = c.loop-i.energies in
    let ps = c.loop-i.parts.rest.now in
    let qs = c.if-is_of.parts.rest.now in
    let i = c.loop-i.i in
    let inv = c.loop-i.invariant in
    elim c.if-is_of.branch [
      | then-is_of w ↦
          let is = sym c.is_of.ensures ∙ w.if-is_of.true in
          let hit = claims_hit n cs i c.loop-i-test.true is in
          let more : ps ≡ w.unwrap.result.now ∷ w.next.new.self.rest.now = subst (λ r. MatchOption r ((length ps ≡ 0) × (w.next.new.self ≡ c.loop-i.parts)) (λ x. ps ≡ x.now ∷ w.next.new.self.rest.now)) w.unwrap.ensures w.next.ensures.steps in
          let left = ap (λ (it : Iter ℕ). it.rest.now) w.parts-is in
          let rest : qs ≡ drop 1 ps = left ∙ sym (ap (drop 1) more) in
          let first : w.from_kwh.result.kwh ≡ get_or ps 0 0 = w.from_kwh.ensures ∙ sym (ap (λ l. get_or l 0 0) more) in (
            omega (arith, ap length left, ap length more, ap length hit, inv.0),
            ap (drop (i + 1)) w.energies-is ∙ same_past_set out es i _ inv.1,
            ap (λ l. take (i + 1) l ++ laid n (drop (i + 1) cs) qs (drop (i + 1) es)) w.energies-is
                ∙ laid_hit n cs ps qs es out i w.from_kwh.result (omega arith) (omega arith) (omega arith) is first rest
                ∙ inv.2,
          )
      | else-is_of w ↦
          let is = sym c.is_of.ensures ∙ w.if-is_of.false in
          let miss = claims_miss n cs i c.loop-i-test.true is in
          let same = ap (λ (it : Iter ℕ). it.rest.now) w.parts-is in (
            ap length same ∙ inv.0 ∙ ap length miss,
            ap (drop (i + 1)) w.energies-is ∙ same_past out es i inv.1,
            ap (λ l. take (i + 1) l ++ laid n (drop (i + 1) cs) qs (drop (i + 1) es)) w.energies-is
                ∙ ap (λ l. take (i + 1) out ++ laid n (drop (i + 1) cs) l (drop (i + 1) es)) same
                ∙ laid_miss n cs ps es out i (omega arith) (omega arith) (omega arith) is inv.1
                ∙ inv.2,
          )
    ]
