use Rattle.std.proofs.Common.{◌∙◌, arith}
use Rattle.market.specs.Kinds.{rank_number}
use Rattle.market.proofs.Dealt.{claims_added, claims_whole}
use Rattle.market.proofs.month.Month.claim_in.Goals as goal

pub rank_energy-requires : goal.rank_energy-requires
rank_energy-requires c =
    let n = rank_number c.args.rank in
    let cs = c.args.self.now.contracts.now in
    omega (arith, claims_added n cs, claims_whole n cs, c.args.self.now.sound.whole)

pub returns : goal.returns
returns c = c.from_kwh.ensures ∙ c.rank_energy.ensures ∙ claims_added (rank_number c.args.rank) c.args.self.now.contracts.now
