use Rattle.std.proofs.Common.{sym, ap}
use Rattle.sharing.specs.Declining.{answered}
use Rattle.book.specs.declared.refusal.Refusal.{Refusal}
use Rattle.book.specs.Holds.{ledger_of}
use Rattle.journal.proofs.Runs.{ran}
use Rattle.journal.proofs.replaying.replay.Goals as goal

pub returns : goal.returns
returns g c =
    let rule = c.args.rule in
    let opens = c.in_ok-open.ensures in
    record {
      answer = ap (λ w. answered {E = Refusal} w tt) c.in_ok-may_replay.ensures;
      left = ran (g.R.Share.shares rule) (g.met.R.Share.fair rule) c.args.month c.args.residential (ledger_of g.R.Share.shares c.args.book.now) (ledger_of g.R.Share.shares c.open.new.self) (ledger_of g.R.Share.shares c.make_all.new.book) c.args.calls.now c.make_all.new.answers (sym opens.answer) opens.after c.make_all.ensures;
    }
