use Rattle.std.proofs.Common.{◌≡◌, length, get_or, refl, ◌∙◌}
use Rattle.book.specs.declared.call.Call.TheVariants.{Enrol}
use Rattle.book.specs.Calls.{Makes}
use Rattle.book.specs.Holds.{ledger_of}
use Rattle.book.specs.Tallies.Run.{none}
use Rattle.journal.proofs.Runs.{run_more, run_whole}
use Rattle.journal.proofs.replaying.make_all.Goals as goal

pub loop-i-init : goal.loop-i-init
loop-i-init g c = none

pub loop-i-preserved : goal.loop-i-preserved
loop-i-preserved g c =
    let calls = c.args.calls.now in
    let i = c.loop-i.i in
    let alike : length c.loop-i.answers ≡ length calls = c.loop-i.auto.answers ∙ c.requires in
    let past = Enrol 0 0 record { micro = 0 } in
    let at = get_or calls i past in
    let made : Makes (ledger_of g.R.Share.shares c.loop-i.book) at (ledger_of g.R.Share.shares c.make.new.book) c.make.result = c.make.ensures in
    run_more (ledger_of g.R.Share.shares c.args.book.now) (ledger_of g.R.Share.shares c.loop-i.book) (ledger_of g.R.Share.shares c.make.new.book) calls c.loop-i.answers i past at c.make.result c.loop-i-test.true alike refl c.loop-i.invariant made

pub returns : goal.returns
returns g c =
    let calls = c.args.calls.now in
    let alike : length c.loop-i.answers ≡ length calls = c.loop-i.auto.answers ∙ c.requires in
    run_whole _ _ calls c.loop-i.answers c.loop-i.i c.loop-i-test.false alike c.loop-i.invariant
