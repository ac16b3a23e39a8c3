use Rattle.std.proofs.Common.{◌≡◌, [], ◌∷◌, sym, subst, rules}
use Rattle.market.specs.Kinds.{class_number}
use Rattle.book.specs.declared.call.Call.TheVariants.{Enrol, Meter, Issue}
use Rattle.book.specs.Calls.{Makes, told, told_paid}
use Rattle.book.specs.Holds.{ledger_of}
use Rattle.book.specs.Tallies.Run.{none, then}
use Rattle.journal.specs.Replays.{first_calls}
use Rattle.journal.proofs.Runs.{ran}
use Rattle.journal.proofs.direct.one_month.Goals as goal

pub returns : goal.returns
returns g c =
    let shares = g.R.Share.shares in
    let rule = c.args.rule in
    let p = c.args.plant in
    let enrolment = c.args.enrolment in
    let reading = c.args.reading in
    let b0 = ledger_of shares c.open.new.self in
    let b1 = ledger_of shares c.enrol-enrolled.new.self in
    let b2 = ledger_of shares c.meter-metered.new.self in
    let b3 = ledger_of shares c.issue-issued.new.self in
    let opens = c.in_ok-open.ensures in
    let paid1 : c.map.result ≡ told c.enrol-enrolled.result = search rules in
    let paid2 : c.map-2.result ≡ told c.meter-metered.result = search rules in
    let paid3 : c.map-3.result ≡ told_paid c.issue-issued.result = search rules in
    let m1 : Makes b0 (Enrol p (class_number enrolment.class) enrolment.approved) b1 c.map.result =
    subst (λ a. Makes b0 (Enrol p (class_number enrolment.class) enrolment.approved) b1 a) (sym paid1) (subst (λ k. Makes b0 (Enrol p k enrolment.approved) b1 (told c.enrol-enrolled.result)) c.from.ensures c.enrol-enrolled.ensures) in
    let m2 : Makes b1 (Meter p reading.metered reading.commissioning) b2 c.map-2.result =
    subst (λ a. Makes b1 (Meter p reading.metered reading.commissioning) b2 a) (sym paid2) c.meter-metered.ensures in
    let m3 : Makes b2 (Issue p) b3 c.map-3.result = subst (λ a. Makes b2 (Issue p) b3 a) (sym paid3) c.issue-issued.ensures in
    let answers = c.map.result ∷ c.map-2.result ∷ c.map-3.result ∷ [] in
    record {
      answer = opens.answer;
      left = ran (shares rule) (g.met.R.Share.fair rule) c.args.month c.args.residential (ledger_of shares c.args.book.now) b0 b3 (first_calls p enrolment reading) answers (sym opens.answer) opens.after (then m1 (then m2 (then m3 none)));
    }
