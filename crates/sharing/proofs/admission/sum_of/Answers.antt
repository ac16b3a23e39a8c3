use Rattle.std.proofs.Common.{sum, zero-add, arith, rules, tests}
use Rattle.sharing.proofs.Tried.{tried, summed}
use Rattle.sharing.proofs.admission.sum_of.Goals as goal

pub returns : goal.returns
returns c =
    let xs = c.args.claims.now in
    let d = c.try_fold.ensures.ran in
    let e = tried _ (λ f a x r f' w. search (rules, tests)) _ d.0 d.1 _ _ _ _ _ _ d.4.1 d.4.2 d.5 d.6 in
    cc (e, summed 0 xs (omega arith), zero-add (sum xs))
