use Rattle.std.proofs.lemmas.Iterator.{YieldsList-from_slice}
use Rattle.std.proofs.lemmas.Iterator.Search.{position_from_yields_List}
use Rattle.question.proofs.Stretching.{place_found}
use Rattle.question.proofs.stretch.stretch.Goals as goal

pub returns-clause-place : goal.returns-clause-place
returns-clause-place g c p h =
    place_found p c.args.text.now c.position.result _ (position_from_yields_List p _ _ _ c.position.ensures.ran (YieldsList-from_slice c.args.text.now cc) h) c.unwrap_or.ensures
