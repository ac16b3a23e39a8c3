use Rattle.book.proofs.Runs.{run_law}
use Rattle.book.proofs.theorems.run_law_stands.Goals as goal

pub returns : goal.returns
returns c = run_law
