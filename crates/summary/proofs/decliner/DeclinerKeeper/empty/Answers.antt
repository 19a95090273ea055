use Rattle.summary.proofs.Declining.{none_lost}
use Rattle.summary.proofs.decliner.DeclinerKeeper.empty.Goals as goal

pub returns : goal.returns
returns c = none_lost
