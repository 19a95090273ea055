use Rattle.script.proofs.Keeping.{lists_kept}
use Rattle.script.proofs.applied.lists_stand.Goals as goal

pub returns : goal.returns
returns c = lists_kept
