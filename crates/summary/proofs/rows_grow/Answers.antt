use Rattle.summary.proofs.Growing.{grown}
use Rattle.summary.proofs.Staying.{stayed}
use Rattle.summary.proofs.rows_grow.Goals as goal

pub returns : goal.returns
returns c = record { grow = grown; stay = stayed }
