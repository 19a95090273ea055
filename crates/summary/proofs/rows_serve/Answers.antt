use Rattle.summary.proofs.Serving.{serve}
use Rattle.summary.proofs.rows_serve.Goals as goal

pub returns : goal.returns
returns c = serve
