use Rattle.policy.proofs.Verdicts.{refused_unless_accepted}
use Rattle.policy.proofs.checking.check_stands.Goals as goal

pub returns : goal.returns
returns c = refused_unless_accepted
