use Rattle.mfotl.proofs.Reaching.{reached}
use Rattle.mfotl.proofs.reach_stands.Goals as goal

pub returns : goal.returns
returns c = reached
