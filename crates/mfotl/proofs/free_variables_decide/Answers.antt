use Rattle.mfotl.proofs.Freedom.{decided}
use Rattle.mfotl.proofs.free_variables_decide.Goals as goal

pub returns : goal.returns
returns c = decided
