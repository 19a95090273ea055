use Rattle.mfotl.proofs.Examples.{stand}
use Rattle.mfotl.proofs.Quantified.{quantified}
use Rattle.mfotl.proofs.examples_stand.Goals as goal

pub returns : goal.returns
returns c = record { table = stand; quantified = quantified }
