use Rattle.std.proofs.Common.{◌+◌, arith}
use Rattle.mfotl.proofs.Tables.{well_formed}
use Rattle.mfotl.proofs.tables_stand.Goals as goal

pub returns : goal.returns
returns c = λ D ns w n l. well_formed D ns w (n + 1) n (omega arith) l
