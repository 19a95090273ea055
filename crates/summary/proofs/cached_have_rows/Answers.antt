use Rattle.std.proofs.Common.{◌+◌, arith}
use Rattle.table.specs.Formula.{formula_at}
use Rattle.mfotl.proofs.Tables.{well_formed}
use Rattle.summary.proofs.Caching.{have_rows}
use Rattle.summary.proofs.cached_have_rows.Goals as goal

pub returns : goal.returns
returns c = λ D ns w n l h. have_rows D (formula_at ns n) (well_formed D ns w (n + 1) n (omega arith) l) h
