use Rattle.std.proofs.Common.{rules}
use Rattle.summary.proofs.Tables.{held_at}
use Rattle.summary.proofs.row_table.RowTableKeeper.is_lost.Goals as goal

pub returns : goal.returns
returns c = search (rules, held_at)
