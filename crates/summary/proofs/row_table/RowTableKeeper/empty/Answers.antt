use Rattle.summary.proofs.Tables.{none_held}
use Rattle.summary.proofs.row_table.RowTableKeeper.empty.Goals as goal

pub returns : goal.returns
returns c = none_held c.clear.new.self.items
