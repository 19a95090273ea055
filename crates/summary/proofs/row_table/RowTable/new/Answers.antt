use Rattle.summary.proofs.Tables.{none_held}
use Rattle.summary.proofs.row_table.RowTable.new.Goals as goal

pub returns : goal.returns
returns c = none_held c.in_ok-rows.rows.items
