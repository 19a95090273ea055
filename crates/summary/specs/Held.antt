-- What a table of 512 rows holds.
use Rattle.std.specs.Prelude.{[], Some, slice_index_or}
use Rattle.summary.specs.declared.row_table.RowTable.{RowTable}
use Rattle.summary.specs.Kept.{Kept}
use Rattle.summary.specs.Layout.{laid}

-- of each node its rows, or None where they are lost; a node from 32 on does not exist and has no rows
abbrev pub held_by : RowTable → Kept
held_by t n = slice_index_or (laid t.counts t.rows.items) n (Some [])
