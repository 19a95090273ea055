-- The parts of what the check of a table answers.
use Rattle.std.specs.Prelude.{List, Some, None, Ok, Err, vec_items, Option, Result}
use Rattle.refusal.specs.declared.Refusal.{Refusal}
use Rattle.table.specs.declared.node.Node.{Node}
use Rattle.table.specs.Form.{Declarations}
use Rattle.table.specs.declared.raw_table.Table.{Table}
use Rattle.policy.specs.declared.checking.RefusedTable.{RefusedTable}
use Rattle.policy.specs.declared.checked.Policy.{Policy}

abbrev pub refusal_in : Result Policy RefusedTable → Option Refusal
refusal_in (Ok p) = None
refusal_in (Err x) = Some x.refusal

abbrev pub table_in : Result Policy RefusedTable → Table
table_in (Ok p) = p.table
table_in (Err x) = x.table

-- the nodes and the declarations of a policy
abbrev pub nodes_of : Policy → List Node
nodes_of p = vec_items p.table.nodes

abbrev pub declarations_of : Policy → Declarations
declarations_of p = p.table.declarations
