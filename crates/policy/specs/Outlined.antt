-- What the passes over a formed table rest on.
use Rattle.std.specs.Prelude.{◌≤◌, List, length}
use Rattle.table.specs.declared.node.Node.{Node}
use Rattle.sets.specs.declared.SmallSet.{SmallSet}
use Rattle.table.specs.Formula.{formulas, FreeUpTo}
use Rattle.table.specs.Form.{Descends}

-- at most 32 nodes, whose children are numbered below them, with the free variables of each
pub record Outlined (ns : List Node) (free : List SmallSet) : Type 0 where
  pub few : length ns ≤ 32
  pub descends : Descends ns
  pub sets : FreeUpTo free (length ns) (formulas ns)
