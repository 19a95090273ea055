use Rattle.std.proofs.Common.{◌≡◌, drop}
use Rattle.table.specs.Form.{first, in_turn, of_node}
use Rattle.table.proofs.raw_table.Table.check_nodes.Given as goal

abbrev pub invariant-loop-i : goal.invariant-loop-i
invariant-loop-i l = first (in_turn (of_node l.self.declarations l.self.nodes.items) l.i (drop l.i l.self.nodes.items)) ≡ first (in_turn (of_node l.self.declarations l.self.nodes.items) 0 l.self.nodes.items)
