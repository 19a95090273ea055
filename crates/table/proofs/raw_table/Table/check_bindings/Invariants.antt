use Rattle.std.proofs.Common.{◌≡◌, take, drop}
use Rattle.sets.specs.Sets.{members}
use Rattle.table.specs.Form.{first, in_turn, of_bindings, bound_by}
use Rattle.table.proofs.raw_table.Table.check_bindings.Given as goal

abbrev pub invariant-loop-i : goal.invariant-loop-i
invariant-loop-i l =
    (first (in_turn (of_bindings l.self.nodes.items) l.i (drop l.i l.self.nodes.items)) ≡ first (in_turn (of_bindings l.self.nodes.items) 0 l.self.nodes.items))
    × (members l.bound ≡ bound_by (take l.i l.self.nodes.items))
