use Rattle.std.proofs.Common.{◌≡◌, length}
use Rattle.table.specs.Formula.{formulas, FreeUpTo}
use Rattle.table.proofs.free.free_sets.Given as goal

abbrev pub invariant-loop-i : goal.invariant-loop-i
invariant-loop-i l = FreeUpTo l.sets l.i (formulas l.nodes) × (length l.sets ≡ 32)
