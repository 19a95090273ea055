use Rattle.std.proofs.Common.{◌≡◌, take}
use Rattle.sets.specs.Sets.{members}
use Rattle.table.specs.Formula.{variables_at}
use Rattle.table.specs.Arguments.{kept}
use Rattle.table.proofs.terms.Terms.variables_at.Given as goal

abbrev pub invariant-loop-place : goal.invariant-loop-place
invariant-loop-place l = members l.found ≡ variables_at (members l.places) 0 (take l.place (kept l.self))
