use Rattle.std.proofs.Common.{◌+◌, ◌*◌, max}
use Rattle.policy.proofs.modes.Walk.+walk.Given as goal

abbrev pub decreases-from_node : goal.decreases-from_node
decreases-from_node l = 3 * l.n + 2

abbrev pub decreases-through : goal.decreases-through
decreases-through l = 3 * l.n + 1

abbrev pub decreases-through_or : goal.decreases-through_or
decreases-through_or l = 3 * max l.left l.right + 3

abbrev pub decreases-through_forall : goal.decreases-through_forall
decreases-through_forall l = 3 * max l.left l.right + 3

abbrev pub decreases-through_sides : goal.decreases-through_sides
decreases-through_sides l = 3 * max l.left l.right + 3

abbrev pub decreases-through_exists : goal.decreases-through_exists
decreases-through_exists l = 3 * l.body + 3
