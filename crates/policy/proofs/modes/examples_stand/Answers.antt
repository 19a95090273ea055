use Rattle.std.proofs.Common.{refl}
use Rattle.sets.specs.Sets.{members, none, ◌∪◌, ◌∖◌, single, below, empty}
use Rattle.policy.proofs.modes.examples_stand.Goals as goal

pub returns : goal.returns
unfolding members none ◌∪◌ ◌∖◌ single below empty
returns c = (refl, (refl, (refl, (refl, (refl, (refl, tt))))))
