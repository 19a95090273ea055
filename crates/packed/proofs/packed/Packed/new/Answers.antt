use Rattle.std.proofs.Common.{◌≡◌, [], rules}
use Rattle.packed.specs.Growth.{kept_empty}
use Rattle.packed.proofs.packed.Packed.new.Goals as goal

pub invariant_of-result : goal.invariant_of-result
invariant_of-result c =
    let empty : c.in_ok-items.items.bytes.items ≡ [] = search rules in
    let k = kept_empty c.in_ok-items.items.bytes.items empty in
    record { bounded = search rules; counted = k.counted; following = k.following; last = search rules; placed = k.placed; rising = k.rising }
