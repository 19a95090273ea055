use Rattle.std.proofs.Common.{◌≡◌, [], List, ℕ, length, ap, arith, rules}
use Rattle.packed.specs.Growth.{kept_empty}
use Rattle.packed.proofs.writing.Items.new.Goals as goal

pub invariant_of-result : goal.invariant_of-result
invariant_of-result c =
    let empty : c.in_ok-bytes.bytes.items ≡ [] = search rules in
    let k = kept_empty c.in_ok-bytes.bytes.items empty in
    record { room = omega (arith, ap (λ (l : List ℕ). length l) empty); whole = k.whole; encoded = k.encoded }
