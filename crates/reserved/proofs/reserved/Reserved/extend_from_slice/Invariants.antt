use Rattle.std.proofs.Common.{◌≡◌, ◌++◌, take}
use Rattle.reserved.specs.Room.{holding}
use Rattle.reserved.proofs.reserved.Reserved.extend_from_slice.Given as goal

abbrev pub invariant-loop-item : goal.invariant-loop-item
invariant-loop-item g l = l.self ≡ holding l.fn.self (l.fn.self.items ++ take l.item-index l.items)
