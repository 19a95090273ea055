use Rattle.std.proofs.Common.{◌≡◌, ◌+◌, ◌*◌, ◌++◌, take, length}
use Rattle.std.specs.List.{flat_map}
use Rattle.packed.specs.Format.{le}
use Rattle.packed.specs.Meaning.{width}
use Rattle.packed.proofs.writing.put_values.Given as goal

abbrev pub invariant-loop-value : goal.invariant-loop-value
invariant-loop-value l = record {
  items : l.bytes.items ≡ l.fn.bytes.items ++ flat_map (le width) (take l.value-index l.values);
  len : length l.bytes.items ≡ length l.fn.bytes.items + width * l.value-index;
  limit : l.bytes.limit ≡ l.fn.bytes.limit;
  block : l.bytes.block ≡ l.fn.bytes.block;
}
