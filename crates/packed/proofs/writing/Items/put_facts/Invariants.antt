use Rattle.std.proofs.Common.{◌≡◌, drop, length}
use Rattle.packed.specs.Batch.{Left}
use Rattle.packed.proofs.writing.Items.put_facts.Given as goal

abbrev pub invariant-loop-fact : goal.invariant-loop-fact
invariant-loop-fact l = record {
  left : Left l.position l.fact-index l.fn.self.bytes.items l.self.bytes.items (length l.fn.self.bytes.items) (length l.self.bytes.items) l.facts (drop l.fact-index l.facts);
  limit : l.self.bytes.limit ≡ l.fn.self.bytes.limit;
  block : l.self.bytes.block ≡ l.fn.self.bytes.block;
}
