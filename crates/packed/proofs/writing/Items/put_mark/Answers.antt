use Rattle.std.proofs.Common.{arith, rules}
use Rattle.packed.specs.Meaning.{width}
use Rattle.packed.specs.Coding.{puts_encoded}
use Rattle.packed.proofs.Steps.{mark_put}
use Rattle.packed.proofs.writing.Items.put_mark.Goals as goal

pub invariant_of-self : goal.invariant_of-self
invariant_of-self c =
    let i = c.args.self.now in
    let p = mark_put i.bytes _ _ c.args.stamp _ i.whole (search rules) c.push.ensures c.to_le_bytes.ensures c.extend_from_slice.ensures in
    record { room = omega (arith, p.len, p.limit, c.requires); whole = p.puts.whole; encoded = puts_encoded width i.bytes.items _ _ i.encoded p.puts }

pub returns : goal.returns
returns c = mark_put c.args.self.now.bytes _ _ c.args.stamp _ c.args.self.now.whole (search rules) c.push.ensures c.to_le_bytes.ensures c.extend_from_slice.ensures
