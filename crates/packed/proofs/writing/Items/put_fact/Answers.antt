use Rattle.std.proofs.Common.{arith, rules}
use Rattle.packed.specs.Meaning.{width}
use Rattle.packed.specs.Coding.{puts_encoded}
use Rattle.packed.proofs.Steps.{fact_put}
use Rattle.packed.proofs.writing.Items.put_fact.Goals as goal

pub invariant_of-self : goal.invariant_of-self
invariant_of-self c =
    let i = c.args.self.now in
    let p = fact_put i.bytes _ _ _ c.args.position c.args.fact.now _ _ i.whole c.requires.sound (search rules) c.put_values.ensures.fits
    c.push.ensures c.to_le_bytes.ensures c.extend_from_slice.ensures c.arguments.ensures c.put_values.ensures.bytes in
    record { room = omega (arith, p.len, p.limit, c.requires.room); whole = p.puts.whole; encoded = puts_encoded width i.bytes.items _ _ i.encoded p.puts }

pub returns : goal.returns
returns c =
    fact_put c.args.self.now.bytes _ _ _ c.args.position c.args.fact.now _ _ c.args.self.now.whole c.requires.sound (search rules) c.put_values.ensures.fits
    c.push.ensures c.to_le_bytes.ensures c.extend_from_slice.ensures c.arguments.ensures c.put_values.ensures.bytes
