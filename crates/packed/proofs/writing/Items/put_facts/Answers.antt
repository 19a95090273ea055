use Rattle.std.proofs.Common.{length, ◌∙◌, arith}
use Rattle.std.proofs.lemmas.List.{drop_more, drop_all}
use Rattle.packed.specs.Batch.{left_first, left_next, left_done}
use Rattle.packed.proofs.writing.Items.put_facts.Goals as goal

pub put_fact-requires : goal.put_fact-requires
put_fact-requires c =
    let f = left_first _ _ _ _ c.loop-fact.self.bytes.items _ _ 0 _ _ _ _ (drop_more _ _ _ c.loop-fact-test.true) c.loop-fact.invariant.left in
    record { sound = f.0; room = omega (arith, f.1, c.loop-fact.invariant.limit, c.requires.room) }

pub loop-fact-preserved : goal.loop-fact-preserved
loop-fact-preserved c =
    let e = c.put_fact.ensures in
    record { left = left_next _ _ _ _ _ _ _ _ _ _ _ _ (drop_more _ _ _ c.loop-fact-test.true) c.loop-fact.invariant.left e.puts e.len; limit = e.limit ∙ c.loop-fact.invariant.limit; block = e.block ∙ c.loop-fact.invariant.block }

pub returns : goal.returns
returns c =
    let i = c.args.self.now.bytes.items in
    let j = c.loop-fact.self.bytes.items in
    let d = left_done c.args.position c.loop-fact.fact-index i j (length i) (length j) c.args.facts.now _ (drop_all _ _ c.loop-fact-test.false) c.loop-fact.invariant.left in
    record { puts = d.0; len = d.1; limit = c.loop-fact.invariant.limit; block = c.loop-fact.invariant.block }
