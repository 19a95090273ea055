use Rattle.std.proofs.Common.{◌∙◌, arith}
use Rattle.std.proofs.lemmas.List.{length-set}
use Rattle.table.proofs.Unrolled.{free_more}
use Rattle.table.proofs.free.free_sets.Goals as goal

pub loop-i-preserved : goal.loop-i-preserved
loop-i-preserved c =
    let within = c.loop-i-test.true in (
      free_more c.loop-i.sets c.args.nodes.now c.loop-i.i c.free_of.result within (omega arith) (c.requires.1 c.loop-i.i within) c.loop-i.invariant.0 c.free_of.ensures,
      length-set c.loop-i.sets c.loop-i.i c.free_of.result ∙ c.loop-i.invariant.1,
    )
