use Rattle.std.proofs.Common.{◌^◌, ◌<◌, take, sum_by, arith, rules}
use Rattle.std.proofs.lemmas.List.Sums.{sum_by-take-le}
use Rattle.summary.specs.Layout.{size}
use Rattle.summary.proofs.row_table.RowTable.start_of.Goals as goal

pub sum-requires-clause-fits : goal.sum-requires-clause-fits
sum-requires-clause-fits c =
    let fits : sum_by size (take c.args.node c.args.self.now.counts) < 2 ^ 64 = omega (arith, sum_by-take-le size c.args.self.now.counts c.args.node, c.args.self.now.counted, c.args.self.now.few) in
    search rules
