use Rattle.std.proofs.Common.{rules}
use Rattle.summary.proofs.Tables.{count_is, exists, fits}
use Rattle.summary.proofs.row_table.RowTable.place.Goals as goal

pub then-requires : goal.then-requires
then-requires c = λ h. search (rules, exists c.args.self.now c.args.node, fits c.args.self.now c.args.node, count_is c.args.self.now c.args.node)

pub returns : goal.returns
returns c = search (rules, count_is c.args.self.now c.args.node)
