use Rattle.std.proofs.Common.{rules, arith}
use Rattle.summary.proofs.Tables.{row_some, row_none}
use Rattle.summary.proofs.row_table.RowTableKeeper.row.Goals as goal

pub returns : goal.returns
returns c = grind (arith, rules, row_some c.args.self.now c.args.node c.args.index, row_none c.args.self.now c.args.node c.args.index)
