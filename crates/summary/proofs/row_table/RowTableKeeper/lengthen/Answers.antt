use Rattle.std.proofs.Common.{rules}
use Rattle.summary.proofs.Tables.{raised_held, none_raised}
use Rattle.summary.proofs.row_table.RowTableKeeper.lengthen.Goals as goal

pub returns-in-Some : goal.returns-in-Some
returns-in-Some c = rw (c.saturating_add-row.ensures, c.row_mut-row.ensures.value) (raised_held c.args.self.now c.args.node c.args.index c.in-Some.at (search rules))

pub returns-in_default : goal.returns-in_default
returns-in_default c = none_raised c.args.self.now c.args.node c.args.index (search rules)
