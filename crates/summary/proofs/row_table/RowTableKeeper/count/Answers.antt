use Rattle.std.proofs.Common.{sym, ap, ◌∙◌}
use Rattle.summary.specs.Layout.{size}
use Rattle.summary.proofs.Tables.{count_is}
use Rattle.summary.proofs.row_table.RowTableKeeper.count.Goals as goal

pub returns : goal.returns
returns c = c.unwrap_or.ensures ∙ ap size c.count_of.ensures ∙ sym (count_is c.args.self.now c.args.node)
