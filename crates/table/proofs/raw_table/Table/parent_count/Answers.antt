use Rattle.std.proofs.Common.{◌≡◌, ◌∙◌, rules}
use Rattle.std.specs.List.{sum_by}
use Rattle.table.specs.Form.{times, children}
use Rattle.table.proofs.Loops.{sum_by_times}
use Rattle.table.proofs.raw_table.Table.parent_count.Goals as goal

pub returns : goal.returns
returns c =
    let summed : c.sum.result ≡ sum_by (λ x. times c.args.child (children x)) c.args.self.now.nodes.items = search rules in
    summed ∙ sum_by_times c.args.child c.args.self.now.nodes.items
