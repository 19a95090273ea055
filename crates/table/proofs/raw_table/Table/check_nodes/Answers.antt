use Rattle.std.proofs.Common.{sym, ◌∙◌}
use Rattle.std.proofs.lemmas.Result.{err_from_is_err_and}
use Rattle.table.specs.Form.{of_node}
use Rattle.table.proofs.Questions.{turn_stop}
use Rattle.table.proofs.raw_table.Table.check_nodes.Goals as goal

pub returns-in_err-check_node : goal.returns-in_err-check_node
returns-in_err-check_node c =
    let p = err_from_is_err_and c.from_residual.result c.from_residual.ensures.1 in
    let same = c.deref-node-items.ensures.value in
    rw (p.1, p.2)
    (sym (turn_stop (of_node c.args.self.now.declarations c.args.self.now.nodes.items) _ _ _ (rw same at c.loop-i-test.true) (rw same at c.in_err-check_node.ensures))
    ∙ c.loop-i.invariant)
