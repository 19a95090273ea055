use Rattle.std.proofs.Common.{sym, ◌∙◌, arith}
use Rattle.table.proofs.Unrolled.{formula_past}
use Rattle.policy.specs.Checked.{nodes_of, declarations_of}
use Rattle.policy.proofs.Parents.{parent_past}
use Rattle.policy.proofs.checked.Policy.note.Goals as goal

pub returns-else-n-node_count : goal.returns-else-n-node_count
returns-else-n-node_count c =
    let p = c.args.self.now in
    let past = formula_past (nodes_of p) c.args.n (omega arith) in
    record {
      variables = rw past c.blank.ensures.variables;
      waits = rw past c.blank.ensures.waits;
      rows = rw past c.blank.ensures.rows;
      link = c.blank.ensures.link ∙ sym (parent_past (declarations_of p) (nodes_of p) c.args.n p.accepted.formed (omega arith));
    }
