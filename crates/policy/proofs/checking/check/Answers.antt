use Rattle.std.proofs.Common.{◌≡◌, Some, None, vec_items, rules}
use Rattle.policy.specs.Verdict.{refusal_of}
use Rattle.policy.proofs.Verdicts.{decided, refused_unless_accepted}
use Rattle.policy.proofs.checking.check.Goals as goal

pub invariant_of-result : goal.invariant_of-result
invariant_of-result c =
    let table = c.args.table in
    let no_refusal : refusal_of table.declarations (vec_items table.nodes) ≡ None = search rules in
    record { accepted = (refused_unless_accepted table.declarations (vec_items table.nodes)).1 no_refusal; noted = search rules }

pub returns-in-Ok-clause-accepts : goal.returns-in-Ok-clause-accepts
returns-in-Ok-clause-accepts c = decided c.args.table.declarations c.args.table.nodes.items None c.in-Ok.ensures.refusal

pub returns-in-Err-clause-accepts : goal.returns-in-Err-clause-accepts
returns-in-Err-clause-accepts c = decided c.args.table.declarations c.args.table.nodes.items (Some c.in-Err.refusal) c.in-Err.ensures.refusal
