use Rattle.std.proofs.Common.{◌<◌, Bool, cond, length, Some, None, sym, ap, ◌∙◌, rules}
use Rattle.refusal.specs.Causes.{refusal_at}
use Rattle.refusal.specs.declared.Cause.TheVariants.{NotOneParent}
use Rattle.table.specs.Form.{of_parents}
use Rattle.table.proofs.Questions.{turn_stop}
use Rattle.table.proofs.raw_table.Table.check_parents.Goals as goal

pub returns-then-not_one_parent : goal.returns-then-not_one_parent
returns-then-not_one_parent c =
    let ns = c.args.self.now.nodes.items in
    let within : c.loop-i.i < length ns = search rules in
    let asked = ap (λ (b : Bool). cond b (Some (refusal_at NotOneParent c.loop-i.i)) None) (sym c.if-not_one_parent.true ∙ c.not_one_parent.ensures) in
    rw c.at.ensures (sym (turn_stop (of_parents ns) _ _ _ within asked) ∙ c.loop-i.invariant)
