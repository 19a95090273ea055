use Rattle.std.proofs.Common.{ℕ, rules, ap, ◌∙◌}
use Rattle.facts.specs.Tried.{pair_of}
use Rattle.facts.proofs.Relations.{chosen, not_chosen}
use Rattle.facts.proofs.calculated.Relation.least.Goals as goal

pub returns-in_err-x : goal.returns-in_err-x
returns-in_err-x c = rw c.from_residual.ensures (not_chosen c.args.self c.args.sought.now.query c.args.sought.now.after (search rules))

pub returns : goal.returns
returns c =
    let s = c.args.sought.now in
    let x = c.in_ok-x.x in
    chosen c.args.self x s.query s.after c.pair.result (search rules)
    (c.pair.ensures ∙ ap (λ (y : ℕ). pair_of c.args.self x y s.query s.after) c.second-y.ensures) (search rules)
