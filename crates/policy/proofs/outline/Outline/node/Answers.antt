use Rattle.std.proofs.Common.{◌≡◌, cond, ltb, length, Some, None, MatchOption, Option, rules}
use Rattle.std.proofs.lemmas.Bool.{cond_both, ltb-true, ltb-false}
use Rattle.table.specs.declared.node.Node.{Node}
use Rattle.table.specs.Formula.{verum, formulas, formula_at, formula_of}
use Rattle.table.specs.Form.{node_at}
use Rattle.table.proofs.Unrolled.{unrolled, formula_past}
use Rattle.policy.proofs.outline.Outline.node.Goals as goal

pub returns-clause-stands : goal.returns-clause-stands
returns-clause-stands c =
    let ns = c.args.self.nodes.now in
    let n = c.args.n in
    let is : c.copied.result ≡ cond (ltb n (length ns)) (Some (node_at ns n)) None = search rules in
    rw is (cond_both (ltb n (length ns)) (Some (node_at ns n)) None (λ (r : Option Node). MatchOption r (formula_at ns n ≡ verum 0) (λ x. formula_at ns n ≡ formula_of (formulas ns) n x))
    (λ e. let l = ltb-true n (length ns) e in unrolled ns n l (c.args.self.outlined.descends n l))
    (λ e. formula_past ns n (ltb-false n (length ns) e)))
