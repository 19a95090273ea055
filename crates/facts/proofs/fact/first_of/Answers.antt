use Rattle.std.proofs.Common.{ℕ, List, take, ap, ◌∙◌}
use Rattle.facts.proofs.Tuples.{take_min, of_three}
use Rattle.facts.proofs.fact.first_of.Goals as goal

pub returns : goal.returns
returns c =
    ap (λ (n : ℕ). take n c.args.values.now) c.min.ensures
    ∙ take_min c.args.count 3 c.args.values.now c.told-values
    ∙ ap (λ (vs : List ℕ). take c.args.count vs) (of_three 0 c.args.values.now c.told-values)
