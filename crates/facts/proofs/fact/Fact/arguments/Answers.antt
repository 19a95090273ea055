use Rattle.std.proofs.Common.{ℕ, List, take, ap, ◌∙◌}
use Rattle.facts.proofs.Tuples.{of_three}
use Rattle.facts.proofs.fact.Fact.arguments.Goals as goal

pub returns : goal.returns
returns c = let x = c.args.self.now.values in c.kept.ensures.value ∙ ap (λ (vs : List ℕ). take x.count vs) (of_three 0 x.first c.kept.ensures.whole)
