use Rattle.std.proofs.Common.{ℕ, ◌++◌, ◌≤◌, List, length, drop, [], ◌∷◌, ap, arith, ◌∙◌}
use Rattle.std.proofs.lemmas.List.{length-take}
use Rattle.facts.specs.Tuples.{three, padded}
use Rattle.facts.proofs.Tuples.{padded_front}
use Rattle.facts.proofs.fact.Fact.tuple.Goals as goal

pub returns : goal.returns
returns c =
    let vs = c.arguments-arguments.result.now in
    let few : length vs ≤ 3 = omega (arith, ap length c.arguments-arguments.ensures, length-take c.args.self.now.values.count (three c.args.self.now.values.first)) in
    ap (λ (us : List ℕ). us ++ drop (length vs) (0 ∷ 0 ∷ 0 ∷ [])) c.copy_from_slice.ensures.after ∙ padded_front vs few ∙ ap padded c.arguments-arguments.ensures
