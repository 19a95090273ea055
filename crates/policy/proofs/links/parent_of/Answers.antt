use Rattle.std.proofs.Common.{ℕ, Option, ap, ◌∙◌, rules, tests}
use Rattle.std.specs.Option.{unwrap_or}
use Rattle.std.proofs.lemmas.Iterator.{YieldsList-from_slice}
use Rattle.std.proofs.lemmas.Iterator.Adapters.{position_from-zero}
use Rattle.std.proofs.lemmas.Iterator.Search.{position_from_yields_List}
use Rattle.policy.proofs.Parents.{has_child, scanned}
use Rattle.policy.proofs.links.parent_of.Goals as goal

pub returns : goal.returns
returns c =
    let ns = c.args.nodes.now in
    let k = c.args.child in
    let found = position_from_yields_List (has_child k) _ _ c.position.result c.position.ensures.ran (YieldsList-from_slice ns cc) (λ x b q k. search (rules, tests)) in
    c.unwrap_or.ensures ∙ ap (λ (o : Option ℕ). unwrap_or o k) (found ∙ position_from-zero (has_child k) ns) ∙ scanned k 0 ns
