use Rattle.std.proofs.Common.{◌≡◌, None, List, Option, ℕ, rules, ap, ◌∙◌}
use Rattle.std.proofs.lemmas.Iterator.{YieldsList-from_slice, YieldsList-from_zip}
use Rattle.std.proofs.lemmas.Iterator.Consumers.{YieldsList-at}
use Rattle.std.proofs.lemmas.Iterator.Search.{all_from_yields_List}
use Rattle.std.specs.List.{list_all, zip}
use borrow.Author.Tests.{tests}
use Rattle.facts.specs.Tuples.{agrees, allows}
use Rattle.facts.proofs.Tuples.{agrees_pairs, of_three}
use Rattle.facts.proofs.sought.agrees.Goals as goal

pub returns : goal.returns
returns c =
    let gs = c.args.given.now in
    let vs = c.args.arguments.now in
    let all : c.all.result ≡ list_all (λ p. allows p.0 p.1) (zip gs vs) = all_from_yields_List (λ p. allows p.0 p.1) c.all.new.self _ c.all.result c.all.ensures.ran (YieldsList-from_zip (YieldsList-at c.zip.ensures.first (YieldsList-from_slice gs cc)) (YieldsList-from_slice vs c.zip.ensures.second.0)) (λ x b q k. search (rules, tests)) in
    all ∙ agrees_pairs gs vs ∙ ap (λ (l : List (Option ℕ)). agrees l vs) (of_three None gs c.told-given)
