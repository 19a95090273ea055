use Rattle.std.proofs.Common.{rules, ◌≡◌, not, ap, ◌∙◌}
use Rattle.std.proofs.lemmas.Iterator.{YieldsList-from_slice}
use Rattle.std.proofs.lemmas.Iterator.Search.{position_from_yields_List}
use Rattle.std.specs.List.{position}
use borrow.Author.Tests.{tests}
use Rattle.facts.specs.Tuples.{recordable}
use Rattle.refusal.specs.declared.Cause.TheVariants.{BadFact}
use Rattle.facts.proofs.Tuples.{refused}
use Rattle.journal.proofs.Facts.{refused_first}
use Rattle.journal.proofs.journal.check_facts.Goals as goal

pub returns : goal.returns
returns c =
    let e : c.position.result ≡ position (λ x. not (recordable x)) c.args.facts.now = position_from_yields_List _ _ _ c.position.result c.position.ensures.ran (YieldsList-from_slice c.args.facts.now cc) (λ x b q k. search (rules, tests)) in
    let f : c.map_or.result ≡ refused BadFact c.position.result = search rules in
    f ∙ ap (refused BadFact) e ∙ refused_first c.args.facts.now
