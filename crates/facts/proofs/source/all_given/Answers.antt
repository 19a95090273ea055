use Rattle.std.proofs.Common.{◌≡◌, None, ℕ, rules, sym, refl, ap, ◌∙◌}
use Rattle.std.proofs.lemmas.Iterator.{YieldsList-from_slice, YieldsList-from_range, YieldsList-from_zip}
use Rattle.std.proofs.lemmas.Iterator.Search.{position_from_yields_List}
use Rattle.std.specs.List.{position, range_with_len, zip}
use borrow.Author.Tests.{tests}
use Rattle.refusal.specs.declared.Cause.TheVariants.{ValueAbsent}
use Rattle.sets.specs.Sets.{members}
use Rattle.facts.specs.Facts.{missing, given}
use Rattle.facts.proofs.Tuples.{refused, refused_first, of_three}
use Rattle.facts.proofs.source.all_given.Goals as goal

pub returns : goal.returns
returns c =
    let K = members c.args.needed in
    let gs = c.args.values.now in
    let e : c.position.result ≡ position (λ p. missing K p.0 p.1) (zip (range_with_len 0 3) gs) =
    position_from_yields_List _ c.position.new.self _ c.position.result c.position.ensures.ran
    (YieldsList-from_zip (YieldsList-from_range 0 3 3 c.zip.ensures.first refl) (YieldsList-from_slice gs c.zip.ensures.second.0)) (λ x b q k. search (rules, tests)) in
    let r : c.map_or.result ≡ refused ValueAbsent c.position.result = search rules in
    r ∙ ap (refused ValueAbsent) (e ∙ ap (λ (n : ℕ). position (λ p. missing K p.0 p.1) (zip (range_with_len 0 n) gs)) (sym c.told-values)) ∙ refused_first K gs
    ∙ ap (given K 0) (of_three None gs c.told-values)
