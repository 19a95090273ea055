use Rattle.std.proofs.Common.{◌≡◌, Some, None, Ok, arith, sym, ap, ◌∙◌}
use Rattle.facts.specs.Calculated.{calculated, relation_of}
use Rattle.facts.specs.Facts.{answerable, allowed}
use Rattle.facts.proofs.Relations.{found, unrelated}
use Rattle.facts.proofs.calculated.CalculatedFactSource.find.Goals as goal

pub returns : goal.returns
returns c =
    let q = c.args.query.now in
    let h : allowed calculated q ≡ Ok tt = sym (c.in_ok-allow.ensures ∙ ap (λ K. answerable K q) c.known.ensures) in
    let e : relation_of q.predicate ≡ Some c.in_ok-relation.relation = grind arith in
    found c.args._position q c.args.after c.in_ok-relation.relation c.least.result e h c.least.ensures

pub returns-in_err-relation : goal.returns-in_err-relation
returns-in_err-relation c =
    let q = c.args.query.now in
    let h : allowed calculated q ≡ Ok tt = sym (c.in_ok-allow.ensures ∙ ap (λ K. answerable K q) c.known.ensures) in
    let e : relation_of q.predicate ≡ None = grind arith in
    absurd (unrelated q e h)
