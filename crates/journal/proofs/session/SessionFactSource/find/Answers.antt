use Rattle.std.proofs.Common.{◌≡◌, ℕ, ◌+◌, ◌^◌, min, true, false, eqb, ltb, length, sym, refl, ap, ◌∙◌, arith}
use Rattle.std.proofs.lemmas.Bool.{lt-ltb, le-ltb, and_right}
use Rattle.facts.specs.Facts.{answerable}
use Rattle.journal.specs.Trace.{shown}
use Rattle.journal.specs.LayersLemmas.{same_found}
use Rattle.journal.proofs.session.SessionFactSource.find.Goals as goal

pub returns : goal.returns
returns g c =
    let s = c.args.self.now in
    let f = g.J.FactSource.facts s.lower in
    let b = min s.base (shown (g.J.Journal.trace s.lower)) in
    let at = c.in-Some.ensures in
    let e : c.in-Some.below ≡ c.args.position + b = at.1 ∙ ap (λ (n : ℕ). c.args.position + n) c.hidden.ensures in
    let near : ltb (c.args.position + b) (2 ^ 64) ≡ true = lt-ltb _ _ (omega (arith, at.0, c.hidden.ensures)) in
    same_found f _ c.in-Some.below c.args.position c.args.query.now c.args.after refl
    (λ vs. rw near (ap (λ (n : ℕ). f.holds n c.args.query.now.predicate vs) (sym e))) c.find.result c.find.ensures

pub returns-in_default : goal.returns-in_default
returns-in_default g c =
    let s = c.args.self.now in
    let b = min s.base (shown (g.J.Journal.trace s.lower)) in
    let far : ltb (c.args.position + b) (2 ^ 64) ≡ false = le-ltb _ _ (omega (arith, c.in_default.ensures, c.hidden.ensures)) in
    record {
      cases = (
        sym (c.in_ok-allow.ensures ∙ ap (λ K. answerable K c.args.query.now) c.known.ensures),
        λ vs. rw far (and_right (eqb (length vs) c.args.query.now.given.count) false refl),
      );
    }
