use Rattle.std.proofs.Common.{sym, refl, ◌∙◌}
use Rattle.journal.specs.LayersLemmas.{same_found}
use Rattle.journal.proofs.joined.JoinedFactSource.find.Goals as goal

pub returns-then-is_own : goal.returns-then-is_own
returns-then-is_own g c =
    let own = sym c.is_own.ensures ∙ c.if-is_own.true in
    same_found _ _ c.args.position c.args.position c.args.query.now c.args.after (rw own refl) (λ vs. rw own refl) c.find.result c.find.ensures

pub returns-else-is_own : goal.returns-else-is_own
returns-else-is_own g c =
    let other = sym c.is_own.ensures ∙ c.if-is_own.false in
    same_found _ _ c.args.position c.args.position c.args.query.now c.args.after (rw other refl) (λ vs. rw other refl) c.find-else-is_own.result c.find-else-is_own.ensures
