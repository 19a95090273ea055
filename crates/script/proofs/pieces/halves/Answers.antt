use Rattle.std.proofs.Common.{rules, sym, refl, ◌∙◌}
use Rattle.std.specs.Prelude.{◌==◌}
use Rattle.std.proofs.lemmas.Iterator.{YieldsList-from_slice}
use Rattle.std.proofs.lemmas.Iterator.Search.{position_from_yields_List}
use Rattle.std.proofs.lemmas.List.{take_rest}
use borrow.Author.Tests.{tests}
use Rattle.script.specs.Pieces.{pieces}
use Rattle.script.proofs.Parting.{no_halves, halves}
use Rattle.script.proofs.pieces.halves.Goals as goal

pub returns-in_err-at : goal.returns-in_err-at
unfolding pieces
returns-in_err-at c =
    let at = position_from_yields_List (λ b. b == c.args.mark) _ _ c.position.result c.position.ensures.ran (YieldsList-from_slice c.args.text.now cc) (λ x b q k. search (rules, tests)) in
    let none = no_halves (λ b. b == c.args.mark) c.args.text.now (sym at ∙ c.in_err-at.was) in
    search rules

pub returns-then-contains : goal.returns-then-contains
unfolding pieces
returns-then-contains c =
    let at = position_from_yields_List (λ b. b == c.args.mark) _ _ c.position.result c.position.ensures.ran (YieldsList-from_slice c.args.text.now cc) (λ x b q k. search (rules, tests)) in
    let again = simp take_rest at (sym c.contains.ensures.value ∙ c.if-contains.true) in
    halves (λ b. b == c.args.mark) c.args.text.now c.in_ok-at.at (sym at ∙ c.in_ok-at.was) ∙ rw again refl

pub returns-else-contains : goal.returns-else-contains
unfolding pieces
returns-else-contains c =
    let at = position_from_yields_List (λ b. b == c.args.mark) _ _ c.position.result c.position.ensures.ran (YieldsList-from_slice c.args.text.now cc) (λ x b q k. search (rules, tests)) in
    let once = simp take_rest at (sym c.contains.ensures.value ∙ c.if-contains.false) in
    simp take_rest (halves (λ b. b == c.args.mark) c.args.text.now c.in_ok-at.at (sym at ∙ c.in_ok-at.was) ∙ rw once refl)
