use Rattle.std.proofs.Common.{rules, sym, ◌∙◌, ap, length}
use Rattle.std.specs.Prelude.{not, ◌==◌}
use Rattle.std.proofs.lemmas.Iterator.{YieldsList-from_slice}
use Rattle.std.proofs.lemmas.Iterator.Search.{position_from_yields_List}
use borrow.Author.Tests.{tests}
use Rattle.script.specs.Pieces.{pieces}
use Rattle.script.proofs.Parting.{first_word, none_left}
use Rattle.script.proofs.words.WordsIterator.next.Goals as goal

pub returns-in_err-start-clause-steps : goal.returns-in_err-start-clause-steps
unfolding pieces
returns-in_err-start-clause-steps c =
    let start = position_from_yields_List (λ b. not (b == 32)) _ _ c.position.result c.position.ensures.ran (YieldsList-from_slice c.args.self.now.left.now cc) (λ x b q k. search (rules, tests)) in
    let none = none_left (λ b. b == 32) c.args.self.now.left.now (sym start ∙ c.in_err-start.was) in
    search rules

pub returns-clause-steps : goal.returns-clause-steps
unfolding pieces
returns-clause-steps c =
    let start = position_from_yields_List (λ b. not (b == 32)) _ _ c.position.result c.position.ensures.ran (YieldsList-from_slice c.args.self.now.left.now cc) (λ x b q k. search (rules, tests)) in
    let end = position_from_yields_List (λ b. b == 32) _ _ c.position-2.result c.position-2.ensures.ran (YieldsList-from_slice c.split_at.result.1.now cc) (λ x b q k. search (rules, tests)) in
    let word = first_word (λ b. b == 32) c.args.self.now.left.now c.in_ok-start.start (sym start ∙ c.in_ok-start.was) in
    cc

pub returns-clause-goes : goal.returns-clause-goes
unfolding pieces
returns-clause-goes c = let shorter = ap length (returns-clause-steps c) in search rules
