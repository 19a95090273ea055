use Rattle.std.proofs.Common.{rules, ap, ◌∙◌}
use Rattle.std.proofs.lemmas.Iterator.{YieldsList}
use Rattle.script.specs.Items.{with_item, with_items}
use Rattle.script.proofs.Folding.{try_fold_is}
use Rattle.script.proofs.pieces.arguments.Goals as goal

pub returns : goal.returns
returns g c = λ all item yields reads.
    let given : YieldsList g.I.Iterator.next_gives (λ text. text.now) c.args.texts all = record { runs = yields } in
    try_fold_is _ (with_item item) c.try_fold.result c.try_fold.ensures.ran given (λ b x v q k. search rules)
    ∙ ap (λ list. with_items item list all) c.none.ensures
