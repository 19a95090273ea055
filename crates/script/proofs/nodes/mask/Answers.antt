use Rattle.std.proofs.Common.{rules}
use Rattle.std.specs.Prelude.{◌==◌}
use Rattle.std.proofs.lemmas.Iterator.Splits.{YieldsList-from_slice_split}
use borrow.Author.Tests.{tests}
use Rattle.script.specs.Nodes.{with_variable}
use Rattle.script.specs.Pieces.{pieces}
use Rattle.script.proofs.Folding.{try_fold_is}
use Rattle.script.proofs.nodes.mask.Goals as goal

pub returns : goal.returns
unfolding pieces
returns c = try_fold_is _ with_variable c.try_fold.result c.try_fold.ensures.ran (YieldsList-from_slice_split _ (λ b. b == 44) c.args.text.now c.split.ensures.rest c.split.ensures.done c.split.ensures.closure (λ x b q k. search (rules, tests))) (λ b x v q k. search rules)
