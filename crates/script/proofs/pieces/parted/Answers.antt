use Rattle.std.proofs.Common.{rules}
use Rattle.std.specs.Prelude.{◌==◌}
use Rattle.std.proofs.lemmas.Iterator.Splits.{YieldsList-from_slice_split}
use borrow.Author.Tests.{tests}
use Rattle.script.specs.Pieces.{pieces}
use Rattle.script.proofs.pieces.parted.Goals as goal

pub returns : goal.returns
unfolding pieces
returns g c = λ item reads. c.arguments.ensures _ item (YieldsList-from_slice_split _ (λ b. b == 44) c.args.text.now c.split.ensures.rest c.split.ensures.done c.split.ensures.closure (λ x b q k. search (rules, tests))).runs reads
