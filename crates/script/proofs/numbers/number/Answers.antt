use Rattle.std.proofs.Common.{rules, ◌∙◌, true-eqb, false-eqb}
use Rattle.std.proofs.lemmas.Iterator.{YieldsList-from_slice}
use Rattle.script.specs.Numbers.{one_more}
use Rattle.script.proofs.Counting.{of_digits, none_of_none, bounded}
use Rattle.script.proofs.Folding.{try_fold_is}
use Rattle.script.proofs.numbers.number.Goals as goal

pub returns-then-is_empty-clause-value : goal.returns-then-is_empty-clause-value
returns-then-is_empty-clause-value c = none_of_none _ _ (true-eqb _ _ c.if-is_empty.ensures)

pub returns-clause-value : goal.returns-clause-value
returns-clause-value c =
    try_fold_is _ (one_more c.args.most) c.try_fold.result c.try_fold.ensures.ran (YieldsList-from_slice c.args.word.now cc) (λ b x v q k. search rules)
    ∙ of_digits c.args.most c.args.word.now (false-eqb _ _ c.if-is_empty.ensures)

pub returns-clause-bound : goal.returns-clause-bound
returns-clause-bound c = rw (returns-clause-value c) (bounded c.args.most c.args.word.now)
