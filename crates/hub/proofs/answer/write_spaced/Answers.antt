use Rattle.std.proofs.Common.{refl, ap}
use Rattle.std.proofs.Output.{writes_in_calls_nil, has_written_append, has_written_of_eq}
use Rattle.std.proofs.lemmas.List.{take_all}
use Rattle.hub.specs.Answers.{spaced}
use Rattle.hub.proofs.Spaces.{one_more}
use Rattle.hub.proofs.answer.write_spaced.Goals as goal

pub loop-number-init : goal.loop-number-init
loop-number-init g c = λ plain. record { wrote = writes_in_calls_nil _ _; plain = plain }

pub loop-number-preserved : goal.loop-number-preserved
loop-number-preserved g c = λ plain.
    let before = c.loop-number.invariant plain in
    has_written_of_eq _ _ _ _ _ (one_more c.args.numbers.now c.loop-number.number-index c.loop-number-test.true)
    (has_written_append _ _ _ _ _ _ before (c.in_ok-write.ensures.writes before.plain refl))

pub returns : goal.returns
returns g c = λ plain _. has_written_of_eq _ _ _ _ _ (ap spaced (take_all _ _ c.loop-number-test.false)) (c.loop-number.invariant plain)
