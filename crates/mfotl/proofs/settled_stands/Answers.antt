use Rattle.std.proofs.Common.{◌+◌, ◌-◌, arith}
use Rattle.policy.specs.Wait.{wait}
use Rattle.journal.specs.Trace.{shown, stamp_at}
use Rattle.mfotl.proofs.Reaching.{reached}
use Rattle.mfotl.proofs.Settling.{alike, lengthened_rises}
use Rattle.mfotl.proofs.settled_stands.Goals as goal

pub returns : goal.returns
returns c = λ f g t u o w φ wf η i l b.
    let rise = lengthened_rises f g t u o w in
    reached f g t.stamps u.stamps o.rising rise φ wf η i l (alike f g t.stamps u.stamps w.further w.stamps w.facts rise (stamp_at t i + wait φ) (shown t - 1) (omega (arith, l)) b)
