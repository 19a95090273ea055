use Rattle.std.proofs.Common.{◌≡◌, ℕ, ◌+◌, min, sym, ap, ◌∙◌, arith}
use Rattle.std.specs.List.{slice_get}
use Rattle.std.proofs.lemmas.Option.{slice_get_past}
use Rattle.journal.specs.Trace.{shown}
use Rattle.journal.specs.Sessions.{nth_later}
use Rattle.journal.proofs.session.SessionJournal.stamp.Goals as goal

pub returns : goal.returns
returns g c =
    let s = c.args.self.now in
    let stamps = (g.J.Journal.trace s.lower).stamps in
    let b = min s.base (shown (g.J.Journal.trace s.lower)) in
    let e : c.in_ok-checked_add.field-0 ≡ c.args.position + b = c.in_ok-checked_add.ensures.1 ∙ ap (λ (n : ℕ). c.args.position + n) c.hidden.ensures in
    c.stamp.ensures ∙ ap (slice_get stamps) e ∙ nth_later b stamps c.args.position

pub returns-in_err-checked_add : goal.returns-in_err-checked_add
returns-in_err-checked_add g c =
    let s = c.args.self.now in
    let stamps = (g.J.Journal.trace s.lower).stamps in
    let b = min s.base (shown (g.J.Journal.trace s.lower)) in
    c.from_residual.ensures ∙ sym (sym (nth_later b stamps c.args.position) ∙ slice_get_past stamps (c.args.position + b) (omega (arith, c.in_err-checked_add.ensures, c.hidden.ensures, (g.met.J.Journal.orderly s.lower).few)))
