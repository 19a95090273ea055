use Rattle.std.proofs.Common.{◌≡◌, ℕ, min, is_ok, sym, ap, ◌∙◌, subst, arith}
use Rattle.journal.specs.Trace.{shown}
use Rattle.journal.specs.Layers.{later}
use Rattle.journal.specs.Twice.{Twice, two_answer}
use Rattle.journal.proofs.Apart.{apart}
use Rattle.journal.proofs.two.commit_two_apart.Goals as goal

pub returns : goal.returns
returns g c =
    let f = g.J.FactSource.facts in
    let m = g.J.Journal.trace in
    let s = c.new-session.result in
    let t = c.commit_two-answer.new.journal in
    let a = c.args.first in
    let xs = c.args.facts.now in
    let b = c.args.second in
    let ys = c.args.more.now in
    let base = min s.base (shown (m s.lower.lower)) in
    let below : s.lower.lower ≡ c.args.journal = ap (λ l. l.lower) c.new-session.ensures.lower ∙ c.new.ensures.lower in
    let hides : base ≡ shown (m s.lower.lower) =
    omega (arith, c.new-session.ensures.base, ap (λ l. shown (m l.lower)) c.new-session.ensures.lower) in
    let two = c.commit_two-answer.ensures.does in
    let kept = c.commit_two-answer.ensures.keeps in
    let here : c.end-journal.result.0 ≡ t.lower.lower = c.end-journal.ensures.0 ∙ ap (λ l. l.lower) c.end.ensures in
    record {
      answer = two.answer ∙ ap (λ (n : ℕ). two_answer (later (m s.lower.lower) n) a xs b ys) hides ∙ ap (λ l. two_answer (later (m l) (shown (m l))) a xs b ys) below;
      taken = λ o. subst (λ l. Twice (f c.args.journal) (m c.args.journal) (f l) (m l) a xs b ys) (sym here)
          (subst (λ l. Twice (f l) (m l) (f t.lower.lower) (m t.lower.lower) a xs b ys) below
          (apart f g.S.FactSource.facts m s.lower.lower t.lower.lower s.lower.second t.lower.second base (min t.base (shown (m t.lower.lower))) (later (m s.lower.lower) base) a xs b ys
          (g.met.J.Journal.orderly s.lower.lower).few hides kept.1 kept.0.1 kept.0.2 (ap is_ok (sym two.answer) ∙ o) kept.2 (two.taken o)));
      source = c.end-journal.ensures.1 ∙ ap (λ l. l.second) c.end.ensures ∙ kept.0.1 ∙ ap (λ l. l.second) c.new-session.ensures.lower ∙ c.new.ensures.second;
    }
