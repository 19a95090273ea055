use Rattle.std.proofs.Common.{◌≡◌, ℕ, ◌+◌, ◌<◌, ◌≤◌, min, List, length, Err, sym, refl, ap, ◌∙◌, true≢false, arith, is_ok, inl, inr, rules}
use Rattle.std.proofs.lemmas.Bool.{cases_Bool}
use Rattle.refusal.specs.declared.Refusal.{Refusal}
use Rattle.journal.specs.Trace.{shown, late_answer}
use Rattle.journal.specs.Sessions.{owned, late_owned, late_unshown, shown_later, noted_later, noted_behind, kept_behind, behind_self}
use Rattle.journal.proofs.session.SessionJournal.late.Goals as goal

pub returns-then-position-shown : goal.returns-then-position-shown
returns-then-position-shown g c =
    let s = c.args.self.now in
    let m = g.J.Journal.trace in
    let b = min s.base (shown (m s.lower)) in
    record {
      does = record {
        answer = ap (λ (e : Refusal). Err e) c.at.ensures ∙ late_unshown (m s.lower) b c.args.position c.args.fact (omega (arith, c.if-position-shown.true, c.shown.ensures, shown_later (m s.lower) b));
        taken = λ o. absurd (true≢false (sym o));
        refused = λ _. refl;
      };
      keeps = (g.met.J.Journal.same s.lower, refl, behind_self (g.J.FactSource.facts s.lower) (m s.lower) b);
    }

pub returns : goal.returns
returns g c =
    let s = c.args.self.now in
    let f = g.J.FactSource.facts in
    let m = g.J.Journal.trace in
    let j = c.late.new.self in
    let p = c.args.position in
    let b = min s.base (shown (m s.lower)) in
    let hb = c.hidden-hidden.ensures in
    let le : b ≤ shown (m s.lower) = omega arith in
    let l : p + b < shown (m s.lower) = omega (arith, c.if-position-shown.false, c.shown.ensures, shown_later (m s.lower) b) in
    let few = (g.met.J.Journal.orderly s.lower).few in
    let below = c.late.ensures.does in
    let variant = c.map_err.ensures.variant in
    let r : c.map_err.result ≡ owned c.late.result c.hidden-hidden.result = search rules in
    let k = p + c.hidden-hidden.result in
    let ek : k ≡ p + b = ap (λ (n : ℕ). p + n) hb in
    let lk : k < shown (m s.lower) = omega (arith, ek, l) in
    let stamps : (m j).stamps ≡ (m s.lower).stamps = elim (cases_Bool (is_ok c.late.result)) [ inl o ↦ (below.taken o).stamps | inr o ↦ ap (λ l. (m l).stamps) (below.refused o) ] in
    let e : min s.base (shown (m j)) ≡ b = ap (λ (l : List ℕ). min s.base (length l)) stamps in
    record {
      does = record {
        answer = r ∙ (λ i. owned (below.answer i) (hb i)) ∙ ap (λ (n : ℕ). owned (late_answer (m s.lower) n c.args.fact) b) ek ∙ late_owned (m s.lower) b p c.args.fact l;
        taken = λ o. noted_later f m s.lower j b le few p k c.args.fact ek lk (below.taken (sym variant ∙ o)) _ e;
        refused = λ o. ap (λ l. record { lower = l; base = s.base }) (below.refused (sym variant ∙ o));
      };
      keeps = (
        c.late.ensures.keeps,
        e,
        elim (cases_Bool (is_ok c.late.result)) [
          | inl o ↦ noted_behind f m s.lower j b le few p k c.args.fact ek lk (below.taken o)
          | inr o ↦ kept_behind f m s.lower j b le few (below.refused o)
        ],
      );
    }
