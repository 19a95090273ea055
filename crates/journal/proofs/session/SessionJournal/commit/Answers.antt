use Rattle.std.proofs.Common.{◌≡◌, ◌≤◌, min, is_ok, rules, sym, ap, ◌∙◌, true≢false, arith}
use Rattle.std.proofs.lemmas.Result.{err_from_is_err_and}
use Rattle.journal.specs.Trace.{shown}
use Rattle.journal.specs.Sessions.{owned, commit_owned, grown_later, grown_behind, grown_shown, kept_behind}
use Rattle.journal.proofs.session.SessionJournal.commit.Goals as goal

pub returns : goal.returns
returns g c =
    let s = c.args.self.now in
    let f = g.J.FactSource.facts in
    let m = g.J.Journal.trace in
    let j = c.commit.new.self in
    let b = min s.base (shown (m s.lower)) in
    let le : b ≤ shown (m s.lower) = omega arith in
    let few = (g.met.J.Journal.orderly s.lower).few in
    let below = c.commit.ensures.does in
    let r : c.map_err.result ≡ owned c.commit.result c.hidden-hidden.result = search rules in
    let w = below.taken (sym c.map_err.ensures.variant ∙ ap is_ok c.in_ok-map_err.was) in
    let e : min c.hidden-hidden.result (shown (m j)) ≡ b =
    omega (arith, c.hidden-hidden.ensures, grown_shown f m s.lower j b le few c.args.stamp c.args.facts.now w) in
    record {
      does = record {
        answer = sym c.in_ok-map_err.was ∙ r ∙ (λ i. owned (below.answer i) (c.hidden-hidden.ensures i)) ∙ commit_owned (m s.lower) b c.args.stamp c.args.facts.now;
        taken = λ _. grown_later f m s.lower j b le few _ c.args.stamp c.args.facts.now e w;
        refused = λ o. absurd (true≢false o);
      };
      keeps = (c.commit.ensures.keeps, e, grown_behind f m s.lower j b le few c.args.stamp c.args.facts.now w);
    }

pub returns-in_err-map_err : goal.returns-in_err-map_err
returns-in_err-map_err g c =
    let s = c.args.self.now in
    let f = g.J.FactSource.facts in
    let m = g.J.Journal.trace in
    let j = c.commit.new.self in
    let b = min s.base (shown (m s.lower)) in
    let below = c.commit.ensures.does in
    let r : c.map_err.result ≡ owned c.commit.result c.hidden-hidden.result = search rules in
    let same = below.refused (sym c.map_err.ensures.variant ∙ ap is_ok c.in_err-map_err.was) in
    let p = err_from_is_err_and c.from_residual.result c.from_residual.ensures.1 in
    rw (p.1, p.2) (record {
      does = record {
        answer = sym c.in_err-map_err.was ∙ r ∙ (λ i. owned (below.answer i) (c.hidden-hidden.ensures i)) ∙ commit_owned (m s.lower) b c.args.stamp c.args.facts.now;
        taken = λ o. absurd (true≢false (sym o));
        refused = λ _. ap (λ l. record { lower = l; base = s.base }) same;
      };
      keeps = (c.commit.ensures.keeps, ap (λ l. min s.base (shown (m l))) same, kept_behind f m s.lower j b (omega arith) (g.met.J.Journal.orderly s.lower).few same);
    })
