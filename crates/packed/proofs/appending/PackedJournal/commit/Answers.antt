use Rattle.std.proofs.Common.{◌≡◌, ℕ, ◌+◌, ◌-◌, ◌≤◌, min, [], ◌∷◌, length, Ok, sym, refl, ap, ◌∙◌, subst, arith, rules}
use Rattle.std.specs.Result.{result_and}
use Rattle.journal.specs.Trace.{Added, sound_from, costs, affordable, allowed_commit}
use Rattle.packed.specs.Format.{mark}
use Rattle.packed.specs.Meaning.{width, all_written, fact_cost, bytes_facts}
use Rattle.packed.specs.Coding.{puts_both}
use Rattle.packed.specs.Growth.{Kept, kept, marks_few, commit_stamps, commit_kept, commit_added}
use Rattle.packed.proofs.Steps.{asked_last, capped}
use Rattle.packed.proofs.appending.PackedJournal.commit.Goals as goal

pub overflow_cast-position : goal.overflow_cast-position
overflow_cast-position c = search (rules, marks_few c.args.self.now.items.bytes.items c.args.self.now.items.whole)

pub overflow_add-self : goal.overflow_add-self
overflow_add-self c = search (rules, marks_few c.args.self.now.items.bytes.items c.args.self.now.items.whole)

pub invariant_of-self : goal.invariant_of-self
invariant_of-self c =
    let i = c.args.self.now in
    let was = i.items.bytes.items in
    let now = c.put_facts.new.self.bytes.items in
    let s = c.args.stamp in
    let fs = c.args.facts.now in
    let e = puts_both width was _ now (mark s ∷ []) (all_written i.shown fs) c.put_mark.ensures.puts c.put_facts.ensures.puts in
    let n = subst (λ (m : ℕ). Kept now (i.shown + 1) (m + 1)) (sym c.from.ensures) (commit_kept was now i.shown i.next s fs (kept i) (search rules) e) in
    record { bounded = omega (arith, i.bounded, c.put_mark.ensures.limit, c.put_facts.ensures.limit); counted = n.counted; following = n.following; last = search rules; placed = n.placed; rising = n.rising }

pub returns-clause-does : goal.returns-clause-does
returns-clause-does c =
    let i = c.args.self.now in
    let was = i.items.bytes.items in
    let now = c.put_facts.new.self.bytes.items in
    let s = c.args.stamp in
    let fs = c.args.facts.now in
    let e = puts_both width was _ now (mark s ∷ []) (all_written i.shown fs) c.put_mark.ensures.puts c.put_facts.ensures.puts in
    let high : i.next ≤ s = search rules in
    let sound : sound_from 0 fs ≡ Ok tt = search rules in
    let room : 5 + costs fact_cost fs ≤ i.items.bytes.limit - length was = search rules in
    let n = commit_kept was now i.shown i.next s fs (kept i) high e in
    let w = c.standing-standing.result in
    let e-w = c.standing-standing.ensures in
    let cost = costs fact_cost fs in
    let bound : w.free + 5 ≤ 18446744073709551615 = omega (arith, i.bounded, ap (λ v. v.free) e-w) in
    let counted = c.saturating_add.ensures ∙ ap (λ n. min (n + 5) 18446744073709551615) c.facts_size.ensures in
    let allowed : Ok tt ≡ result_and c.allow_position.result c.afford.result = search rules in
    record {
      answer = allowed ∙ (λ k. result_and (c.allow_position.ensures k) ((c.afford.ensures ∙ ap (affordable w) counted ∙ capped w w.free cost _ refl bound) k))
          ∙ asked_last w s fs (5 + cost) ∙ ap (λ v. allowed_commit v s fs (5 + cost)) e-w;
      taken = λ _. record {
        facts = subst (λ (p : ℕ). Added (bytes_facts was) (bytes_facts now) p fs) i.counted (commit_added was now i.shown i.next s fs (kept i) high e sound);
        stamps = commit_stamps was now i.shown i.next s fs (kept i) high e;
        next = sym n.following;
        free = omega (arith, room, c.put_mark.ensures.len, c.put_mark.ensures.limit, c.put_facts.ensures.len, c.put_facts.ensures.limit);
        mark = refl;
        fact = λ _. refl;
      };
      refused = search rules;
    }
