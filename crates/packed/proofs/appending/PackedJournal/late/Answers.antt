use Rattle.std.proofs.Common.{◌≡◌, ◌-◌, ◌<◌, ◌≤◌, true, length, Ok, sym, refl, ◌∙◌, ap, arith, rules}
use Rattle.facts.specs.Tuples.{recordable}
use Rattle.journal.specs.Trace.{allowed_late}
use Rattle.packed.specs.Meaning.{fact_cost}
use Rattle.packed.specs.Growth.{kept, marks_few, late_stamps, late_kept, late_added}
use Rattle.packed.proofs.appending.PackedJournal.late.Goals as goal

pub overflow_cast-position : goal.overflow_cast-position
overflow_cast-position c =
    let shown : c.args.position < c.standing.result.shown = search rules in
    search (rules, marks_few c.args.self.now.items.bytes.items c.args.self.now.items.whole)

pub invariant_of-self : goal.invariant_of-self
invariant_of-self c =
    let i = c.args.self.now in
    let p = c.put_fact.ensures in
    let n = late_kept i.items.bytes.items c.put_fact.new.self.bytes.items i.shown i.next c.args.position c.args.fact (kept i) (search rules) p.puts in
    record { bounded = omega (arith, i.bounded, p.limit); counted = n.counted; following = n.following; last = i.last; placed = n.placed; rising = n.rising }

pub returns-clause-does : goal.returns-clause-does
returns-clause-does c =
    let i = c.args.self.now in
    let was = i.items.bytes.items in
    let now = c.put_fact.new.self.bytes.items in
    let p = c.args.position in
    let x = c.args.fact in
    let e = c.put_fact.ensures in
    let allowed : Ok tt ≡ c.allow_late.result = search rules in
    let shown : p < i.shown = search rules in
    let sound : recordable x ≡ true = search rules in
    let room : fact_cost x.values.count ≤ i.items.bytes.limit - length was = search rules in
    let n = late_kept was now i.shown i.next p x (kept i) shown e.puts in
    record {
      answer = allowed ∙ c.allow_late.ensures ∙ ap (λ n. allowed_late c.standing.result p x n) c.fact_size-cost.ensures ∙ ap (λ v. allowed_late v p x (fact_cost x.values.count)) c.standing.ensures;
      taken = λ _. record {
        facts = late_added was now i.shown i.next p x (kept i) shown e.puts sound;
        stamps = late_stamps was now i.shown i.next p x (kept i) shown e.puts;
        next = sym n.following ∙ i.following;
        free = omega (arith, room, e.len, e.limit);
        mark = refl;
        fact = λ _. refl;
      };
      refused = search rules;
    }
