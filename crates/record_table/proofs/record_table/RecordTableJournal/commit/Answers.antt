use Rattle.std.proofs.Common.{◌≡◌, ◌≤◌, ◌-◌, ◌+◌, length, Ok, [], ◌∷◌, sym, refl, ap, ◌∙◌, arith, rules, length-append}
use Rattle.journal.specs.Trace.{allowed_commit, standing}
use Rattle.journal.proofs.Stamps.{rising_more}
use Rattle.record_table.specs.Records.{traced}
use Rattle.record_table.proofs.Sorted.{placed_append, length_behind}
use Rattle.record_table.specs.Meaning.{costs_length, added_behind}
use Rattle.record_table.proofs.record_table.RecordTableJournal.commit.Goals as goal

pub returns-in_err-allow_commit-clause-does : goal.returns-in_err-allow_commit-clause-does
returns-in_err-allow_commit-clause-does c =
    let t = c.args.self.now in
    let fs = c.args.facts.now in
    let refused : c.from_residual.result ≡ c.allow_commit.result = search rules in
    record {
      answer = refused ∙ c.allow_commit.ensures ∙ ap (λ w. allowed_commit w c.args.stamp fs (1 + length fs)) c.standing.ensures
          ∙ ap (λ n. allowed_commit (standing (traced t.stamps.items t.next (t.limit - (length t.stamps.items + length t.records.items)))) c.args.stamp fs (1 + n)) (sym (costs_length fs));
      taken = search rules;
      refused = λ _. refl;
    }

pub invariant_of-self : goal.invariant_of-self
invariant_of-self c =
    let t = c.args.self.now in
    let fs = c.args.facts.now in
    let k = c.shown-position.result in
    let fits : 1 + length fs ≤ t.limit - (length t.stamps.items + length t.records.items) = search rules in
    let due : t.next ≤ c.args.stamp = search rules in
    let here : k ≡ length t.stamps.items = c.shown-position.ensures in
    let more = ap (λ v. length v.items) c.append.ensures ∙ length_behind k t.records.items fs in
    let stamped = ap (λ v. length v.items) c.push.ensures ∙ length-append t.stamps.items (c.args.stamp ∷ []) in
    record {
      room = omega arith;
      bounded = t.bounded;
      stamps_reserved = search rules;
      records_reserved = search rules;
      placed = rw c.append.ensures (placed_append k (length t.stamps.items) (length c.push.new.self.items) t.records.items fs t.placed (omega arith) (omega arith));
      rising = rw (c.push.ensures, c.from.ensures) (rising_more 0 t.next t.stamps.items c.args.stamp t.rising due);
      last = search rules;
    }

pub returns-clause-does : goal.returns-clause-does
returns-clause-does c =
    let t = c.args.self.now in
    let fs = c.args.facts.now in
    let allowed : Ok tt ≡ c.allow_commit.result = search rules in
    let fits : 1 + length fs ≤ t.limit - (length t.stamps.items + length t.records.items) = search rules in
    let more = ap (λ v. length v.items) c.append.ensures ∙ length_behind c.shown-position.result t.records.items fs in
    let stamped = ap (λ v. length v.items) c.push.ensures ∙ length-append t.stamps.items (c.args.stamp ∷ []) in
    record {
      answer = allowed ∙ c.allow_commit.ensures ∙ ap (λ w. allowed_commit w c.args.stamp fs (1 + length fs)) c.standing.ensures
          ∙ ap (λ n. allowed_commit (standing (traced t.stamps.items t.next (t.limit - (length t.stamps.items + length t.records.items)))) c.args.stamp fs (1 + n)) (sym (costs_length fs));
      taken = λ _. record {
        facts = rw (c.append.ensures, c.shown-position.ensures) (added_behind (length t.stamps.items) t.records.items fs);
        stamps = ap (λ v. v.items) c.push.ensures;
        next = search rules;
        free = omega (arith, costs_length fs);
        mark = refl;
        fact = λ _. refl;
      };
      refused = search rules;
    }
