use Rattle.std.proofs.Common.{◌≡◌, ◌≤◌, ◌-◌, ◌+◌, leb, length, Ok, refl, ap, ◌∙◌, arith, rules}
use Rattle.journal.specs.Trace.{allowed_late}
use Rattle.std.proofs.lemmas.List.Edits.{length-insert}
use Rattle.std.proofs.lemmas.List.Sums.{prefix_len-le-length}
use Rattle.record_table.specs.declared.record.Record.{Record}
use Rattle.record_table.specs.Records.{record_at}
use Rattle.record_table.specs.Meaning.{added_inside}
use Rattle.record_table.proofs.record_table.RecordTableJournal.late.Goals as goal

pub returns-clause-does : goal.returns-clause-does
returns-clause-does c =
    let t = c.args.self.now in
    let fits : 1 ≤ t.limit - (length t.stamps.items + length t.records.items) = search rules in
    let more = ap (λ v. length v.items) c.insert.ensures ∙ length-insert t.records.items _ (record_at c.args.position c.args.fact) (prefix_len-le-length (λ (r : Record). leb r.position c.args.position) t.records.items) in
    let allowed : Ok tt ≡ c.allow_late.result = search rules in
    record {
      answer = allowed ∙ c.allow_late.ensures ∙ ap (λ w. allowed_late w c.args.position c.args.fact 1) c.standing.ensures;
      taken = λ _. record {
        facts = rw c.insert.ensures (added_inside c.args.position t.records.items c.args.fact);
        stamps = refl;
        next = refl;
        free = omega arith;
        mark = refl;
        fact = λ _. refl;
      };
      refused = search rules;
    }
