use Rattle.std.proofs.Common.{◌≤◌, ◌++◌, ◌∷◌, [], ap, ◌∙◌, arith, rules}
use Rattle.std.proofs.lemmas.List.Elements.{All-push, All-get_or}
use Rattle.std.proofs.lemmas.List.Sorted.{IsNonDecreasingBy-push}
use Rattle.reserved.specs.Room.{holding}
use Rattle.record_table.specs.declared.record.Record.{Record}
use Rattle.record_table.specs.Records.{record_at}
use Rattle.record_table.proofs.Sorted.{records_more}
use Rattle.record_table.proofs.record.Records.append.Goals as goal

pub loop-fact-preserved : goal.loop-fact-preserved
loop-fact-preserved c =
    let k = c.args.position in
    let rs = c.loop-fact.self-inside.records.items in
    let x = record_at k _ in
    record {
      items = c.push.ensures ∙ ap (λ v. holding v (v.items ++ x ∷ [])) c.loop-fact.invariant.items
          ∙ ap (λ l. holding c.args.self.now l) (records_more k c.loop-fact.fact-index c.args.self.now.items c.args.facts.now _ c.loop-fact-test.true (search rules));
      sorted = rw c.push.ensures (IsNonDecreasingBy-push (λ (r : Record). r.position) rs x c.loop-fact.invariant.sorted (λ d h. All-get_or (λ (r : Record). r.position ≤ k) rs _ d (omega arith) c.loop-fact.invariant.upto));
      upto = rw c.push.ensures (All-push (λ (r : Record). r.position ≤ k) rs x c.loop-fact.invariant.upto (omega arith));
    }
