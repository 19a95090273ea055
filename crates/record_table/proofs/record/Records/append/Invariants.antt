use Rattle.std.proofs.Common.{◌≡◌, ◌≤◌, ◌++◌, take, All}
use Rattle.reserved.specs.Room.{holding}
use Rattle.record_table.specs.Records.{Sorted, records_at}
use Rattle.record_table.proofs.record.Records.append.Given as goal

abbrev pub invariant-loop-fact : goal.invariant-loop-fact
invariant-loop-fact l = record {
  items : l.self-inside.records ≡ holding l.fn.self (l.fn.self.items ++ records_at l.position (take l.fact-index l.facts));
  sorted : Sorted l.self-inside.records.items;
  upto : All (λ r. r.position ≤ l.position) l.self-inside.records.items;
}
