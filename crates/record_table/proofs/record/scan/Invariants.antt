use Rattle.std.proofs.Common.{◌≡◌, drop, map, None, fold}
use Rattle.facts.specs.Scan.{better}
use Rattle.record_table.proofs.record.scan.Given as goal

abbrev pub invariant-loop-record : goal.invariant-loop-record
invariant-loop-record l =
    fold (better l.sought.query l.sought.after) l.best (map (λ r. r.fact) (drop l.record-index l.records))
    ≡ fold (better l.sought.query l.sought.after) None (map (λ r. r.fact) l.records)
