use Rattle.std.proofs.Common.{None, fold, map, sym, refl, ap, ◌∙◌}
use Rattle.facts.specs.Facts.{answerable}
use Rattle.facts.specs.Scan.{better}
use Rattle.journal.proofs.Facts.{scan_found}
use Rattle.record_table.specs.declared.record.Record.{Record}
use Rattle.record_table.specs.Records.{facts_at, recorded}
use Rattle.record_table.proofs.record_table.RecordTableFactSource.find.Goals as goal

pub returns : goal.returns
returns c =
    let p = c.args.position in
    let q = c.args.query.now in
    let rs = c.args.self.now.records.items in
    scan_found (recorded rs) p q c.args.after (facts_at p rs) c.scan.result refl (λ vs. refl)
    (sym (c.in_ok-allow.ensures ∙ ap (λ K. answerable K q) c.known.ensures))
    (c.scan.ensures ∙ ap (λ l. fold (better q c.args.after) None (map (λ (r : Record). r.fact) l)) c.at.ensures)
