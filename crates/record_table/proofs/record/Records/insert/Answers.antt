use Rattle.std.proofs.Common.{◌≡◌, leb, insert, subst, sym, ap, ◌∙◌, List, rules}
use Rattle.std.proofs.lemmas.List.Sorted.{IsPartitionPoint-from_clause, IsPartitionedBy-leb}
use Rattle.reserved.specs.Room.{holding}
use Rattle.record_table.specs.declared.record.Record.{Record}
use Rattle.record_table.specs.Records.{Sorted, record_at, with_record}
use Rattle.record_table.proofs.Sorted.{inserted}
use Rattle.record_table.proofs.record.Records.insert.Goals as goal
use Rattle.record_table.proofs.record.Records.insert.Goals.{After-insert}

put : (c : After-insert) → Sorted (insert c.self.inside.records.items c.partition_point-behind.result (record_at c.args.position c.args.fact))
    × (insert c.self.inside.records.items c.partition_point-behind.result (record_at c.args.position c.args.fact) ≡ with_record c.self.inside.records.items c.args.position c.args.fact)
put c =
    let k = c.args.position in
    let rs = c.as_slice-records.result.now in
    let i = c.partition_point-behind.result in
    let e : rs ≡ c.self.inside.records.items = c.as_slice-records.ensures in
    let up : Sorted rs = subst Sorted (sym e) c.self.invariant in
    let upto = IsPartitionPoint-from_clause (λ (r : Record). leb r.position k) rs i c.partition_point-behind.ensures.partitioned (IsPartitionedBy-leb (λ (r : Record). r.position) rs k up) (λ a r q k. search rules) in
    subst (λ (l : List Record). Sorted (insert l i (record_at k c.args.fact)) × (insert l i (record_at k c.args.fact) ≡ with_record l k c.args.fact)) e
    (inserted k c.args.fact rs i c.partition_point-behind.ensures.bound up upto)

pub invariant_of-self : goal.invariant_of-self
invariant_of-self c = rw c.insert.ensures (put c).0

pub returns : goal.returns
returns c = c.insert.ensures ∙ ap (λ (l : List Record). holding c.self.inside.records l) (put c).1 ∙ ap (λ v. holding v (with_record v.items c.args.position c.args.fact)) c.self.view_is
