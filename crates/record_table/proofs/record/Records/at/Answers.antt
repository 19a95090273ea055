use Rattle.std.proofs.Common.{◌≡◌, ltb, leb, filter, subst, sym, ap, ◌∙◌, eqb, rules}
use Rattle.std.proofs.lemmas.List.Sorted.{IsPartitionPoint-from_clause, IsPartitionedBy-ltb, IsPartitionedBy-leb, IsNonDecreasingBy-drop}
use Rattle.record_table.specs.declared.record.Record.{Record}
use Rattle.record_table.specs.Records.{Sorted}
use Rattle.record_table.proofs.Sorted.{at_between}
use Rattle.record_table.proofs.record.Records.at.Goals as goal

pub returns : goal.returns
returns c =
    let p = c.args.position in
    let rs = c.as_slice-records.result.now in
    let i = c.partition_point-start.result in
    let from = c.split_at.result.1.now in
    let n : Record → _ = λ r. r.position in
    let e : rs ≡ c.self.inside.records.items = c.as_slice-records.ensures in
    let up : Sorted rs = subst Sorted (sym e) c.self.invariant in
    let up_from : Sorted from = subst Sorted (sym c.split_at.ensures.back) (IsNonDecreasingBy-drop n i rs up) in
    let before = IsPartitionPoint-from_clause (λ (r : Record). ltb r.position p) rs i c.partition_point-start.ensures.partitioned (IsPartitionedBy-ltb n rs p up) (λ a r q k. search rules) in
    let upto = IsPartitionPoint-from_clause (λ (r : Record). leb r.position p) from _ c.partition_point-end.ensures.partitioned (IsPartitionedBy-leb n from p up_from) (λ a r q k. search rules) in
    c.split_at-2.ensures.front ∙ at_between p rs from i _ c.split_at.ensures.back before upto ∙ ap (λ l. filter (λ (r : Record). eqb p r.position) l) (e ∙ ap (λ v. v.items) c.self.view_is)
