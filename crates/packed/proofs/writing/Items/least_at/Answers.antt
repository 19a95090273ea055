use Rattle.std.proofs.Common.{None, fold, ap, ◌∙◌, rules, tests}
use Rattle.std.proofs.lemmas.Iterator.Consumers.{YieldsList-at, YieldsList-from_first, YieldsList-from_filter_map, fold_from_yields_List}
use Rattle.facts.specs.Scan.{better}
use Rattle.packed.specs.Format.{items_of}
use Rattle.packed.specs.Meaning.{width, entries_of, fact_in}
use Rattle.packed.specs.declared.reading.Entry.{Entry}
use Rattle.packed.specs.declared.reading.Entries.{Entries}
use Rattle.packed.proofs.Finding.{facts_found}
use Rattle.packed.proofs.writing.Items.least_at.Goals as goal

pub returns : goal.returns
returns c =
    let p = c.args.position in
    let step = better c.args.sought.now.query c.args.sought.now.after in
    let left = YieldsList-at c.filter_map.ensures.source (YieldsList-from_first (λ (x : Entry). x) (λ (e : Entries). entries_of e.bytes.now) (entries_of c.args.self.now.bytes.items) (ap entries_of c.entries.ensures)) in
    fold_from_yields_List _ step None c.fold.result c.fold.ensures.ran
    (YieldsList-from_filter_map _ (fact_in p) left c.filter_map.ensures.closure (λ x r q k. search (rules, tests))) (λ a x b q k. search (rules, tests))
    ∙ ap (fold step None) (facts_found p (items_of width c.args.self.now.bytes.items))
