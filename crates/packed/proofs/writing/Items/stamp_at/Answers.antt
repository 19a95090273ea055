use Rattle.std.proofs.Common.{◌≡◌, ap, ◌∙◌, refl, List, ℕ, Option, Some, None, rules, tests}
use Rattle.std.specs.Option.{option_map}
use Rattle.std.proofs.lemmas.Iterator.Consumers.{YieldsList-at, YieldsList-from_first, YieldsList-from_filter_map, nth_from_yields_List}
use Rattle.std.specs.List.{slice_get}
use Rattle.packed.specs.Format.{items_of}
use Rattle.packed.specs.Meaning.{width, entries_of, stamp_in}
use Rattle.packed.specs.declared.reading.Entry.{Entry}
use Rattle.packed.specs.declared.reading.Entries.{Entries}
use Rattle.packed.proofs.Finding.{stamps_read}
use Rattle.packed.proofs.writing.Items.stamp_at.Goals as goal

unmapped : (o : Option ℕ) → o ≡ option_map (λ x. x) o
unmapped None = refl
unmapped (Some x) = refl

pub returns : goal.returns
returns c =
    let left = YieldsList-at c.filter_map.ensures.source (YieldsList-from_first (λ (x : Entry). x) (λ (e : Entries). entries_of e.bytes.now) (entries_of c.args.self.now.bytes.items) (ap entries_of c.entries.ensures)) in
    unmapped c.nth.result
    ∙ nth_from_yields_List c.nth.result c.nth.new.self c.args.position c.nth.ensures.ran
    (YieldsList-from_filter_map _ stamp_in left c.filter_map.ensures.closure (λ x r q k. search (rules, tests)))
    ∙ ap (λ (l : List ℕ). slice_get l c.args.position) (stamps_read (items_of width c.args.self.now.bytes.items))
