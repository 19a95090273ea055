-- What the records and the stamps of a table mean, and the order in which they stand.
use Rattle.std.specs.Prelude.{ℕ, ◌<◌, List, map, filter, All, insert, ◌==◌, nat_le}
use Rattle.std.specs.List.{prefix_len}
use Rattle.std.specs.List.Sorted.{IsNonDecreasingBy}
use Rattle.facts.specs.declared.Fact.{Fact}
use Rattle.facts.specs.Facts.{Facts}
use Rattle.facts.specs.Tuples.{among}
use Rattle.journal.specs.Trace.{Trace, own_needs}
use Rattle.record_table.specs.declared.record.Record.{Record}

-- a record of a fact at the position p
abbrev pub record_at : ℕ → Fact → Record
record_at p x = record { position = p; fact = x }

-- records of these facts, all at the position p
abbrev pub records_at : ℕ → List Fact → List Record
records_at p xs = map (record_at p) xs

-- the facts of those records that are at the position p
abbrev pub facts_at : ℕ → List Record → List Fact
facts_at p rs = map (λ r. r.fact) (filter (λ r. p == r.position) rs)

-- the positions of the records don't fall
abbrev pub Sorted : List Record → Type 0
Sorted rs = IsNonDecreasingBy (λ r. r.position) rs

-- each record is at a position below `end`
abbrev pub Placed : List Record → ℕ → Type 0
Placed rs end = All (λ r. r.position < end) rs

-- these records, with one more behind those at its position
abbrev pub with_record : List Record → ℕ → Fact → List Record
with_record rs p x = insert rs (prefix_len (λ r. nat_le r.position p) rs) (record_at p x)

-- a fact is true at a position where it is among the facts of the records there
abbrev pub recorded : List Record → Facts
recorded rs = record { needs = own_needs; holds = λ p q vs. among q vs (facts_at p rs) }

-- a mark and a fact cost one unit each
abbrev pub traced : List ℕ → ℕ → ℕ → Trace
traced stamps next free = record { stamps = stamps; next = next; free = free; mark = 1; fact = λ _. 1 }
