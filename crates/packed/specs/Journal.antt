-- What a packed journal means, and what its calls do to its bytes.
use Rattle.std.specs.Prelude.{◌≡◌, ℕ, true, List, length, is_ok, Some, Result}
use Rattle.refusal.specs.declared.Refusal.{Refusal}
use Rattle.facts.specs.Facts.{Facts}
use Rattle.journal.specs.Trace.{Trace}
use Rattle.packed.specs.declared.packed.Packed.{Packed}
use Rattle.packed.specs.Format.{Item, encode, decode, items_of, Puts}
use Rattle.packed.specs.Meaning.{width, stamps, next_from, bytes_facts, bytes_trace}

-- the used bytes
abbrev pub used : Packed → List ℕ
used j = j.items.bytes.items

-- the most bytes that it may use
abbrev pub limit : Packed → ℕ
limit j = j.items.bytes.limit

-- its facts are those of its bytes
abbrev pub facts_of : Packed → Facts
facts_of j = bytes_facts (used j)

-- its trace is that of its bytes, within its limit
abbrev pub trace_of : Packed → Trace
trace_of j = bytes_trace (limit j) (used j)

-- the used bytes are the encoding of their items, of which as many are marks as positions are shown, the last of them just
-- below the least next stamp
pub record Stands (j : Packed) : Type 0 where
  pub decoded : decode width (used j) ≡ Some (items_of width (used j))
  pub encoded : encode width (items_of width (used j)) ≡ used j
  pub shown : j.shown ≡ length (stamps (items_of width (used j)))
  pub next : j.next ≡ next_from 0 (stamps (items_of width (used j)))

-- a call that was taken appended these items
abbrev pub Appends : Packed → Packed → List Item → Result (Unit {0}) Refusal → Type 0
Appends i j xs r = is_ok r ≡ true → Puts width (used i) (used j) xs
