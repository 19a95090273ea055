-- What a journal's bytes mean: its facts and its trace.
use Rattle.std.specs.Prelude.{ℕ, ◌+◌, ◌-◌, ◌*◌, Bool, true, false, cond, ◌&&◌, ◌||◌, List, [], ◌∷◌, length, map, Some, None, Option, ◌≡◌, ◌==◌, nat_lt}
use Rattle.facts.specs.declared.Fact.{Fact}
use Rattle.facts.specs.Facts.{Facts}
use Rattle.facts.specs.Tuples.{arguments, padded, same}
use Rattle.reserved.specs.Room.{Room}
use Rattle.table.specs.declared.Arguments.{Arguments}
use Rattle.journal.specs.Trace.{Trace, own_needs}
use Rattle.packed.specs.declared.reading.Entry.{Entry}
use Rattle.packed.specs.declared.reading.Entry.TheVariants.{Mark, Noted}
use Rattle.packed.specs.Format.{Item, mark, fact, items_of, Puts}

-- the bytes of a value: 4 while a value is a u32
abbrev pub width : ℕ
width = 4

-- the bytes of a fact with n arguments
abbrev pub fact_cost : ℕ → ℕ
fact_cost n = 3 + width * n

-- a fact as it is written at a position
abbrev pub written : ℕ → Fact → Item
written p x = fact x.predicate p (arguments x)

-- facts as they are written at a position
abbrev pub all_written : ℕ → List Fact → List Item
all_written p [] = []
all_written p (x ∷ xs) = written p x ∷ all_written p xs

-- values as they are read
abbrev pub values_read : List ℕ → Arguments ℕ
values_read vs = record { count = length vs; first = padded vs }

-- a fact as it is read
abbrev pub fact_read : ℕ → List ℕ → Fact
fact_read q vs = record { predicate = q; values = values_read vs }

-- an item as it is read
abbrev pub entry_of : Item → Entry
entry_of (mark s) = Mark s
entry_of (fact q p vs) = Noted p (fact_read q vs)

-- the stamps of the marks, in order
abbrev pub stamps : List Item → List ℕ
stamps [] = []
stamps (mark s ∷ xs) = s ∷ stamps xs
stamps (fact q p vs ∷ xs) = stamps xs

-- some item is a fact at the position p, with the predicate q and the arguments vs
abbrev pub held : List Item → ℕ → ℕ → List ℕ → Bool
held [] p q vs = false
held (mark s ∷ xs) p q vs = held xs p q vs
held (fact r n ws ∷ xs) p q vs = (p == n && (r == q && same ws vs)) || held xs p q vs

-- the least next stamp after these, where it was n before them
abbrev pub next_from : ℕ → List ℕ → ℕ
next_from n [] = n
next_from n (s ∷ ss) = next_from (s + 1) ss

-- each fact is at a position below n
abbrev pub placed : List Item → ℕ → Bool
placed [] n = true
placed (mark s ∷ xs) n = placed xs n
placed (fact q p vs ∷ xs) n = nat_lt p n && placed xs n

-- the facts of a journal whose used bytes are bs: a journal knows its own predicates and needs no argument
abbrev pub bytes_facts : List ℕ → Facts
bytes_facts bs = record {
  needs = own_needs;
  holds = held (items_of width bs);
}

-- the trace of a journal of a limit whose used bytes are bs
abbrev pub bytes_trace : ℕ → List ℕ → Trace
bytes_trace limit bs = record {
  stamps = stamps (items_of width bs);
  next = next_from 0 (stamps (items_of width bs));
  free = limit - length bs;
  mark = 5;
  fact = fact_cost;
}

-- the facts at a position
abbrev pub facts_at : ℕ → List Item → List Fact
facts_at p [] = []
facts_at p (mark s ∷ xs) = facts_at p xs
facts_at p (fact r n vs ∷ xs) = cond (p == n) (fact_read r vs ∷ facts_at p xs) (facts_at p xs)

-- the items of bytes as they are read
abbrev pub entries_of : List ℕ → List Entry
entries_of bs = map entry_of (items_of width bs)

-- the stamp of a mark
abbrev pub stamp_in : Entry → Option ℕ
stamp_in (Mark s) = Some s
stamp_in (Noted p x) = None

-- a fact that is at the position p
abbrev pub fact_in : ℕ → Entry → Option Fact
fact_in p (Mark s) = None
fact_in p (Noted n x) = cond (p == n) (Some x) None

-- these items, of n bytes, were put behind those that the reserved bytes write, in the same block of memory
pub record Put (was now : Room ℕ) (xs : List Item) (n : ℕ) : Type 0 where
  pub puts : Puts width was.items now.items xs
  pub len : length now.items ≡ length was.items + n
  pub limit : now.limit ≡ was.limit
  pub block : now.block ≡ was.block
