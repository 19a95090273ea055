-- What is noted of the nodes of a table.
use Rattle.std.specs.Prelude.{◌≡◌, ℕ, ◌*◌, ◌<◌, ◌≤◌, false, List, slice_index_or}
use Rattle.table.specs.declared.node.Node.{Node}
use Rattle.sets.specs.Sets.{members}
use Rattle.table.specs.Formula.{Formula, verum, formula_at, free}
use Rattle.table.specs.Form.{Declarations}
use Rattle.policy.specs.declared.notes.Note.{Note}
use Rattle.policy.specs.Modes.{cached}
use Rattle.policy.specs.Wait.{wait}
use Rattle.policy.specs.Links.{parent_from}

abbrev pub blank : Note
blank = record { free = record { mask = 0 }; wait = 0; cached = false; parent = 0 }

-- the note of the node n; no fact speaks of the blank one past the end
abbrev pub note_at : List Note → ℕ → Note
note_at notes n = slice_index_or notes n blank

-- what the note of the node n has to say: its free variables, its wait, whether it keeps rows, and its parent
pub record Noted (D : Declarations) (ns : List Node) (n : ℕ) (note : Note) : Type 0 where
  pub variables : members note.free ≡ free (formula_at ns n)
  pub waits : note.wait ≡ wait (formula_at ns n)
  pub rows : note.cached ≡ cached D (formula_at ns n)
  pub link : note.parent ≡ parent_from 0 ns n

-- the first n nodes are noted
abbrev pub NotedUpTo : Declarations → List Node → List Note → ℕ → Type 0
NotedUpTo D ns notes n = (j : ℕ) → j < n → Noted D ns j (note_at notes j)

-- the waits noted are those of the first n formulas
abbrev pub WaitsUpTo : List Note → ℕ → List Formula → Type 0
WaitsUpTo notes n fs = (j : ℕ) → j < n → (note_at notes j).wait ≡ wait (slice_index_or fs j (verum 0))

-- an interval's end is below 2 ^ 32, and 32 nodes are too few for their sum to reach 2 ^ 64
abbrev pub BoundedBy : ℕ → List Note → Type 0
BoundedBy n notes = (j : ℕ) → j < n → (note_at notes j).wait ≤ n * 4294967295
