-- What a keeper holds, and what one operation may do to it.
use Rattle.std.specs.Prelude.{◌≡◌, ℕ, zero, suc, ◌+◌, ◌-◌, ◌^◌, ◌<◌, ◌≤◌, min, ◌⊎◌, List, [], ◌∷◌, ◌++◌, length, Some, None, Option, ◌≢◌, slice_index_or, slice_set}
use Rattle.summary.specs.declared.row.Row.{Row}

-- of each node its rows, in the order in which they were offered, or None where they are lost
abbrev pub Kept : Type 0
Kept = ℕ → Option (List Row)

-- the rows, none where they are lost
abbrev pub rows_of : Option (List Row) → List Row
rows_of None = []
rows_of (Some rs) = rs

-- the operations that change a keeper: all rows are dropped; a row is offered to a node; a row of a node is lengthened
pub data Operation : Type 0 where
  emptying : Operation
  offering : ℕ → Row → Operation
  lengthening : ℕ → ℕ → Operation

-- the row behind those kept, where the node is not lost
abbrev pub added : Option (List Row) → Row → Option (List Row)
added None r = None
added (Some rs) r = Some (rs ++ (r ∷ []))

-- one position longer; positions are below 2 ^ 64
abbrev pub raised : Row → Row
raised r = record { values = r.values; first = r.first; last = min (r.last + 1) (2 ^ 64 - 1) }

-- what stands for a row where there is none
abbrev pub no_row : Row
no_row = record { values = []; first = 0; last = 0 }

-- the i-th of the rows one position longer; where there is no such row nothing changes
abbrev pub raised_at : List Row → ℕ → List Row
raised_at rs i = slice_set rs i (raised (slice_index_or rs i no_row))

abbrev pub longer : Option (List Row) → ℕ → Option (List Row)
longer None i = None
longer (Some rs) i = Some (raised_at rs i)

-- no other node changed
abbrev pub Elsewhere : ℕ → Kept → Kept → Type 0
Elsewhere n f g = (m : ℕ) → (m ≢ n) → g m ≡ f m

-- what any keeper may make of an offer: the row is kept, or the node is lost; a node from 32 on does not exist
pub record Offered (f : Kept) (n : ℕ) (r : Row) (g : Kept) : Type 0 where
  pub others : Elsewhere n f g
  pub here : n < 32 → (g n ≡ None) ⊎ (g n ≡ added (f n) r)
  pub beyond : 32 ≤ n → g n ≡ f n

-- a row was lengthened
pub record Lengthened (f : Kept) (n i : ℕ) (g : Kept) : Type 0 where
  pub others : Elsewhere n f g
  pub here : g n ≡ longer (f n) i

-- what any keeper may do
abbrev pub Does : Kept → Operation → Kept → Type 0
Does f emptying g = (n : ℕ) → g n ≡ Some []
Does f (offering n r) g = Offered f n r g
Does f (lengthening n i) g = Lengthened f n i g

-- how many rows are kept, of the nodes below n
abbrev pub total : ℕ → Kept → ℕ
total zero f = 0
total (suc n) f = total n f + length (rows_of (f n))

-- what a table of 512 rows makes of an offer: it declines exactly when it is full, and drops that node's rows
pub record Tabled (f : Kept) (n : ℕ) (r : Row) (g : Kept) : Type 0 where
  pub others : Elsewhere n f g
  pub kept : n < 32 → total 32 f < 512 → g n ≡ added (f n) r
  pub lost : n < 32 → 512 ≤ total 32 f → g n ≡ None
  pub beyond : 32 ≤ n → g n ≡ f n

abbrev pub Tables : Kept → Operation → Kept → Type 0
Tables f emptying g = (n : ℕ) → g n ≡ Some []
Tables f (offering n r) g = Tabled f n r g
Tables f (lengthening n i) g = Lengthened f n i g

-- what a keeper that declines every row makes of an offer
pub record Declined (f : Kept) (n : ℕ) (g : Kept) : Type 0 where
  pub others : Elsewhere n f g
  pub lost : n < 32 → g n ≡ None
  pub beyond : 32 ≤ n → g n ≡ f n

abbrev pub Declines : Kept → Operation → Kept → Type 0
Declines f emptying g = (n : ℕ) → g n ≡ Some []
Declines f (offering n r) g = Declined f n g
Declines f (lengthening n i) g = Lengthened f n i g
