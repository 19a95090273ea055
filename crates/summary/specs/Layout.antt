-- How the rows of all nodes stand in one list: those of a node together, the nodes in rising order.
use Rattle.std.specs.Prelude.{ℕ, ◌+◌, Bool, false, cond, List, [], ◌∷◌, take, drop, sum_by, Some, None, Option, nat_lt, slice_index_or}
use Rattle.std.specs.Bool.{then_some}
use Rattle.std.specs.Option.{option_map, unwrap_or}
use Rattle.summary.specs.declared.row.Row.{Row}
use Rattle.summary.specs.Kept.{Kept}

-- how many rows a count stands for: none where they are lost
abbrev pub size : Option ℕ → ℕ
size c = unwrap_or c 0

-- how many rows the node n has, or None where they are lost; a node behind all counts has no rows
abbrev pub count_of : List (Option ℕ) → ℕ → Option ℕ
count_of cs n = slice_index_or cs n (Some 0)

-- how many rows the nodes before n have: there the rows of n start
abbrev pub before : ℕ → List (Option ℕ) → ℕ
before n cs = sum_by size (take n cs)

-- the rows of each node, by the counts of the nodes and all rows
abbrev pub laid : List (Option ℕ) → List Row → List (Option (List Row))
laid [] rs = []
laid (c ∷ cs) rs = option_map (λ k. take k rs) c ∷ laid cs (drop (size c) rs)

-- where the row i of the node n stands among all rows, if there is one
abbrev pub place_of : List (Option ℕ) → ℕ → ℕ → Option ℕ
place_of cs n i = then_some (nat_lt i (size (count_of cs n))) (before n cs + i)

-- what a keeper holds that keeps no rows, by its marks of the lost nodes
abbrev pub declined : List Bool → Kept
declined lost n = cond (slice_index_or lost n false) None (Some [])
