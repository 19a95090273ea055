-- What is kept of a list in a script: how many items there are, up to 255, and the first three of them.
use Rattle.std.specs.Prelude.{◌≡◌, ℕ, cond, List, [], ◌∷◌, length, Some, None, Option, nat_le, slice_index_or}
use Rattle.table.specs.declared.node.Term.TheVariants.{Constant}
use Rattle.table.specs.Arguments.{no_arguments}
use Rattle.script.specs.Facts.{place}
use Rattle.script.specs.Items.{with_items}
use Rattle.script.specs.Nodes.{term}
use Rattle.script.specs.Numbers.{wide}
use Rattle.script.specs.Reading.{and_then}

-- every text read, or nothing if one can't be
abbrev pub each : {X : Type 0} → (List ℕ → Option X) → List (List ℕ) → Option (List X)
each read [] = Some []
each read (text ∷ texts) = and_then (read text) (λ x. and_then (each read texts) (λ xs. Some (x ∷ xs)))

-- the first three items, with a default for each that is not there
abbrev pub first_three : {X : Type 0} → X → List X → List X
first_three d xs = slice_index_or xs 0 d ∷ (slice_index_or xs 1 d ∷ (slice_index_or xs 2 d ∷ []))

-- what is made of at most 255 items
abbrev pub up_to_255 : {X Y : Type 0} → (List X → Y) → List X → Option Y
up_to_255 made xs = cond (nat_le (length xs) 255) (Some (made xs)) None

-- items that are read one by one are all read, counted up to 255, and the first three kept
abbrev pub ItemsKept : {X : Type 0} → (List ℕ → Option X) → X → Type 0
ItemsKept item filler =
    (texts : List (List ℕ))
    → with_items item (no_arguments filler) texts ≡ and_then (each item texts) (up_to_255 (λ xs. record { count = length xs; first = first_three filler xs }))

-- so are values, the places of a question and the terms of an atom
abbrev pub ListsKept : Type 0
ListsKept = ItemsKept wide 0 × ItemsKept place None × ItemsKept term (Constant 0)
