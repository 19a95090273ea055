-- How a text is parted: the pieces between marks, and those that are not empty.
use Rattle.std.specs.Prelude.{ℕ, List, [], ◌∷◌, ◌==◌}
use Rattle.std.specs.List.{slice_split}

-- the pieces of a text between its marks: one more than there are marks, and any may be empty
unfoldable pub pieces : ℕ → List ℕ → List (List ℕ)
pieces mark text = slice_split (λ b. b == mark) text

-- the pieces that are not empty
abbrev pub present : List (List ℕ) → List (List ℕ)
present [] = []
present ([] ∷ pieces) = present pieces
present ((b ∷ piece) ∷ pieces) = (b ∷ piece) ∷ present pieces
