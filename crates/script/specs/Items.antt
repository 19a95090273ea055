-- Items that are read one by one.
use Rattle.std.specs.Prelude.{◌≡◌, ℕ, List, [], ◌∷◌, Some, Option}
use Rattle.std.specs.Borrow.{Bor}
use Rattle.table.specs.Arguments.{no_arguments, with_argument}
use Rattle.table.specs.declared.arguments.Arguments.{Arguments}
use Rattle.script.specs.Pieces.{pieces}
use Rattle.script.specs.Reading.{and_then, try_fold}

-- what a text is read as is what `item` says of its bytes
abbrev pub ReadsAs : {X : Type 0} → (Bor (List ℕ) → Option X → Type 0) → (List ℕ → Option X) → Type 0
ReadsAs {X} post item = (text : Bor (List ℕ)) (x : Option X) → post text x → x ≡ item text.now

-- one text more that is an item
abbrev pub with_item : {X : Type 0} → (List ℕ → Option X) → Arguments X → List ℕ → Option (Arguments X)
with_item item list text = and_then (item text) (with_argument list)

-- texts that are items, behind those before
abbrev pub with_items : {X : Type 0} → (List ℕ → Option X) → Arguments X → List (List ℕ) → Option (Arguments X)
with_items item list texts = try_fold (with_item item) list texts

-- one or more items, parted by commas
abbrev pub parted : {X : Type 0} → (List ℕ → Option X) → X → List ℕ → Option (Arguments X)
parted item filler text = with_items item (no_arguments filler) (pieces 44 text)

-- no item, or some that are parted by commas
abbrev pub listed : {X : Type 0} → (List ℕ → Option X) → X → List ℕ → Option (Arguments X)
listed item filler [] = Some (no_arguments filler)
listed item filler (b ∷ bs) = parted item filler (b ∷ bs)
