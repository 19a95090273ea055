-- Words that name one of a few values.
use Rattle.std.specs.Prelude.{◌≡◌, ℕ, List, Some, Option, find}
use Rattle.std.specs.Str.{bytes_eq}

-- the first of these values that is spelled as the word
unfoldable pub spelled : {X : Type 0} → (X → List ℕ) → List X → List ℕ → Option X
spelled spelling xs word = find (λ x. bytes_eq word (spelling x)) xs

-- a word names the value that it spells, and no other
pub record Names {X : Type 0} (spelling : X → List ℕ) (word : List ℕ) (r : Option X) : Type 0 where
  pub spelled_so : (x : X) → word ≡ spelling x → r ≡ Some x
  pub spells_it : (x : X) → r ≡ Some x → word ≡ spelling x
