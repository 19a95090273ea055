-- The words of a line.
use Rattle.std.specs.Prelude.{ℕ, Bool, true, false, cond, List, [], ◌∷◌}
use Rattle.std.specs.Str.{bytes_eq}
use Rattle.script.specs.Pieces.{pieces, present}
use Rattle.script.specs.declared.words.Words.{Words}

-- the words of a line: its pieces between spaces that are not empty
abbrev pub words : List ℕ → List (List ℕ)
words line = present (pieces 32 line)

-- the words that are still to be read
abbrev pub words_left : Words → List (List ℕ)
words_left w = words w.left.now

-- whether the first word is this text, and the words behind it then
abbrev pub optional : List ℕ → List (List ℕ) → Bool × List (List ℕ)
optional text [] = (false, [])
optional text (word ∷ words) = cond (bytes_eq word text) (true, words) (false, word ∷ words)
