-- Reading one thing after another, and the rest of a word behind a label.
use Rattle.std.specs.Prelude.{◌≡◌, ℕ, Bool, true, false, cond, List, [], ◌∷◌, length, take, drop, Some, None, MatchOption, Option}
use Rattle.std.specs.Str.{bytes_eq}

-- what is made of a thing, if it can be read
abbrev pub and_then : {X Y : Type 0} → Option X → (X → Option Y) → Option Y
and_then None f = None
and_then (Some x) f = f x

-- the answer, as `view` sees what it holds, is o
abbrev pub SeenAs : {A B : Type 0} → (A → B) → Option A → Option B → Type 0
SeenAs view r o = MatchOption r (o ≡ None) (λ x. o ≡ Some (view x))

-- what is made of a list, one thing after another, if each step can be taken
abbrev pub try_fold : {S X : Type 0} → (S → X → Option S) → S → List X → Option S
try_fold step s [] = Some s
try_fold step s (x ∷ xs) = and_then (step s x) (λ t. try_fold step t xs)

-- the rest of a word behind a label that it begins with
unfoldable pub behind : List ℕ → List ℕ → Option (List ℕ)
behind label word = cond (bytes_eq (take (length label) word) label) (Some (drop (length label) word)) None

abbrev pub is_empty : {X : Type 0} → List X → Bool
is_empty [] = true
is_empty (x ∷ xs) = false

-- the one thing of a list of just one
abbrev pub one : {X : Type 0} → List X → Option X
one [] = None
one (x ∷ []) = Some x
one (x ∷ (y ∷ ys)) = None

-- the things of a list of just two
abbrev pub two : {X : Type 0} → List X → Option (X × X)
two [] = None
two (x ∷ xs) = and_then (one xs) (λ y. Some (x, y))

-- the things of a list of just three
abbrev pub three : {X : Type 0} → List X → Option (X × X × X)
three [] = None
three (x ∷ xs) = and_then (two xs) (λ p. Some (x, p.0, p.1))

-- the thing, if no word is left
abbrev pub alone : {X : Type 0} → X → List (List ℕ) → Option X
alone x [] = Some x
alone x (word ∷ words) = None
