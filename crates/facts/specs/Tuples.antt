-- The arguments of facts, their order, and which of them answer a query.
use Rattle.std.specs.Prelude.{ℕ, Bool, true, false, ◌&&◌, ◌||◌, List, [], ◌∷◌, ◌++◌, length, take, Some, None, Option, ◌==◌, nat_lt, slice_index, slice_index_or}
use Rattle.std.specs.Cmp.Lexicographic.{slice_cmp}
use Rattle.std.specs.Ordering.{is_lt, nat_cmp}
use Rattle.facts.specs.declared.fact.Fact.{Fact}
use Rattle.facts.specs.declared.fact.Query.{Query}

-- the order of arguments: the first place at which they differ decides
abbrev pub before : List ℕ → List ℕ → Bool
before xs ys = is_lt (slice_cmp nat_cmp xs ys)

-- the same arguments
abbrev pub same : List ℕ → List ℕ → Bool
same [] [] = true
same [] (y ∷ ys) = false
same (x ∷ xs) [] = false
same (x ∷ xs) (y ∷ ys) = x == y && same xs ys

-- the three values of an array
abbrev pub three : List ℕ → List ℕ
three vs = slice_index vs 0 ∷ slice_index vs 1 ∷ slice_index vs 2 ∷ []

-- the three places of a query
abbrev pub places : List (Option ℕ) → List (Option ℕ)
places gs = slice_index_or gs 0 None ∷ slice_index_or gs 1 None ∷ slice_index_or gs 2 None ∷ []

-- the arguments of a fact: the first of its values
abbrev pub arguments : Fact → List ℕ
arguments x = take x.values.count (three x.values.first)

-- a fact of a predicate with these arguments
abbrev pub is_fact : ℕ → List ℕ → Fact → Bool
is_fact q vs x = x.predicate == q && (x.values.count == length vs && same (arguments x) vs)

-- such a fact is among these
abbrev pub among : ℕ → List ℕ → List Fact → Bool
among q vs [] = false
among q vs (x ∷ xs) = is_fact q vs x || among q vs xs

-- arguments as a tuple of three: 0 behind them
abbrev pub padded : List ℕ → List ℕ
padded vs = take 3 (vs ++ (0 ∷ 0 ∷ 0 ∷ []))

-- a journal takes the fact
abbrev pub recordable : Fact → Bool
recordable x = nat_lt x.predicate 32 && nat_lt x.values.count 4

-- a value is the one given, where one is
abbrev pub allows : Option ℕ → ℕ → Bool
allows None v = true
allows (Some g) v = g == v

-- arguments have the values that are given, place by place
abbrev pub agrees : List (Option ℕ) → List ℕ → Bool
agrees [] vs = true
agrees (g ∷ gs) [] = true
agrees (g ∷ gs) (v ∷ vs) = allows g v && agrees gs vs

-- arguments are greater than the tuple before, of which as many values count
abbrev pub past : Option (List ℕ) → List ℕ → Bool
past None vs = true
past (Some t) vs = before (take (length vs) (three t)) vs

-- arguments agree with what a query gives, and are greater than the tuple before
abbrev pub fits : Query → Option (List ℕ) → List ℕ → Bool
fits q a vs = agrees (places q.given.first) vs && past a vs

-- a fact answers a query with a tuple that is greater than the one before
abbrev pub answers : Query → Option (List ℕ) → Fact → Bool
answers q a x = x.predicate == q.predicate && (x.values.count == q.given.count && fits q a (arguments x))
