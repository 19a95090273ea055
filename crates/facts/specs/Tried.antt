-- The pair that the calculated source tries: it is the least one, or there is none.
use Rattle.std.specs.Prelude.{ℕ, ◌+◌, ◌*◌, ◌/◌, min, cond, ◌&&◌, List, [], ◌∷◌, Some, None, Option, ◌==◌, nat_le, slice_index}
use Rattle.facts.specs.declared.calculated.Relation.{Relation}
use Rattle.facts.specs.declared.calculated.Relation.TheVariants.{Equal, Less, Class, Sibling}
use Rattle.facts.specs.declared.fact.Query.{Query}
use Rattle.facts.specs.Calculated.{related}

-- the least of the block of x that is past the tuple before: the block's first, or the one after the sibling found last
abbrev pub first_sibling : ℕ → Option (List ℕ) → ℕ
first_sibling x None = x / 256 * 256
first_sibling x (Some t) = cond (slice_index t 0 == x && nat_le (x / 256 * 256) (slice_index t 1)) (min (slice_index t 1 + 1) 4294967295) (x / 256 * 256)

-- the least that may be related to x, past the tuple before
abbrev pub first : Relation → ℕ → Option (List ℕ) → ℕ
first Equal x a = x
first Less x a = x
first Class x a = x / 16777216
first Sibling x a = first_sibling x a

-- the y that is given, or else the least that may be related to x
abbrev pub second : Relation → ℕ → Option ℕ → Option (List ℕ) → ℕ
second R x (Some y) a = y
second R x None a = first R x a

-- the pair of x and y, where it is one of those that answer
abbrev pub pair_of : Relation → ℕ → ℕ → Query → Option (List ℕ) → Option (List ℕ)
pair_of R x y q a = cond (related R q a (x ∷ y ∷ [])) (Some (x ∷ y ∷ 0 ∷ [])) None
