-- The calculated source: relations of two numbers, the same at all positions.
use Rattle.std.specs.Prelude.{◌≡◌, ℕ, ◌/◌, Bool, false, cond, ◌&&◌, List, [], ◌∷◌, length, Some, None, Ok, Option, ◌==◌, nat_lt}
use Rattle.facts.specs.declared.calculated.Relation.{Relation}
use Rattle.facts.specs.declared.calculated.Relation.TheVariants.{Equal, Less, Class, Sibling}
use Rattle.std.specs.Option.{option_map}
use Rattle.sets.specs.Sets.{NumberSet, single, below}
use Rattle.facts.specs.declared.fact.Query.{Query}
use Rattle.facts.specs.Facts.{Facts, Least, given}
use Rattle.facts.specs.Tuples.{places, fits}

-- equal: y = x. less: x < y. class: y = x div 16,777,216. sibling: x and y are in the same block of 256.
abbrev pub relates : Relation → ℕ → ℕ → Bool
relates Equal x y = y == x
relates Less x y = nat_lt x y
relates Class x y = y == x / 16777216
relates Sibling x y = y / 256 == x / 256

-- less needs both arguments, the others the first
abbrev pub needs_of : Relation → NumberSet
needs_of Equal = single 0
needs_of Less = below 2
needs_of Class = single 0
needs_of Sibling = single 0

-- the relation of a predicate
abbrev pub relation_of : ℕ → Option Relation
relation_of q = cond (q == 32) (Some Equal) (cond (q == 33) (Some Less) (cond (q == 34) (Some Class) (cond (q == 35) (Some Sibling) None)))

-- a relation holds of two arguments, and else of none
abbrev pub holds_of : Option Relation → List ℕ → Bool
holds_of (Some r) (x ∷ y ∷ []) = relates r x y
holds_of (Some r) (x ∷ y ∷ z ∷ vs) = false
holds_of (Some r) (x ∷ []) = false
holds_of (Some r) [] = false
holds_of None vs = false

abbrev pub calculated : Facts
calculated = record {
  needs = λ q n. cond (n == 2) (option_map needs_of (relation_of q)) None;
  holds = λ p q vs. holds_of (relation_of q) vs;
}

-- the pairs of a relation that answer a query and are greater than the tuple before
abbrev pub related : Relation → Query → Option (List ℕ) → List ℕ → Bool
related R q a vs = length vs == 2 && (holds_of (Some R) vs && fits q a vs)

-- where all that is needed is given, the least of these
abbrev pub Chosen : Relation → Query → Option (List ℕ) → Option (List ℕ) → Type 0
Chosen R q a r = given (needs_of R) 0 (places q.given.first) ≡ Ok tt → Least (related R q a) r
