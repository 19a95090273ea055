-- What a source of facts means, and what it answers.
use Rattle.std.specs.Prelude.{◌≡◌, ℕ, ◌+◌, Bool, true, false, cond, not, ◌&&◌, List, [], ◌∷◌, length, is_some, Some, None, Ok, Err, Option, Result, ◌==◌}
use Rattle.refusal.specs.Causes.{refusal_at}
use Rattle.refusal.specs.declared.Cause.TheVariants.{NotKnown, ValueAbsent}
use Rattle.refusal.specs.declared.Refusal.{Refusal}
use Rattle.sets.specs.Sets.{NumberSet}
use Rattle.facts.specs.declared.fact.Query.{Query}
use Rattle.facts.specs.Tuples.{before, places, padded, fits}

-- needs: of a predicate with a count of arguments, the arguments that must be given, or none where it is not known.
-- holds: at a position, a predicate with its arguments.
pub record Facts : Type 0 where
  pub needs : ℕ → ℕ → Option NumberSet
  pub holds : ℕ → ℕ → List ℕ → Bool

-- the same meaning, at each place
pub record Same (f g : Facts) : Type 0 where
  pub needs : (q n : ℕ) → g.needs q n ≡ f.needs q n
  pub holds : (p q : ℕ) (vs : List ℕ) → g.holds p q vs ≡ f.holds p q vs

-- an argument must be given and is not
abbrev pub missing : NumberSet → ℕ → Option ℕ → Bool
missing K i g = K i && not (is_some g)

-- whether each needed argument from i on is given, and else the refusal at the first that is not
abbrev pub given : NumberSet → ℕ → List (Option ℕ) → Result (Unit {0}) Refusal
given K i [] = Ok tt
given K i (g ∷ gs) = cond (missing K i g) (Err (refusal_at ValueAbsent i)) (given K (i + 1) gs)

-- whether a query may be answered, by what it needs, and else the refusal
abbrev pub answerable : Option NumberSet → Query → Result (Unit {0}) Refusal
answerable None q = Err (refusal_at NotKnown q.predicate)
answerable (Some K) q = given K 0 (places q.given.first)

abbrev pub allowed : Facts → Query → Result (Unit {0}) Refusal
allowed f q = answerable (f.needs q.predicate q.given.count) q

-- the arguments that answer a query at a position: true there, as many as asked for, agreeing with those given, and
-- greater than the tuple before
abbrev pub wanted : Facts → ℕ → Query → Option (List ℕ) → List ℕ → Bool
wanted f p q a vs = length vs == q.given.count && (f.holds p q.predicate vs && fits q a vs)

-- the least of the arguments that pass a test, as a tuple, or that none does
abbrev pub Least : (List ℕ → Bool) → Option (List ℕ) → Type 0
Least P None = (vs : List ℕ) → P vs ≡ false
Least P (Some t) = (vs : List ℕ) × (t ≡ padded vs) × (P vs ≡ true) × ((ws : List ℕ) → P ws ≡ true → before ws vs ≡ false)

abbrev pub FoundCases : Facts → ℕ → Query → Option (List ℕ) → Result (Option (List ℕ)) Refusal → Type 0
FoundCases f p q a (Ok r) = (allowed f q ≡ Ok tt) × Least (wanted f p q a) r
FoundCases f p q a (Err e) = allowed f q ≡ Err e

-- what a source answers to a query at a position
pub record Found (f : Facts) (p : ℕ) (q : Query) (a : Option (List ℕ)) (r : Result (Option (List ℕ)) Refusal) : Type 0 where
  pub cases : FoundCases f p q a r
