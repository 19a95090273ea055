-- Truth of metric first-order temporal logic, over the facts and the stamps of a journal.
use Rattle.std.specs.Prelude.{◌≡◌, ℕ, ◌+◌, ◌-◌, ◌^◌, ◌<◌, ◌≤◌, true, false, ◌⊎◌, List, map, length, Some, None, Option, slice_index}
use Rattle.sets.specs.Sets.{NumberSet}
use Rattle.table.specs.declared.Interval.{Interval}
use Rattle.table.specs.declared.Term.{Term}
use Rattle.table.specs.declared.Term.TheVariants.{Variable, Constant}
use Rattle.table.specs.Formula.{Formula, verum, falsum, atom, and, or, exists, forall, prev, once, hist, next, event, always, since, until}
use Rattle.facts.specs.Facts.{Facts}

infixl 20 ◌∈◌
-- values for the variables
abbrev pub Valuation : Type 0
Valuation = ℕ → ℕ

-- the value of a term
abbrev pub value_of : Valuation → Term → ℕ
value_of η (Variable v) = η v
value_of η (Constant c) = c

-- θ is η, with any values for the variables of a set
pub record Varies (vs : NumberSet) (η θ : Valuation) : Type 0 where
  pub others : (v : ℕ) → vs v ≡ false → θ v ≡ η v
  pub values : (v : ℕ) → vs v ≡ true → θ v < 2 ^ 32

-- no more than the upper end, where there is one
abbrev pub AtMost : ℕ → Option ℕ → Type 0
AtMost d None = Unit {0}
AtMost d (Some h) = d ≤ h

-- a distance in seconds lies in an interval
pub record ◌∈◌ (d : ℕ) (I : Interval) : Type 0 where
  pub least : I.lo ≤ d
  pub most : AtMost d I.hi

module _ (f : Facts) (τ : List ℕ) where
  -- the stamp of a position
  abbrev pub at : ℕ → ℕ
  at i = slice_index τ i

  -- a formula is true at a position, under values for the variables; the positions are those that have a stamp
  abbrev pub Truth : Formula → Valuation → ℕ → Type 0
  Truth (verum n) η i = Unit {0}
  Truth (falsum n) η i = ⊥
  Truth (atom n p ts) η i = f.holds i p (map (value_of η) ts) ≡ true
  Truth (and n l r) η i = Truth l η i × Truth r η i
  Truth (or n l r) η i = Truth l η i ⊎ Truth r η i
  Truth (exists n vs b) η i = (θ : Valuation) × Varies vs η θ × Truth b θ i
  Truth (forall n vs l r) η i = (θ : Valuation) → Varies vs η θ → Truth l θ i → Truth r θ i
  Truth (prev n I b) η i = (k : ℕ) × (i ≡ k + 1) × ((at i - at k) ∈ I) × Truth b η k
  Truth (once n I b) η i = (k : ℕ) × (k ≤ i) × ((at i - at k) ∈ I) × Truth b η k
  Truth (hist n I b) η i = (k : ℕ) → k ≤ i → (at i - at k) ∈ I → Truth b η k
  Truth (next n I b) η i = (i + 1 < length τ) × ((at (i + 1) - at i) ∈ I) × Truth b η (i + 1)
  Truth (event n I b) η i = (k : ℕ) × (i ≤ k) × (k < length τ) × ((at k - at i) ∈ I) × Truth b η k
  Truth (always n I b) η i = (k : ℕ) → i ≤ k → k < length τ → (at k - at i) ∈ I → Truth b η k
  Truth (since n I l r) η i = (k : ℕ) × (k ≤ i) × ((at i - at k) ∈ I) × Truth r η k × ((j : ℕ) → k < j → j ≤ i → Truth l η j)
  Truth (until n I l r) η i = (k : ℕ) × (i ≤ k) × (k < length τ) × ((at k - at i) ∈ I) × Truth r η k × ((j : ℕ) → i ≤ j → j < k → Truth l η j)
