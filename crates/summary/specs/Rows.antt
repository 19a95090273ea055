-- The rows of a formula, and which of them serves where.
use Rattle.std.specs.Prelude.{◌≡◌, ℕ, ◌+◌, ◌-◌, ◌^◌, ◌<◌, ◌≤◌, true, false, ◌⊎◌, List, [], ◌∷◌, length, slice_index}
use Rattle.sets.specs.Sets.{NumberSet}
use Rattle.table.specs.declared.Interval.{Interval}
use Rattle.table.specs.Formula.{Formula, verum, prev, once, since, free}
use Rattle.std.specs.List.{AllByRecursion}
use Rattle.facts.specs.Facts.{Facts}
use Rattle.facts.specs.Tuples.{before}
use Rattle.mfotl.specs.Laws.{WellFormed, Equivalent}
use Rattle.mfotl.specs.Truth.{Valuation, ◌∈◌, Truth}
use Rattle.summary.specs.declared.row.Row.{Row}

-- the formulas that have rows: the body of a prev or a once begins them, and the right side of a since
pub data Summary : Type 0 where
  prevs : Interval → Formula → Summary
  onces : Interval → Formula → Summary
  sinces : Interval → Formula → Formula → Summary

-- the formula, as the node n
abbrev pub formula : ℕ → Summary → Formula
formula n (prevs I b) = prev n I b
formula n (onces I b) = once n I b
formula n (sinces I l r) = since n I l r

-- the part whose truth begins a row
abbrev pub source : Summary → Formula
source (prevs I b) = b
source (onces I b) = b
source (sinces I l r) = r

-- the part that has to stay true: nothing for prev and once
abbrev pub stays : Summary → Formula
stays (prevs I b) = verum 0
stays (onces I b) = verum 0
stays (sinces I l r) = l

-- both parts are well formed, and what is free in the part that stays is free in the part that begins
pub record Sound (s : Summary) : Type 0 where
  pub beginning : WellFormed (source s)
  pub staying : WellFormed (stays s)
  pub within : (v : ℕ) → free (stays s) v ≡ true → free (source s) v ≡ true

-- the values of a row, as values for the variables
abbrev pub valued : List ℕ → Valuation
valued vs v = slice_index vs v

-- values for the variables 0 to 7 of a set, and 0 for the others
pub record ValuesFor (K : NumberSet) (vs : List ℕ) : Type 0 where
  pub long : length vs ≡ 8
  pub bounded : (v : ℕ) → K v ≡ true → slice_index vs v < 2 ^ 32
  pub others : (v : ℕ) → K v ≡ false → slice_index vs v ≡ 0

-- some element has a property
abbrev pub SomeOf : {X : Type 0} → (X → Type 0) → List X → Type 0
SomeOf P [] = ⊥
SomeOf P (x ∷ xs) = P x ⊎ SomeOf P xs

-- a row comes before another: by rising first position, then by rising values, variable 0 first
abbrev pub Earlier : Row → Row → Type 0
Earlier r x = (r.first < x.first) ⊎ ((r.first ≡ x.first) × (before r.values x.values ≡ true))

-- each row comes before all that stand behind it
abbrev pub Sorted : List Row → Type 0
Sorted [] = Unit {0}
Sorted (r ∷ rs) = AllByRecursion (Earlier r) rs × Sorted rs

module _ (f : Facts) (τ : List ℕ) where
  -- e is the last position that a row which began at k counts for: k itself, and for since the last one up to which left is true
  abbrev pub Lasts : Summary → Valuation → ℕ → ℕ → Type 0
  Lasts (prevs I b) η k e = e ≡ k
  Lasts (onces I b) η k e = e ≡ k
  Lasts (sinces I l r) η k e = (k ≤ e) × (e < length τ) × ((j : ℕ) → k < j → j ≤ e → Truth f τ l η j) × (e + 1 < length τ → Truth f τ l η (e + 1) → ⊥)

  -- a row
  pub record IsRow (s : Summary) (r : Row) : Type 0 where
    pub values : ValuesFor (free (source s)) r.values
    pub shown : r.first < length τ
    pub begins : Truth f τ (source s) (valued r.values) r.first
    pub lasts : Lasts s (valued r.values) r.first r.last

  -- the row list of a formula: all its rows over the positions shown, and no others, in their order
  pub record RowList (s : Summary) (rows : List Row) : Type 0 where
    pub each : AllByRecursion (IsRow s) rows
    pub sorted : Sorted rows
    pub all : (vs : List ℕ) (k : ℕ) → ValuesFor (free (source s)) vs → k < length τ → Truth f τ (source s) (valued vs) k → SomeOf (λ r. (r.values ≡ vs) × (r.first ≡ k)) rows

-- a row serves at a position j
abbrev pub Serves : List ℕ → Summary → Row → ℕ → Type 0
Serves τ (prevs I b) r j = (j ≡ r.first + 1) × ((slice_index τ j - slice_index τ r.first) ∈ I)
Serves τ (onces I b) r j = (r.first ≤ j) × ((slice_index τ j - slice_index τ r.first) ∈ I)
Serves τ (sinces I l x) r j = (r.first ≤ j) × (j ≤ r.last) × ((slice_index τ j - slice_index τ r.first) ∈ I)

-- the row has the values of the variables that are free in what begins it
abbrev pub Matches : Summary → Valuation → Row → Type 0
Matches s η r = (v : ℕ) → free (source s) v ≡ true → slice_index r.values v ≡ η v

-- values that a row can have
abbrev pub Bounded : Summary → Valuation → Type 0
Bounded s η = (v : ℕ) → free (source s) v ≡ true → η v < 2 ^ 32

-- a formula is true at a shown position exactly if one of its rows with these values serves there
abbrev pub RowsServe : Type 0
RowsServe = (f : Facts) (τ : List ℕ) (n : ℕ) (s : Summary) → Sound s → (rows : List Row) → RowList f τ s rows → (η : Valuation) → Bounded s η → (j : ℕ) → j < length τ
    → Equivalent (Truth f τ (formula n s) η j) (SomeOf (λ r. Matches s η r × Serves τ s r j) rows)
