-- What truth depends on.
use Rattle.std.specs.Prelude.{◌≡◌, ℕ, ◌+◌, ◌-◌, ◌<◌, ◌≤◌, true, List, length, is_some, slice_index}
use Rattle.std.specs.List.{AllByRecursion}
use Rattle.table.specs.declared.Term.{Term}
use Rattle.table.specs.declared.Term.TheVariants.{Variable, Constant}
use Rattle.table.specs.Formula.{Formula, verum, falsum, atom, and, or, exists, forall, prev, once, hist, next, event, always, since, until, free, formula_at}
use Rattle.table.specs.Form.{Declarations}
use Rattle.table.specs.Formed.{Formed}
use Rattle.table.specs.declared.Node.{Node}
use Rattle.policy.specs.Wait.{wait}
use Rattle.facts.specs.Facts.{Facts}
use Rattle.journal.specs.Trace.{Trace, Orderly, Lengthens, shown, stamp_at}
use Rattle.mfotl.specs.Truth.{Valuation, Truth}

-- true in the one exactly if in the other
abbrev pub Equivalent : Type 0 → Type 0 → Type 0
Equivalent P Q = (P → Q) × (Q → P)

-- a term is a value, or a variable from 0 to 7
abbrev pub InRange : Term → Type 0
InRange (Variable v) = v < 8
InRange (Constant c) = Unit {0}

-- what the form rules give of a formula: atoms have at most three arguments, variables are 0 to 7, and every future operator
-- has an upper end
abbrev pub WellFormed : Formula → Type 0
WellFormed (verum n) = Unit {0}
WellFormed (falsum n) = Unit {0}
WellFormed (atom n p ts) = (length ts ≤ 3) × AllByRecursion InRange ts
WellFormed (and n l r) = WellFormed l × WellFormed r
WellFormed (or n l r) = WellFormed l × WellFormed r
WellFormed (exists n vs b) = WellFormed b
WellFormed (forall n vs l r) = WellFormed l × WellFormed r
WellFormed (prev n I b) = WellFormed b
WellFormed (once n I b) = WellFormed b
WellFormed (hist n I b) = WellFormed b
WellFormed (next n I b) = (is_some I.hi ≡ true) × WellFormed b
WellFormed (event n I b) = (is_some I.hi ≡ true) × WellFormed b
WellFormed (always n I b) = (is_some I.hi ≡ true) × WellFormed b
WellFormed (since n I l r) = WellFormed l × WellFormed r
WellFormed (until n I l r) = (is_some I.hi ≡ true) × WellFormed l × WellFormed r

-- what is free in a formula has the same values
abbrev pub AgreeOn : Formula → Valuation → Valuation → Type 0
AgreeOn φ η θ = (v : ℕ) → free φ v ≡ true → θ v ≡ η v

-- truth depends only on the values of the free variables
abbrev pub FreeOnly : Type 0
FreeOnly = (f : Facts) (τ : List ℕ) (φ : Formula) → WellFormed φ → (η θ : Valuation) (i : ℕ) → AgreeOn φ η θ → Truth f τ φ η i → Truth f τ φ θ i

-- strictly rising stamps
abbrev pub Rises : List ℕ → Type 0
Rises τ = (p q : ℕ) → p < q → q < length τ → slice_index τ p < slice_index τ q

-- all that the one has up to a time, the other has too: positions, their stamps and their facts
pub record Covers (f : Facts) (τ : List ℕ) (g : Facts) (υ : List ℕ) (time : ℕ) : Type 0 where
  pub shown : (k : ℕ) → k < length τ → slice_index τ k ≤ time → k < length υ
  pub stamps : (k : ℕ) → k < length τ → slice_index τ k ≤ time → slice_index υ k ≡ slice_index τ k
  pub facts : (k q : ℕ) (vs : List ℕ) → k < length τ → slice_index τ k ≤ time → g.holds k q vs ≡ f.holds k q vs

-- the two are alike up to a time
pub record Alike (f : Facts) (τ : List ℕ) (g : Facts) (υ : List ℕ) (time : ℕ) : Type 0 where
  pub there : Covers f τ g υ time
  pub back : Covers g υ f τ time

-- truth at a position reaches as far as its stamp and the wait
abbrev pub Reach : Type 0
Reach = (f g : Facts) (τ υ : List ℕ) → Rises τ → Rises υ → (φ : Formula) → WellFormed φ → (η : Valuation) (i : ℕ) → i < length τ
    → Alike f τ g υ (slice_index τ i + wait φ) → Equivalent (Truth f τ φ η i) (Truth g υ φ η i)

-- once the last stamp is at least a position's own plus the wait, truth there is the same in every lengthening
abbrev pub Settled : Type 0
Settled = (f g : Facts) (t u : Trace) → Orderly f t → Lengthens f t g u → (φ : Formula) → WellFormed φ → (η : Valuation) (i : ℕ) → i < shown t
    → stamp_at t i + wait φ ≤ stamp_at t (shown t - 1) → Equivalent (Truth f t.stamps φ η i) (Truth g u.stamps φ η i)

-- the formulas of a table that keeps the form rules are well formed
abbrev pub FormedTables : Type 0
FormedTables = (D : Declarations) (ns : List Node) → Formed D ns → (n : ℕ) → n < length ns → WellFormed (formula_at ns n)
