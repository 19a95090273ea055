-- The row list over one more position.
use Rattle.std.specs.Prelude.{◌≡◌, ℕ, ◌+◌, ◌<◌, true, ◌⊎◌, List, [], ◌∷◌, ◌++◌, length}
use Rattle.std.specs.List.{AllByRecursion}
use Rattle.table.specs.declared.Node.{Node}
use Rattle.table.specs.Form.{Declarations}
use Rattle.table.specs.Formed.{Formed}
use Rattle.table.specs.Formula.{free, formula_at}
use Rattle.policy.specs.Modes.{cached}
use Rattle.policy.specs.Wait.{wait}
use Rattle.facts.specs.Facts.{Facts}
use Rattle.mfotl.specs.Laws.{Rises}
use Rattle.mfotl.specs.Truth.{Truth}
use Rattle.summary.specs.declared.row.Row.{Row}
use Rattle.summary.specs.Rows.{Summary, prevs, onces, sinces, formula, source, stays, Sound, valued, ValuesFor, SomeOf, Sorted, IsRow, RowList}

-- truth of both parts does not look ahead
pub record Past (s : Summary) : Type 0 where
  pub beginning : wait (source s) ≡ 0
  pub staying : wait (stays s) ≡ 0

-- one more position with a stamp; at the positions from before the facts are the same
pub record OneMore (f : Facts) (τ : List ℕ) (g : Facts) (υ : List ℕ) (stamp : ℕ) : Type 0 where
  pub stamps : υ ≡ τ ++ (stamp ∷ [])
  pub facts : (k q : ℕ) (vs : List ℕ) → k < length τ → g.holds k q vs ≡ f.holds k q vs

-- a row one position lengthened
abbrev pub lengthened : Row → Row
lengthened r = record { values = r.values; first = r.first; last = r.last + 1 }

module _ (g : Facts) (υ : List ℕ) (n : ℕ) where
  -- a row whose left side holds again at the position n, and which lasted up to the one before; only since has such rows
  abbrev pub HoldsAgain : Summary → Row → Type 0
  HoldsAgain (prevs I b) r = ⊥
  HoldsAgain (onces I b) r = ⊥
  HoldsAgain (sinces I l x) r = (r.last + 1 ≡ n) × Truth g υ l (valued r.values) n

  -- a row is lengthened exactly if its left side holds again
  abbrev pub Continues : Summary → Row → Row → Type 0
  Continues s r r' = (HoldsAgain s r × (r' ≡ lengthened r)) ⊎ ((HoldsAgain s r → ⊥) × (r' ≡ r))

  abbrev pub AllContinue : Summary → List Row → List Row → Type 0
  AllContinue s [] [] = Unit {0}
  AllContinue s [] (r' ∷ rs') = ⊥
  AllContinue s (r ∷ rs) [] = ⊥
  AllContinue s (r ∷ rs) (r' ∷ rs') = Continues s r r' × AllContinue s rs rs'

  -- the rows that begin at the position n, in their order
  pub record NewRows (s : Summary) (news : List Row) : Type 0 where
    pub each : AllByRecursion (λ r. IsRow g υ s r × (r.first ≡ n)) news
    pub sorted : Sorted news
    pub all : (vs : List ℕ) → ValuesFor (free (source s)) vs → Truth g υ (source s) (valued vs) n → SomeOf (λ r. (r.values ≡ vs) × (r.first ≡ n)) news

-- the row list over one more position is the old list, of which just those rows are lengthened by one whose left side holds
-- again, and then the new position's rows
abbrev pub RowsGrow : Type 0
RowsGrow = (f g : Facts) (τ υ : List ℕ) (stamp : ℕ) (s : Summary) → Rises τ → Rises υ → OneMore f τ g υ stamp → Sound s → Past s → (rows kept news : List Row)
    → RowList f τ s rows → AllContinue g υ (length τ) s rows kept → NewRows g υ (length τ) s news → RowList g υ s (kept ++ news)

-- facts that are true only at positions not shown change no rows
abbrev pub RowsStay : Type 0
RowsStay = (f g : Facts) (τ : List ℕ) (s : Summary) → Rises τ → Sound s → Past s
    → ((k q : ℕ) (vs : List ℕ) → k < length τ → g.holds k q vs ≡ f.holds k q vs) → (rows : List Row) → RowList f τ s rows → RowList g τ s rows

-- a cached node of a table that keeps the form rules has rows, whose parts are sound and look at the past only
abbrev pub CachedHaveRows : Type 0
CachedHaveRows = (D : Declarations) (ns : List Node) → Formed D ns → (n : ℕ) → n < length ns → cached D (formula_at ns n) ≡ true
    → (s : Summary) × (m : ℕ) × (formula_at ns n ≡ formula m s) × Sound s × Past s
