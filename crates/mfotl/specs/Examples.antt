-- Worked examples of truth, as data: a trace, a formula, values for the variables, a position, and whether it is true there.
use Rattle.std.specs.Prelude.{◌≡◌, ℕ, ◌+◌, ◌≤◌, Bool, true, false, ◌&&◌, ◌||◌, List, [], ◌∷◌, Some, None, ◌==◌, slice_index}
use Rattle.std.specs.List.{AllByRecursion}
use Rattle.table.specs.declared.Interval.{Interval}
use Rattle.table.specs.declared.Term.TheVariants.{Variable, Constant}
use Rattle.table.specs.Formula.{Formula, verum, falsum, atom, and, or, exists, forall, prev, once, hist, next, event, always, since, until}
use Rattle.facts.specs.Calculated.{calculated}
use Rattle.facts.specs.Facts.{Facts}
use Rattle.facts.specs.Tuples.{same}
use Rattle.policy.specs.Wait.{wait}
use Rattle.sets.specs.Sets.{single}
use Rattle.mfotl.specs.Laws.{Equivalent}
use Rattle.mfotl.specs.Truth.{Valuation, Truth}

-- a fact at a position
pub record Happened : Type 0 where
  pub at : ℕ
  pub predicate : ℕ
  pub arguments : List ℕ

abbrev pub happens : ℕ → ℕ → List ℕ → List Happened → Bool
happens p q vs [] = false
happens p q vs (x ∷ xs) = (x.at == p && (x.predicate == q && same x.arguments vs)) || happens p q vs xs

-- the facts of what happened
abbrev pub happened : List Happened → Facts
happened xs = record { needs = λ q n. None; holds = λ p q vs. happens p q vs xs }

pub record Example : Type 0 where
  pub facts : Facts
  pub stamps : List ℕ
  pub formula : Formula
  pub values : List ℕ
  pub position : ℕ
  pub verdict : Bool

-- so, or not so
abbrev pub Says : Bool → Type 0 → Type 0
Says true P = P
Says false P = P → ⊥

-- the example comes out as it says
abbrev pub Correct : Example → Type 0
Correct x = Says x.verdict (Truth x.facts x.stamps x.formula (λ v. slice_index x.values v) x.position)

abbrev fact : ℕ → ℕ → List ℕ → Happened
fact p q vs = record { at = p; predicate = q; arguments = vs }

abbrev to : ℕ → ℕ → Interval
to l h = record { lo = l; hi = Some h }

abbrev from : ℕ → Interval
from l = record { lo = l; hi = None }

-- p(), where p is a predicate; the number of a node matters to no truth
abbrev p : ℕ → Formula
p q = atom 0 q []

abbrev example : List Happened → List ℕ → Formula → ℕ → Bool → Example
example xs τ φ i b = record { facts = happened xs; stamps = τ; formula = φ; values = []; position = i; verdict = b }

abbrev bound : List Happened → Formula → List ℕ → Bool → Example
bound xs φ vs b = record { facts = happened xs; stamps = 0 ∷ []; formula = φ; values = vs; position = 0; verdict = b }

abbrev related : ℕ → ℕ → ℕ → Bool → Example
related q x y b = record { facts = calculated; stamps = 0 ∷ []; formula = atom 0 q (Constant x ∷ Constant y ∷ []); values = []; position = 0; verdict = b }

abbrev twice : Formula
twice = atom 0 0 (Variable 0 ∷ Variable 0 ∷ [])

abbrev pub examples : List Example
examples =
    -- prev[0,9] true at stamps 3, 8: not at the first position, which has none before it
    example [] (3 ∷ 8 ∷ []) (prev 0 (to 0 9) (verum 0)) 0 false
    ∷ example [] (3 ∷ 8 ∷ []) (prev 0 (to 0 9) (verum 0)) 1 true
    ∷ example [] (3 ∷ 8 ∷ []) (prev 0 (to 0 4) (verum 0)) 1 false
    -- next[0,9] true: not at the last position
    ∷ example [] (3 ∷ 8 ∷ []) (next 0 (to 0 9) (verum 0)) 0 true
    ∷ example [] (3 ∷ 8 ∷ []) (next 0 (to 0 9) (verum 0)) 1 false
    ∷ example [] (3 ∷ 8 ∷ []) (next 0 (to 6 9) (verum 0)) 0 false
    -- since[5,none] at 16, right at 10 and 13: only the right at 10 is far enough, so left has to hold at 13 and at 16
    ∷ example (fact 0 1 [] ∷ fact 1 1 [] ∷ fact 1 0 [] ∷ fact 2 0 [] ∷ []) (10 ∷ 13 ∷ 16 ∷ []) (since 0 (from 5) (p 0) (p 1)) 2 true
    ∷ example (fact 0 1 [] ∷ fact 1 1 [] ∷ fact 2 0 [] ∷ []) (10 ∷ 13 ∷ 16 ∷ []) (since 0 (from 5) (p 0) (p 1)) 2 false
    ∷ example (fact 0 1 [] ∷ fact 1 1 [] ∷ fact 1 0 [] ∷ []) (10 ∷ 13 ∷ 16 ∷ []) (since 0 (from 5) (p 0) (p 1)) 2 false
    -- since[0,9] where the right is: left need not hold anywhere
    ∷ example (fact 0 1 [] ∷ []) (10 ∷ []) (since 0 (to 0 9) (p 0) (p 1)) 0 true
    -- hist[5,9] false at position 0: no position lies so far back
    ∷ example [] (3 ∷ []) (hist 0 (to 5 9) (falsum 0)) 0 true
    ∷ example [] (3 ∷ 8 ∷ []) (hist 0 (to 5 9) (falsum 0)) 1 false
    -- once[0,5] and once[5,6]: both ends count
    ∷ example (fact 0 0 [] ∷ []) (10 ∷ 15 ∷ 16 ∷ []) (once 0 (to 5 6) (p 0)) 1 true
    ∷ example (fact 0 0 [] ∷ []) (10 ∷ 15 ∷ 16 ∷ []) (once 0 (to 6 7) (p 0)) 1 false
    ∷ example (fact 0 0 [] ∷ []) (10 ∷ 15 ∷ 16 ∷ []) (once 0 (to 0 5) (p 0)) 1 true
    ∷ example (fact 0 0 [] ∷ []) (10 ∷ 15 ∷ 16 ∷ []) (once 0 (to 0 5) (p 0)) 2 false
    -- event[0,60] from 10: at 70 in time, at 71 too late
    ∷ example (fact 1 1 (5 ∷ []) ∷ []) (10 ∷ 70 ∷ []) (event 0 (to 0 60) (atom 0 1 (Constant 5 ∷ []))) 0 true
    ∷ example (fact 1 1 (5 ∷ []) ∷ []) (10 ∷ 71 ∷ []) (event 0 (to 0 60) (atom 0 1 (Constant 5 ∷ []))) 0 false
    -- always[1,5]: the position itself does not count, and what lies beyond does not
    ∷ example (fact 1 0 [] ∷ []) (10 ∷ 15 ∷ 16 ∷ []) (always 0 (to 1 5) (p 0)) 0 true
    ∷ example (fact 1 0 [] ∷ []) (10 ∷ 15 ∷ 16 ∷ []) (always 0 (to 1 6) (p 0)) 0 false
    -- until[0,9]: left holds from the position on, up to but not at the right
    ∷ example (fact 0 0 [] ∷ fact 1 0 [] ∷ fact 2 1 [] ∷ []) (10 ∷ 12 ∷ 19 ∷ []) (until 0 (to 0 9) (p 0) (p 1)) 0 true
    ∷ example (fact 0 0 [] ∷ fact 2 1 [] ∷ []) (10 ∷ 12 ∷ 19 ∷ []) (until 0 (to 0 9) (p 0) (p 1)) 0 false
    -- until[0,9] where the right is: left need not hold anywhere
    ∷ example (fact 0 1 [] ∷ []) (10 ∷ []) (until 0 (to 0 9) (p 0) (p 1)) 0 true
    -- and, or
    ∷ example (fact 0 0 [] ∷ []) (0 ∷ []) (and 0 (p 0) (p 1)) 0 false
    ∷ example (fact 0 0 [] ∷ []) (0 ∷ []) (or 0 (p 0) (p 1)) 0 true
    -- p0(v0,v0) is not made true by p0(3,4), but by p0(3,3)
    ∷ bound (fact 0 0 (3 ∷ 4 ∷ []) ∷ []) twice (3 ∷ []) false
    ∷ bound (fact 0 0 (3 ∷ 4 ∷ []) ∷ []) twice (4 ∷ []) false
    ∷ bound (fact 0 0 (3 ∷ 3 ∷ []) ∷ []) twice (3 ∷ []) true
    -- the siblings of 511 begin with 256 and end with 511
    ∷ related 35 511 255 false
    ∷ related 35 511 256 true
    ∷ related 35 511 511 true
    ∷ related 35 511 512 false
    ∷ []

abbrev pub ExamplesStand : Type 0
ExamplesStand = AllByRecursion Correct examples

-- forall v0 (p0(v0) to event[0,60] p1(v0))
abbrev pub answered : Formula
answered = forall 0 (single 0) (atom 0 0 (Variable 0 ∷ [])) (event 0 (to 0 60) (atom 0 1 (Variable 0 ∷ [])))

-- p0(5) at a first position, p1(5) at a second
abbrev pub asked : Facts
asked = happened (fact 0 0 (5 ∷ []) ∷ fact 1 1 (5 ∷ []) ∷ [])

-- examples with quantifiers, and examples for all values
pub record QuantifiedExamples : Type 0 where
  -- the answer at 70 is in time for 10, and at 71 it is not
  pub in_time : (η : Valuation) → Truth asked (10 ∷ 70 ∷ []) answered η 0
  pub late : (η : Valuation) → Truth asked (10 ∷ 71 ∷ []) answered η 0 → ⊥
  -- with the last stamp 69, the first position is not yet as far back as the wait; with 70 it is
  pub waits : 10 + wait answered ≤ 69 → ⊥
  pub settled : 10 + wait answered ≤ 70
  -- p0(3,4) makes p0(v0,v0) true for no value
  pub twice_none : (η : Valuation) → Truth (happened (fact 0 0 (3 ∷ 4 ∷ []) ∷ [])) (0 ∷ []) (exists 0 (single 0) twice) η 0 → ⊥
  -- the siblings of 511 are 256 to 511
  pub siblings : (y : ℕ) → Equivalent (calculated.holds 0 35 (511 ∷ y ∷ []) ≡ true) ((256 ≤ y) × (y ≤ 511))
