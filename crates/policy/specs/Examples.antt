-- Worked examples of modes, caching and waits: what the definitions give, beside what they should.
use Rattle.std.specs.Prelude.{◌≡◌, ℕ, Bool, true, false, List, [], ◌∷◌, Some, None, ◌==◌}
use Rattle.std.specs.List.{AllByRecursion}
use Rattle.table.specs.declared.node.Interval.{Interval}
use Rattle.table.specs.declared.node.Term.TheVariants.{Variable}
use Rattle.sets.specs.Sets.{none, single}
use Rattle.table.specs.Formula.{Formula, verum, atom, or, once, event}
use Rattle.table.specs.Form.{Declarations}
use Rattle.policy.specs.Modes.{searchable, cached}
use Rattle.policy.specs.Wait.{wait}

pub record Example : Type 0 where
  pub gives : Bool
  pub should : Bool

-- the predicates 0 and 1 have one argument each; that of 1 must be given if its mask is 1
abbrev pub two : ℕ → Declarations
two mask = Some (record { count = 1; given = record { mask = 0 } }) ∷ Some (record { count = 1; given = record { mask = mask } }) ∷ []

-- p(v), as the node n
abbrev pub of : ℕ → ℕ → ℕ → Formula
of n p v = atom n p (Variable v ∷ [])

-- from now back without end, and the next h seconds
abbrev pub ever : Interval
ever = record { lo = 0; hi = None }

abbrev pub within : ℕ → Interval
within h = record { lo = 0; hi = Some h }

abbrev pub examples : List Example
examples =
    -- p0(v0) or p1(v1) isn't searchable from nothing: its sides have different free variables
    record { gives = searchable (two 0) none (or 2 (of 0 0 0) (of 1 1 1)); should = false }
    -- p0(v0) or p1(v0) is
    ∷ record { gives = searchable (two 0) none (or 2 (of 0 0 0) (of 1 1 0)); should = true }
    -- once p1(v0) is cached
    ∷ record { gives = cached (two 0) (once 1 ever (of 0 1 0)); should = true }
    -- but not if p1's argument must be given: a row could not be found with nothing known
    ∷ record { gives = cached (two 1) (once 1 ever (of 0 1 0)); should = false }
    -- with v0 known it can be searched all the same
    ∷ record { gives = searchable (two 1) (single 0) (once 1 ever (of 0 1 0)); should = true }
    -- nested ends add up: event[0,60] event[0,3600] true waits for 3660 seconds, and not for the greater of both
    ∷ record { gives = (wait (event 2 (within 60) (event 1 (within 3600) (verum 0))) == 3660); should = true }
    ∷ []

abbrev pub ExamplesHold : Type 0
ExamplesHold = AllByRecursion (λ e. e.gives ≡ e.should) examples
