-- Modes: from which known variables a formula can be searched, and which operators can keep rows.
use Rattle.std.specs.Prelude.{◌≡◌, ℕ, Bool, true, false, cond, ◌&&◌, List, is_ok, Some, None, Ok, Err, Option, Result, slice_index_or}
use Rattle.std.specs.Result.{result_and}
use Rattle.table.specs.declared.node.Declaration.{Declaration}
use Rattle.table.specs.declared.node.Term.{Term}
use Rattle.sets.specs.Sets.{NumberSet, members, none, ◌∪◌, ◌∖◌, ◌⊆◌}
use Rattle.table.specs.Formula.{Formula, verum, falsum, atom, and, or, exists, forall, prev, once, hist, next, event, always, since, until, free, variables_at}
use Rattle.table.specs.Form.{Declarations}
use Rattle.policy.specs.declared.modes.Mode.{Mode}
use Rattle.policy.specs.declared.modes.Mode.TheVariants.{Search, Build}

-- the arguments that must be given
abbrev pub given_of : Option Declaration → NumberSet
given_of None = none
given_of (Some d) = members d.given

-- the variables of an atom that must be known: those at the arguments that must be given
abbrev pub needed : Declarations → ℕ → List Term → NumberSet
needed D p ts = variables_at (given_of (slice_index_or D p None)) 0 ts

-- two sets are the same outside K
abbrev pub same_outside : NumberSet → NumberSet → NumberSet → Bool
same_outside K L M = ((L ∖ K) ⊆ (M ∖ K)) && ((M ∖ K) ⊆ (L ∖ K))

-- a forall binds variables that are free in its left side, and leaves no other variable unknown
abbrev pub binds_all : NumberSet → NumberSet → NumberSet → NumberSet → Bool
binds_all K vs L R = (vs ⊆ L) && ((L ∪ R) ⊆ (K ∪ vs))

-- Formulas are read in two modes. Searching, each operator starts from what is known. Building rows, prev, once and
-- since start from nothing, since rows serve every later position, and the other operators over time cannot be used.
abbrev pub start_of : Mode → NumberSet → NumberSet
start_of Search K = K
start_of Build K = none

abbrev pub searching : Mode → Bool
searching Search = true
searching Build = false

-- the formula is searchable, or buildable, from the variables of K
abbrev pub moded : Mode → Declarations → Formula → NumberSet → Bool
moded m D (verum n) K = true
moded m D (falsum n) K = true
moded m D (atom n p ts) K = needed D p ts ⊆ K
moded m D (and n l r) K = moded m D l K && moded m D r (K ∪ free l)
moded m D (or n l r) K = moded m D l K && (moded m D r K && same_outside K (free l) (free r))
moded m D (exists n vs b) K = moded m D b K && (vs ⊆ free b)
moded m D (forall n vs l r) K = moded m D l K && (moded m D r (K ∪ vs) && binds_all K vs (free l) (free r))
moded m D (prev n i b) K = moded m D b (start_of m K)
moded m D (once n i b) K = moded m D b (start_of m K)
moded m D (hist n i b) K = searching m && (moded m D b K && (free b ⊆ K))
moded m D (next n i b) K = searching m && moded m D b K
moded m D (event n i b) K = searching m && moded m D b K
moded m D (always n i b) K = searching m && (moded m D b K && (free b ⊆ K))
moded m D (since n i l r) K = moded m D r (start_of m K) && (moded m D l (start_of m K ∪ free r) && (free l ⊆ (start_of m K ∪ free r)))
moded m D (until n i l r) K = searching m && (moded m D r K && (moded m D l (K ∪ free r) && (free l ⊆ (K ∪ free r))))

abbrev pub searchable : Declarations → NumberSet → Formula → Bool
searchable D K f = moded Search D f K

abbrev pub buildable : Declarations → NumberSet → Formula → Bool
buildable D K f = moded Build D f K

-- prev, once and since
abbrev pub over_past : Formula → Bool
over_past (prev n i b) = true
over_past (once n i b) = true
over_past (since n i l r) = true
over_past _ = false

-- a prev, once or since is cached exactly if it is buildable; what is known plays no part, since it starts from nothing
abbrev pub cached : Declarations → Formula → Bool
cached D f = over_past f && buildable D none f

-- The walk that looks for the failing node: from the root to the leaves, left before right, but right first at since
-- and until; a node's own conditions on sets come after its operands. It answers Ok, or the node where it first fails.
abbrev pub if_only : Bool → ℕ → Result (Unit {0}) ℕ
if_only b n = cond b (Ok tt) (Err n)

abbrev pub walk : Mode → Declarations → Formula → NumberSet → Result (Unit {0}) ℕ
walk m D (verum n) K = Ok tt
walk m D (falsum n) K = Ok tt
walk m D (atom n p ts) K = if_only (needed D p ts ⊆ K) n
walk m D (and n l r) K = result_and (walk m D l K) (walk m D r (K ∪ free l))
walk m D (or n l r) K = result_and (walk m D l K) (result_and (walk m D r K) (if_only (same_outside K (free l) (free r)) n))
walk m D (exists n vs b) K = result_and (walk m D b K) (if_only (vs ⊆ free b) n)
walk m D (forall n vs l r) K = result_and (walk m D l K) (result_and (walk m D r (K ∪ vs)) (if_only (binds_all K vs (free l) (free r)) n))
walk m D (prev n i b) K = walk m D b (start_of m K)
walk m D (once n i b) K = walk m D b (start_of m K)
walk m D (hist n i b) K = result_and (if_only (searching m) n) (result_and (walk m D b K) (if_only (free b ⊆ K) n))
walk m D (next n i b) K = result_and (if_only (searching m) n) (walk m D b K)
walk m D (event n i b) K = result_and (if_only (searching m) n) (walk m D b K)
walk m D (always n i b) K = result_and (if_only (searching m) n) (result_and (walk m D b K) (if_only (free b ⊆ K) n))
walk m D (since n i l r) K = result_and (walk m D r (start_of m K)) (result_and (walk m D l (start_of m K ∪ free r)) (if_only (free l ⊆ (start_of m K ∪ free r)) n))
walk m D (until n i l r) K = result_and (if_only (searching m) n) (result_and (walk m D r K) (result_and (walk m D l (K ∪ free r)) (if_only (free l ⊆ (K ∪ free r)) n)))

-- the operands of a since or an until: right, then left with right's variables known
abbrev pub walk_sides : Mode → Declarations → ℕ → Formula → Formula → NumberSet → Result (Unit {0}) ℕ
walk_sides m D n l r K = result_and (walk m D r K) (result_and (walk m D l (K ∪ free r)) (if_only (free l ⊆ (K ∪ free r)) n))

-- the walk fails exactly if the rules do not hold
abbrev pub WalkTells : Type 0
WalkTells = (m : Mode) (D : Declarations) (f : Formula) (K : NumberSet) → is_ok (walk m D f K) ≡ moded m D f K
