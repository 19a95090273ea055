-- Formulas of metric first-order temporal logic, and the formula that each node of a table stands for.
use Rattle.std.specs.Prelude.{◌≡◌, ℕ, ◌+◌, ◌-◌, ◌<◌, Bool, cond, List, [], ◌∷◌, ◌++◌, length, nat_lt, slice_index_or}
use Rattle.table.specs.declared.node.Interval.{Interval}
use Rattle.table.specs.declared.node.Node.{Node}
use Rattle.table.specs.declared.node.Node.TheVariants.{True, False, Atom, And, Or, Exists, Forall, Prev, Once, Hist, Next, Event, Always, Since, Until}
use Rattle.table.specs.declared.node.Term.{Term}
use Rattle.table.specs.declared.node.Term.TheVariants.{Variable, Constant}
use Rattle.table.specs.Arguments.{kept}
use Rattle.sets.specs.declared.SmallSet.{SmallSet}
use Rattle.sets.specs.Sets.{NumberSet, members, none, ◌∪◌, ◌∖◌, single, below}

-- A formula. The first number of each part is that of its node, by which refusals and summaries name the part;
-- no part's meaning depends on it. A quantifier binds a set of variables, which may be empty.
pub data Formula : Type 0 where
  verum : ℕ → Formula
  falsum : ℕ → Formula
  atom : ℕ → ℕ → List Term → Formula
  and : ℕ → Formula → Formula → Formula
  or : ℕ → Formula → Formula → Formula
  exists : ℕ → NumberSet → Formula → Formula
  forall : ℕ → NumberSet → Formula → Formula → Formula
  prev : ℕ → Interval → Formula → Formula
  once : ℕ → Interval → Formula → Formula
  hist : ℕ → Interval → Formula → Formula
  next : ℕ → Interval → Formula → Formula
  event : ℕ → Interval → Formula → Formula
  always : ℕ → Interval → Formula → Formula
  since : ℕ → Interval → Formula → Formula → Formula
  until : ℕ → Interval → Formula → Formula → Formula

-- the variable of a term, if it is one and is wanted; variables are numbered from 0 to 7
abbrev pub variable_in : Bool → Term → NumberSet
variable_in wanted (Variable v) = cond wanted (cond (nat_lt v 8) (single v) none) none
variable_in wanted (Constant c) = none

-- the variables among terms that stand at the places of a set, where the first term stands at the place a
abbrev pub variables_at : NumberSet → ℕ → List Term → NumberSet
variables_at G a [] = none
variables_at G a (t ∷ ts) = variable_in (G a) t ∪ variables_at G (a + 1) ts

-- the free variables of a formula; those of an atom stand at its arguments, of which there are at most three
abbrev pub free : Formula → NumberSet
free (verum n) = none
free (falsum n) = none
free (atom n p ts) = variables_at (below 3) 0 ts
free (and n l r) = free l ∪ free r
free (or n l r) = free l ∪ free r
free (exists n vs b) = free b ∖ vs
free (forall n vs l r) = (free l ∪ free r) ∖ vs
free (prev n i b) = free b
free (once n i b) = free b
free (hist n i b) = free b
free (next n i b) = free b
free (event n i b) = free b
free (always n i b) = free b
free (since n i l r) = free l ∪ free r
free (until n i l r) = free l ∪ free r

-- the formula of the node n, where the nodes before it stand for the formulas of `done`
abbrev pub formula_of : List Formula → ℕ → Node → Formula
formula_of done n True = verum n
formula_of done n False = falsum n
formula_of done n (Atom p ts) = atom n p (kept ts)
formula_of done n (And l r) = and n (slice_index_or done l (verum 0)) (slice_index_or done r (verum 0))
formula_of done n (Or l r) = or n (slice_index_or done l (verum 0)) (slice_index_or done r (verum 0))
formula_of done n (Exists vs b) = exists n (members vs) (slice_index_or done b (verum 0))
formula_of done n (Forall vs l r) = forall n (members vs) (slice_index_or done l (verum 0)) (slice_index_or done r (verum 0))
formula_of done n (Prev i b) = prev n i (slice_index_or done b (verum 0))
formula_of done n (Once i b) = once n i (slice_index_or done b (verum 0))
formula_of done n (Hist i b) = hist n i (slice_index_or done b (verum 0))
formula_of done n (Next i b) = next n i (slice_index_or done b (verum 0))
formula_of done n (Event i b) = event n i (slice_index_or done b (verum 0))
formula_of done n (Always i b) = always n i (slice_index_or done b (verum 0))
formula_of done n (Since i l r) = since n i (slice_index_or done l (verum 0)) (slice_index_or done r (verum 0))
formula_of done n (Until i l r) = until n i (slice_index_or done l (verum 0)) (slice_index_or done r (verum 0))

-- the formulas of further nodes, after those of `done`
abbrev pub onward : List Formula → List Node → List Formula
onward done [] = done
onward done (x ∷ xs) = onward (done ++ formula_of done (length done) x ∷ []) xs

-- the formulas of a table's nodes, in their order
unfoldable pub formulas : List Node → List Formula
formulas ns = onward [] ns

-- the formula of the node n
abbrev pub formula_at : List Node → ℕ → Formula
formula_at ns n = slice_index_or (formulas ns) n (verum 0)

-- the last node is the root
abbrev pub root_of : List Node → ℕ
root_of ns = length ns - 1

-- the sets are the free variables of the first n formulas
abbrev pub FreeUpTo : List SmallSet → ℕ → List Formula → Type 0
FreeUpTo ss n fs = (j : ℕ) → j < n → members (slice_index_or ss j (record { mask = 0 })) ≡ free (slice_index_or fs j (verum 0))
