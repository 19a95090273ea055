-- Which refusal a table meets, and what holds of one that meets none.
use Rattle.std.specs.Prelude.{◌≡◌, ℕ, true, List, Some, None, Ok, Err, Option, Result}
use Rattle.std.specs.Option.{option_or}
use Rattle.refusal.specs.Causes.{refusal_at}
use Rattle.refusal.specs.declared.Cause.TheVariants.{NotSearchable}
use Rattle.refusal.specs.declared.Refusal.{Refusal}
use Rattle.table.specs.declared.node.Node.{Node}
use Rattle.sets.specs.Sets.{none}
use Rattle.table.specs.Formula.{formula_at, root_of}
use Rattle.table.specs.Form.{Declarations, first, form_questions}
use Rattle.table.specs.Formed.{Formed}
use Rattle.policy.specs.declared.modes.Mode.TheVariants.{Search}
use Rattle.policy.specs.Modes.{walk, searchable}

-- the refusal of a walk: not searchable, at the node where it first fails
abbrev pub of_walk : Result (Unit {0}) ℕ → Option Refusal
of_walk (Ok _) = None
of_walk (Err n) = Some (refusal_at NotSearchable n)

-- the refusal of a table, if any: the first form rule that it breaks, or else the failure of the walk from the root
-- with nothing known; so a refusal of the form comes before one of the modes
abbrev pub refusal_of : Declarations → List Node → Option Refusal
refusal_of D ns = option_or (first (form_questions D ns)) (of_walk (walk Search D (formula_at ns (root_of ns)) none))

-- every form rule holds, and the root is searchable from nothing
pub record Accepted (D : Declarations) (ns : List Node) : Type 0 where
  pub formed : Formed D ns
  pub moded : searchable D none (formula_at ns (root_of ns)) ≡ true

-- a table is accepted exactly if it meets no refusal
abbrev pub RefusedUnlessAccepted : Type 0
RefusedUnlessAccepted =
    (D : Declarations) (ns : List Node) → (Accepted D ns → refusal_of D ns ≡ None) × (refusal_of D ns ≡ None → Accepted D ns)
