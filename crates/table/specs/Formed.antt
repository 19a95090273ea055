-- What a table keeps that no form rule refuses.
use Rattle.std.specs.Prelude.{◌≡◌, ℕ, ◌<◌, false, List, length, None}
use Rattle.std.specs.List.{list_any}
use Rattle.table.specs.declared.node.Node.{Node}
use Rattle.table.specs.Formula.{formula_at, formula_of, formulas}
use Rattle.table.specs.Form.{Declarations, node_at, wrong_count, declaration_over, over_limit, Descends, not_declared, bad_interval, not_one_parent, bound_before, free_at_root, first, form_questions}

-- the table keeps every form rule
pub record Formed (D : Declarations) (ns : List Node) : Type 0 where
  pub count : wrong_count ns ≡ false
  pub declarations : list_any declaration_over D ≡ false
  pub limits : (i : ℕ) → i < length ns → over_limit (node_at ns i) ≡ false
  pub descends : Descends ns
  pub declared : (i : ℕ) → i < length ns → not_declared D (node_at ns i) ≡ false
  pub intervals : (i : ℕ) → i < length ns → bad_interval (node_at ns i) ≡ false
  pub one_parent : (i : ℕ) → i < length ns → not_one_parent ns i ≡ false
  pub fresh : (i : ℕ) → i < length ns → bound_before ns i ≡ false
  pub closed : free_at_root ns ≡ false

-- a table is refused exactly if it does not keep every form rule
abbrev pub RefusedUnlessFormed : Type 0
RefusedUnlessFormed =
    (D : Declarations) (ns : List Node)
    → (Formed D ns → first (form_questions D ns) ≡ None) × (first (form_questions D ns) ≡ None → Formed D ns)

-- the formula of a node is its operator over the formulas of its children
abbrev pub FormulasUnfold : Type 0
FormulasUnfold =
    (D : Declarations) (ns : List Node) → Formed D ns → (n : ℕ) → n < length ns → formula_at ns n ≡ formula_of (formulas ns) n (node_at ns n)
