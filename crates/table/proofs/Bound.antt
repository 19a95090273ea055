-- The variables that the nodes of a table bind, gathered node by node.
use Rattle.std.proofs.Common.{◌≡◌, ℕ, ◌+◌, ◌<◌, List, [], ◌∷◌, ◌++◌, length, take, sym, ap, ◌∙◌}
use Rattle.std.proofs.lemmas.List.{take_more}
use Rattle.table.specs.declared.node.Node.{Node}
use Rattle.table.specs.declared.node.Node.TheVariants.{True}
use Rattle.sets.specs.Sets.{NumberSet, ◌∪◌}
use Rattle.table.specs.Form.{bindings, bound_by, node_at}
use Rattle.sets.proofs.Unions.{union_assoc, union_none, none_union}

bound_append : (xs ys : List Node) → bound_by (xs ++ ys) ≡ bound_by xs ∪ bound_by ys
bound_append [] ys = sym (none_union (bound_by ys))
bound_append (x ∷ xs) ys = ap (λ (K : NumberSet). bindings x ∪ K) (bound_append xs ys) ∙ sym (union_assoc (bindings x) (bound_by xs) (bound_by ys))

pub bound_more : (ns : List Node) (i : ℕ) → i < length ns → bound_by (take (i + 1) ns) ≡ bound_by (take i ns) ∪ bindings (node_at ns i)
bound_more ns i h =
    ap bound_by (take_more ns i True h) ∙ bound_append (take i ns) (node_at ns i ∷ [])
    ∙ ap (λ (K : NumberSet). bound_by (take i ns) ∪ K) (union_none (bindings (node_at ns i)))
