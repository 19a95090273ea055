-- Loops over a list, each by what is left of it.
use Rattle.std.proofs.Common.{◌≡◌, ℕ, ◌+◌, ◌<◌, cond, List, [], ◌∷◌, ◌++◌, length, get_or, set, sym, refl, subst, arith, below_more}
use Rattle.std.proofs.lemmas.List.{get_or-set_same, get_or-set_other}
use Rattle.std.specs.List.{flat_map, count_by, sum_by}
use Rattle.std.specs.Prelude.{◌==◌}
use Rattle.std.proofs.lemmas.List.Recursion.{is_sum_by}
use Rattle.table.specs.declared.node.Node.{Node}
use Rattle.table.specs.Form.{times, children, parent_count}

-- the parents of a node, counted one by one
pub times_append : (k : ℕ) (xs ys : List ℕ) → times k (xs ++ ys) ≡ times k xs + times k ys
times_append k [] ys = omega arith
times_append k (x ∷ xs) ys = omega (arith, times_append k xs ys)

-- the library's count of the same
pub count_by_times : (k : ℕ) (xs : List ℕ) → count_by (λ x. x == k) xs ≡ times k xs
count_by_times k xs = sym (is_sum_by (times k) (λ x. cond (x == k) 1 0) refl (λ _ _. refl) xs)

pub sum_by_times : (k : ℕ) (ns : List Node) → sum_by (λ x. times k (children x)) ns ≡ parent_count ns k
sum_by_times k ns = sym (is_sum_by (λ l. parent_count l k) (λ x. times k (children x)) refl (λ x xs. times_append k (children x) (flat_map children xs)) ns)

-- an array that is filled place by place
pub fill_more : {X : Type 0} (P : ℕ → X → Type 0) (xs : List X) (d x : X) (i : ℕ) → i < length xs → ((j : ℕ) → j < i → P j (get_or xs j d)) → P i x → (j : ℕ) → j < i + 1 → P j (get_or (set xs i x) j d)
fill_more {X} P xs d x i h inv here =
    below_more _ _
    (λ j l. let e : get_or (set xs i x) j d ≡ get_or xs j d = get_or-set_other xs i j x d (λ e. omega arith) in subst (λ (y : X). P j y) (sym e) (inv j l))
    (subst (λ (y : X). P i y) (sym (get_or-set_same xs i x d h)) here)
