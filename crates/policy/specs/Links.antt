-- The links from each node to its parent.
use Rattle.std.specs.Prelude.{◌≡◌, ℕ, ◌+◌, ◌<◌, cond, ◌≢◌, List, [], ◌∷◌, length, ◌==◌}
use Rattle.std.specs.List.{AllByRecursion}
use Rattle.table.specs.declared.node.Node.{Node}
use Rattle.table.specs.Formula.{root_of}
use Rattle.table.specs.Form.{times, children, node_at}

-- the first of the nodes from i on that has k for a child; k itself if there is none
abbrev pub parent_from : ℕ → List Node → ℕ → ℕ
parent_from i [] k = k
parent_from i (x ∷ xs) k = cond (times k (children x) == 0) (parent_from (i + 1) xs k) i

-- the numbers of a list differ from one another
abbrev pub Distinct : List ℕ → Type 0
Distinct [] = Unit {0}
Distinct (x ∷ xs) = AllByRecursion (λ y. x ≢ y) xs × Distinct xs

-- each child's link is its parent, the children of a node differ, and the root is its own parent
pub record Linked (ns : List Node) (link : ℕ → ℕ) : Type 0 where
  pub parents : (n : ℕ) → n < length ns → AllByRecursion (λ c. link c ≡ n) (children (node_at ns n))
  pub siblings : (n : ℕ) → n < length ns → Distinct (children (node_at ns n))
  pub root : link (root_of ns) ≡ root_of ns
