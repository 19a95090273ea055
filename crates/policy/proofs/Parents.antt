-- A node that is once a child has one parent, which its link names.
use Rattle.std.proofs.Common.{◌≡◌, ℕ, zero, suc, ◌+◌, ◌<◌, ◌≤◌, Bool, true, false, cond, not, eqb, ◌≢◌, List, [], ◌∷◌, length, Some, refl, ◌∙◌, arith}
use Rattle.std.specs.List.{flat_map, position_from, AllByRecursion}
use Rattle.std.specs.Option.{unwrap_or}
use Rattle.std.proofs.lemmas.Bool.Decides.{nat_tests}
use Rattle.table.specs.declared.node.Node.{Node}
use Rattle.table.specs.Formula.{root_of}
use Rattle.table.specs.Form.{Declarations, times, children, parent_count, node_at, not_one_parent}
use Rattle.table.specs.Formed.{Formed}
use Rattle.table.proofs.Unrolled.{children_below}
use Rattle.table.proofs.Loops.{times_append}
use Rattle.policy.specs.Links.{parent_from, Distinct, Linked}

abbrev pub has_child : ℕ → Node → Bool
has_child k x = not (eqb (times k (children x)) 0)

-- the scan for the first parent
pub scanned : (k i : ℕ) (ns : List Node) → unwrap_or (position_from (has_child k) i ns) k ≡ parent_from i ns k
scanned k i [] = refl
scanned k i (x ∷ ns) =
    elim (eqb (times k (children x)) 0) as (λ b. unwrap_or (cond (not b) (Some i) (position_from (has_child k) (i + 1) ns)) k ≡ cond b (parent_from (i + 1) ns k) i) [
      | true ↦ scanned k (i + 1) ns
      | false ↦ refl
    ]

weaker : (P Q : ℕ → Type 0) → ((c : ℕ) → P c → Q c) → (xs : List ℕ) → AllByRecursion P xs → AllByRecursion Q xs
weaker P Q f [] h = tt
weaker P Q f (x ∷ xs) h = (f x h.0, weaker P Q f xs h.1)

-- what is counted is there, and what is there is counted
here : (x : ℕ) (xs : List ℕ) → times x (x ∷ xs) ≡ times x xs + 1
here x xs = grind (arith, nat_tests)

counted : (xs : List ℕ) → AllByRecursion (λ c. 0 < times c xs) xs
counted [] = tt
counted (x ∷ xs) =
    (omega (arith, here x xs), weaker (λ c. 0 < times c xs) (λ c. 0 < times c (x ∷ xs)) (λ c h. omega arith) xs (counted xs))

uncounted : (k : ℕ) (xs : List ℕ) → times k xs ≡ 0 → AllByRecursion (λ y. k ≢ y) xs
uncounted k [] e = tt
uncounted k (x ∷ xs) e = ((λ d. absurd (omega (arith, here x xs, rw d at e))), uncounted k xs (omega arith))

distinct : (xs : List ℕ) → AllByRecursion (λ c. times c xs ≤ 1) xs → Distinct xs
distinct [] h = tt
distinct (x ∷ xs) h = (
  uncounted x xs (omega (arith, h.0, here x xs)),
  distinct xs (weaker (λ c. times c (x ∷ xs) ≤ 1) (λ c. times c xs ≤ 1) (λ c l. omega arith) xs h.1),
)

not_here : (k x : ℕ) (xs : List ℕ) → x < k → times k (x ∷ xs) ≡ times k xs
not_here k x xs h = grind (arith, nat_tests)

none_below : (k : ℕ) (xs : List ℕ) → AllByRecursion (λ c. c < k) xs → times k xs ≡ 0
none_below k [] h = refl
none_below k (x ∷ xs) h = not_here k x xs h.0 ∙ none_below k xs h.1

-- a node's children are among all
one_of_all : (ns : List Node) (k n : ℕ) → n < length ns → times k (children (node_at ns n)) ≤ parent_count ns k
one_of_all [] k n h = absurd (omega arith)
one_of_all (x ∷ ns) k zero h = omega (arith, times_append k (children x) (flat_map children ns))
one_of_all (x ∷ ns) k (suc n) h = omega (arith, times_append k (children x) (flat_map children ns), one_of_all ns k n (omega arith))

-- the scan stops at a parent, and goes on past every other node
stops : (i k : ℕ) (x : Node) (ns : List Node) → 0 < times k (children x) → parent_from i (x ∷ ns) k ≡ i
stops i k x ns h = grind (arith, nat_tests)

goes_on : (i k : ℕ) (x : Node) (ns : List Node) → times k (children x) ≡ 0 → parent_from i (x ∷ ns) k ≡ parent_from (i + 1) ns k
goes_on i k x ns h = grind (arith, nat_tests)

found : (i k n : ℕ) (ns : List Node) → n < length ns → 0 < times k (children (node_at ns n)) → parent_count ns k ≡ 1 → parent_from i ns k ≡ i + n
found i k n [] h t e = absurd (omega arith)
found i k zero (x ∷ ns) h t e = stops i k x ns t ∙ omega arith
found i k (suc n) (x ∷ ns) h t e =
    let split = times_append k (children x) (flat_map children ns) in
    let rest = one_of_all ns k n (omega arith) in
    goes_on i k x ns (omega (arith, split, rest))
    ∙ found (i + 1) k n ns (omega arith) t (omega (arith, split, rest)) ∙ omega arith

no_parent : (i k : ℕ) (ns : List Node) → ((n : ℕ) → n < length ns → times k (children (node_at ns n)) ≡ 0) → parent_from i ns k ≡ k
no_parent i k [] h = refl
no_parent i k (x ∷ ns) h = goes_on i k x ns (h 0 (omega arith)) ∙ no_parent (i + 1) k ns (λ n l. h (suc n) (omega arith))

-- a node below the root is counted once
once_child : (ns : List Node) (k : ℕ) → suc k < length ns → not_one_parent ns k ≡ false → parent_count ns k ≡ 1
once_child ns k h e = grind (arith, nat_tests)

with_count : (n : ℕ) (all xs : List ℕ) → AllByRecursion (λ c. c < n) xs → AllByRecursion (λ c. 0 < times c all) xs → AllByRecursion (λ c. (c < n) × (0 < times c all)) xs
with_count n all [] p q = tt
with_count n all (x ∷ xs) p q = ((p.0, q.0), with_count n all xs p.1 q.1)

pub parent_past : (D : Declarations) (ns : List Node) (k : ℕ) → Formed D ns → root_of ns ≤ k → parent_from 0 ns k ≡ k
parent_past D ns k f h =
    no_parent 0 k ns (λ n l. none_below k _ (weaker (λ c. c < n) (λ c. c < k) (λ c d. omega arith) _ (children_below n (node_at ns n) (f.descends n l))))

pub linked : (D : Declarations) (ns : List Node) → Formed D ns → Linked ns (parent_from 0 ns)
linked D ns f =
    let under : (n : ℕ) → n < length ns → AllByRecursion (λ c. (c < n) × (0 < times c (children (node_at ns n)))) (children (node_at ns n)) =
    λ n l. with_count n (children (node_at ns n)) (children (node_at ns n)) (children_below n (node_at ns n) (f.descends n l)) (counted (children (node_at ns n))) in
    let alone : (n c : ℕ) → n < length ns → c < n → parent_count ns c ≡ 1 = λ n c l d. once_child ns c (omega arith) (f.one_parent c (omega arith)) in
    record {
      parents = λ n l. weaker _ _ (λ c u. found 0 c n ns l u.1 (alone n c l u.0) ∙ omega arith) _ (under n l);
      siblings = λ n l. distinct _ (weaker _ _ (λ c u. omega (arith, one_of_all ns c n l, alone n c l u.0)) _ (under n l));
      root = parent_past D ns (root_of ns) f (omega arith);
    }
