-- The formula of a node, by those of its children, which come before it.
use Rattle.std.proofs.Common.{◌≡◌, ℕ, zero, suc, ◌+◌, ◌<◌, ◌≤◌, false, leb, List, [], ◌∷◌, ◌++◌, length, get_or, take, set, length-take, get_or-take, sym, refl, ap, ◌∙◌, arith, length-append}
use Rattle.std.specs.List.{AllByRecursion, list_any}
use Rattle.std.proofs.lemmas.List.{get_or_append_left, get_or_at, get_or_past}
use Rattle.std.proofs.lemmas.Bool.{leb-false, or_parts}
use Rattle.sets.specs.declared.SmallSet.{SmallSet}
use Rattle.table.specs.declared.node.Node.{Node}
use Rattle.table.specs.declared.node.Node.TheVariants.{True, False, Atom, And, Or, Exists, Forall, Prev, Once, Hist, Next, Event, Always, Since, Until}
use Rattle.sets.specs.Sets.{members}
use Rattle.table.specs.Formula.{Formula, verum, exists, prev, once, hist, next, event, always, free, formula_of, onward, formulas, formula_at, FreeUpTo}
use Rattle.table.proofs.Loops.{fill_more}
use Rattle.table.specs.Form.{children, not_below, node_at}

-- the children of a node that keeps rule 3
all_below : (i : ℕ) (xs : List ℕ) → list_any (λ c. leb i c) xs ≡ false → AllByRecursion (λ c. c < i) xs
all_below i [] e = tt
all_below i (x ∷ xs) e = let p = or_parts (leb i x) (list_any (λ c. leb i c) xs) e in (leb-false i x p.0, all_below i xs p.1)

pub children_below : (i : ℕ) (x : Node) → not_below i x ≡ false → AllByRecursion (λ c. c < i) (children x)
children_below i x e = all_below i (children x) e

-- what is done stays
kept : (done : List Formula) (xs : List Node) (i : ℕ) → i < length done → get_or (onward done xs) i (verum 0) ≡ get_or done i (verum 0)
kept done [] i h = refl
kept done (x ∷ xs) i h =
    let f = formula_of done (length done) x in
    let k : i < length (done ++ f ∷ []) = simp length-append (omega arith) in
    kept (done ++ f ∷ []) xs i k ∙ get_or_append_left done (f ∷ []) (verum 0) i h

-- a node's formula depends on those of its children
same_formula : (fs gs : List Formula) (n : ℕ) → ((i : ℕ) → i < n → get_or fs i (verum 0) ≡ get_or gs i (verum 0)) → (x : Node) → AllByRecursion (λ c. c < n) (children x) → formula_of fs n x ≡ formula_of gs n x
same_formula fs gs n e True s = refl
same_formula fs gs n e False s = refl
same_formula fs gs n e (Atom p ts) s = refl
same_formula fs gs n e (And l r) s = let p = e l s.0 in let q = e r s.1.0 in cc
same_formula fs gs n e (Or l r) s = let p = e l s.0 in let q = e r s.1.0 in cc
same_formula fs gs n e (Exists vs b) s = ap (exists n (members vs)) (e b s.0)
same_formula fs gs n e (Forall vs l r) s = let p = e l s.0 in let q = e r s.1.0 in cc
same_formula fs gs n e (Prev i b) s = ap (prev n i) (e b s.0)
same_formula fs gs n e (Once i b) s = ap (once n i) (e b s.0)
same_formula fs gs n e (Hist i b) s = ap (hist n i) (e b s.0)
same_formula fs gs n e (Next i b) s = ap (next n i) (e b s.0)
same_formula fs gs n e (Event i b) s = ap (event n i) (e b s.0)
same_formula fs gs n e (Always i b) s = ap (always n i) (e b s.0)
same_formula fs gs n e (Since i l r) s = let p = e l s.0 in let q = e r s.1.0 in cc
same_formula fs gs n e (Until i l r) s = let p = e l s.0 in let q = e r s.1.0 in cc

grown : (done : List Formula) (f : Formula) → length (done ++ f ∷ []) ≡ length done + 1
grown done f = length-append done (f ∷ [])

each : (done : List Formula) (xs : List Node) (i n : ℕ) → n ≡ length done + i → i < length xs → AllByRecursion (λ c. c < n) (children (node_at xs i)) → get_or (onward done xs) n (verum 0) ≡ formula_of (onward done xs) n (node_at xs i)
each done [] i n is lt s = absurd (omega arith)
each done (x ∷ xs) zero n is lt s =
    let f = formula_of done (length done) x in
    let e : n ≡ length done = omega arith in
    let k : n < length (done ++ f ∷ []) = omega (arith, grown done f) in
    kept (done ++ f ∷ []) xs n k
    ∙ get_or_at done f [] (verum 0) n (sym e)
    ∙ ap (λ (m : ℕ). formula_of done m x) (sym e)
    ∙ sym (same_formula (onward (done ++ f ∷ []) xs) done n (λ j h. let w : j < length done = omega arith in kept done (x ∷ xs) j w) x s)
each done (x ∷ xs) (suc i) n is lt s =
    let f = formula_of done (length done) x in
    each (done ++ f ∷ []) xs i n (omega (arith, grown done f)) (omega arith) s

pub unrolled : (ns : List Node) (n : ℕ) → n < length ns → not_below n (node_at ns n) ≡ false → formula_at ns n ≡ formula_of (formulas ns) n (node_at ns n)
unfolding formulas
unrolled ns n lt ok = each [] ns n n (omega arith) lt (children_below n (node_at ns n) ok)

-- the free variables of one node more, from those of the nodes before it
pub free_more : (ss : List SmallSet) (ns : List Node) (i : ℕ) (s : SmallSet) → i < length ns → i < length ss → not_below i (node_at ns i) ≡ false → FreeUpTo ss i (formulas ns) → ((fs : List Formula) → FreeUpTo (take i ss) (length (take i ss)) fs → members s ≡ free (formula_of fs (length (take i ss)) (node_at ns i))) → FreeUpTo (set ss i s) (i + 1) (formulas ns)
free_more ss ns i s h k ok inv given =
    let is : length (take i ss) ≡ i = omega (arith, length-take i ss) in
    let here = given (formulas ns) (λ j l. ap members (get_or-take i ss j (record { mask = 0 }) (omega arith)) ∙ inv j (omega arith)) ∙ ap (λ (n : ℕ). free (formula_of (formulas ns) n (node_at ns i))) is in
    fill_more (λ (j : ℕ) (x : SmallSet). members x ≡ free (formula_at ns j)) ss (record { mask = 0 }) s i k inv (here ∙ ap free (sym (unrolled ns i h ok)))

-- there is a formula for each node, and none past the last
length_onward : (done : List Formula) (xs : List Node) → length (onward done xs) ≡ length done + length xs
length_onward done [] = omega arith
length_onward done (x ∷ xs) =
    let f = formula_of done (length done) x in
    omega (arith, length_onward (done ++ f ∷ []) xs, grown done f)

pub formula_past : (ns : List Node) (n : ℕ) → length ns ≤ n → formula_at ns n ≡ verum 0
unfolding formulas
formula_past ns n h = get_or_past (onward [] ns) n (verum 0) (omega (arith, length_onward [] ns))
