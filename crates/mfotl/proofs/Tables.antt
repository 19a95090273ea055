-- The formulas of a table that keeps the form rules are well formed.
use Rattle.std.proofs.Common.{◌≡◌, ℕ, zero, suc, ◌<◌, true, false, ◌||◌, ltb, List, [], ◌∷◌, length, is_some, Some, None, Option, sym, refl, subst, arith, length-take}
use Rattle.std.specs.List.{AllByRecursion, list_any}
use Rattle.std.proofs.lemmas.Bool.{ltb-false, or_parts, false≢true}
use Rattle.table.specs.declared.Node.{Node}
use Rattle.table.specs.declared.Node.TheVariants.{True, False, Atom, And, Or, Exists, Forall, Prev, Once, Hist, Next, Event, Always, Since, Until}
use Rattle.table.specs.declared.Term.{Term}
use Rattle.table.specs.declared.Term.TheVariants.{Variable, Constant}
use Rattle.table.specs.Arguments.{kept}
use Rattle.table.specs.Form.{Declarations, node_at, children, term_over, over_limit, bad_interval}
use Rattle.table.specs.Formed.{Formed}
use Rattle.table.specs.Formula.{formula_at, formula_of, formulas}
use Rattle.table.proofs.Unrolled.{children_below, unrolled}
use Rattle.mfotl.proofs.Lists.{all_map}
use Rattle.mfotl.specs.Laws.{InRange, WellFormed}

in_range : (t : Term) → term_over t ≡ false → InRange t
in_range (Variable v) h = omega (arith, ltb-false 7 v h)
in_range (Constant c) h = tt

all_in_range : (ts : List Term) → list_any term_over ts ≡ false → AllByRecursion InRange ts
all_in_range [] h = tt
all_in_range (t ∷ ts) h = let p = or_parts (term_over t) (list_any term_over ts) h in (in_range t p.0, all_in_range ts p.1)

ended : (lo : ℕ) (o : Option ℕ) → elim o [ None ↦ true | Some h ↦ ltb h lo ] ≡ false → is_some o ≡ true
ended lo None h = absurd (false≢true (sym h))
ended lo (Some u) h = refl

module _ (ns : List Node) where
  node : (n : ℕ) (x : Node) → over_limit x ≡ false → bad_interval x ≡ false → AllByRecursion (λ c. WellFormed (formula_at ns c)) (children x) → WellFormed (formula_of (formulas ns) n x)
  node n True o b w = tt
  node n False o b w = tt
  node n (Atom p ts) o b w =
      let q = or_parts (ltb 3 ts.count) (list_any term_over (kept ts)) (or_parts (ltb 63 p) (ltb 3 ts.count || list_any term_over (kept ts)) o).1 in
      (omega (arith, ltb-false 3 ts.count q.0, length-take ts.count ts.first), all_in_range (kept ts) q.1)
  node n (And l r) o b (wl, (wr, _)) = (wl, wr)
  node n (Or l r) o b (wl, (wr, _)) = (wl, wr)
  node n (Exists vs x) o b (w, _) = w
  node n (Forall vs l r) o b (wl, (wr, _)) = (wl, wr)
  node n (Prev i x) o b (w, _) = w
  node n (Once i x) o b (w, _) = w
  node n (Hist i x) o b (w, _) = w
  node n (Next i x) o b (w, _) = (ended i.lo i.hi b, w)
  node n (Event i x) o b (w, _) = (ended i.lo i.hi b, w)
  node n (Always i x) o b (w, _) = (ended i.lo i.hi b, w)
  node n (Since i l r) o b (wl, (wr, _)) = (wl, wr)
  node n (Until i l r) o b (wl, (wr, _)) = (ended i.lo i.hi b, wl, wr)

pub well_formed : (D : Declarations) (ns : List Node) → Formed D ns → (m n : ℕ) → n < m → n < length ns → WellFormed (formula_at ns n)
well_formed D ns w zero n h l = absurd (omega (arith, h))
well_formed D ns w (suc m) n h l =
    subst WellFormed (sym (unrolled ns n l (w.descends n l)))
    (node ns n (node_at ns n) (w.limits n l) (w.intervals n l)
    (all_map (λ c. c < n) (λ c. WellFormed (formula_at ns c)) (λ c k. well_formed D ns w m c (omega (arith, h, k)) (omega (arith, k, l))) (children (node_at ns n)) (children_below n (node_at ns n) (w.descends n l))))
