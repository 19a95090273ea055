-- The questions that are asked of a table: the first rule that is broken, part by part.
use Rattle.std.proofs.Common.{◌≡◌, ℕ, zero, suc, ◌+◌, ◌<◌, ◌≤◌, false, List, [], ◌∷◌, ◌++◌, length, drop, IfOk, Some, None, Ok, Err, Result, sym, refl, ap, ◌∙◌, arith}
use Rattle.std.specs.List.{AllByRecursion}
use Rattle.std.proofs.lemmas.List.{at_drop_more, at_drop_all}
use Rattle.std.specs.Result.{result_err}
use Rattle.refusal.specs.declared.Refusal.{Refusal}
use Rattle.table.specs.declared.node.Node.{Node}
use Rattle.table.specs.declared.node.Node.TheVariants.{True}
use Rattle.table.specs.Form.{Declarations, Descends, Question, first, in_turn, of_size, of_node, of_parents, of_bindings, of_root, together, form_questions}
use Rattle.table.specs.Formed.{Formed, RefusedUnlessFormed}

pub first_past : (qs rs : List Question) → None ≡ first qs → first (qs ++ rs) ≡ first rs
first_past [] rs e = refl
first_past (q ∷ qs) rs e = grind (arith, first_past qs rs)

pub first_stop : (qs rs : List Question) (x : Refusal) → Some x ≡ first qs → first (qs ++ rs) ≡ Some x
first_stop [] rs x e = grind arith
first_stop (q ∷ qs) rs x e = grind (arith, first_stop qs rs x)

-- what is asked of the nodes from the node i on
module _ (f : ℕ → List Question) (ns : List Node) (i : ℕ) where
  here : i < length ns → first (in_turn f i (drop i ns)) ≡ first (f i ++ in_turn f (i + 1) (drop (i + 1) ns))
  here h = at_drop_more (λ (l : List Node). first (in_turn f i l)) ns i True h

  pub turn_next : i < length ns → None ≡ first (f i) → first (in_turn f i (drop i ns)) ≡ first (in_turn f (i + 1) (drop (i + 1) ns))
  turn_next h e = here h ∙ first_past (f i) (in_turn f (i + 1) (drop (i + 1) ns)) e

  pub turn_stop : (x : Refusal) → i < length ns → Some x ≡ first (f i) → first (in_turn f i (drop i ns)) ≡ Some x
  turn_stop x h e = here h ∙ first_stop (f i) (in_turn f (i + 1) (drop (i + 1) ns)) x e

  pub turn_done : length ns ≤ i → first (in_turn f i (drop i ns)) ≡ None
  turn_done h = at_drop_all (λ (l : List Node). first (in_turn f i l)) ns i h

pub ruleset each_asked = (turn_next, turn_stop, turn_done)

-- no rule is broken
pub unbroken : (qs : List Question) → None ≡ first qs → AllByRecursion (λ q. q.broken ≡ false) qs
unbroken [] e = tt
unbroken (q ∷ qs) e = (grind arith, unbroken qs (grind arith))

none_broken : (qs : List Question) → AllByRecursion (λ q. q.broken ≡ false) qs → None ≡ first qs
none_broken [] h = refl
none_broken (q ∷ qs) h = grind (arith, h.0, none_broken qs h.1)

none_append : (qs rs : List Question) → None ≡ first qs → None ≡ first rs → None ≡ first (qs ++ rs)
none_append qs rs p q = q ∙ sym (first_past qs rs p)

append_left : (qs rs : List Question) → None ≡ first (qs ++ rs) → None ≡ first qs
append_left [] rs e = refl
append_left (q ∷ qs) rs e = grind (arith, append_left qs rs)

append_right : (qs rs : List Question) → None ≡ first (qs ++ rs) → None ≡ first rs
append_right qs rs e = e ∙ first_past qs rs (append_left qs rs e)

-- and none at any node
turns : (f : ℕ → List Question) (n : ℕ) (xs : List Node) → None ≡ first (in_turn f n xs) → (i : ℕ) → i < length xs → None ≡ first (f (n + i))
turns f n [] e i h = absurd (omega arith)
turns f n (x ∷ xs) e zero h = append_left (f n) (in_turn f (n + 1) xs) e ∙ ap (λ (m : ℕ). first (f m)) (omega arith)
turns f n (x ∷ xs) e (suc i) h = turns f (n + 1) xs (append_right (f n) (in_turn f (n + 1) xs) e) i (omega arith) ∙ ap (λ (m : ℕ). first (f m)) (omega arith)

pub each_turn : (f : ℕ → List Question) (ns : List Node) → None ≡ first (in_turn f 0 ns) → (i : ℕ) → i < length ns → AllByRecursion (λ q. q.broken ≡ false) (f i)
each_turn f ns e i h = unbroken (f i) (turns f 0 ns e i h ∙ ap (λ (m : ℕ). first (f m)) (omega arith))

pub descends : (D : Declarations) (ns : List Node) → None ≡ first (in_turn (of_node D ns) 0 ns) → Descends ns
descends D ns e i h = (each_turn (of_node D ns) ns e i h).1.0

turns_back : (f : ℕ → List Question) (n : ℕ) (xs : List Node) → ((i : ℕ) → i < length xs → None ≡ first (f (n + i))) → None ≡ first (in_turn f n xs)
turns_back f n [] h = refl
turns_back f n (x ∷ xs) h =
    none_append (f n) (in_turn f (n + 1) xs) (h 0 (omega arith) ∙ ap (λ (m : ℕ). first (f m)) (omega arith))
    (turns_back f (n + 1) xs (λ i l. h (suc i) (omega arith) ∙ ap (λ (m : ℕ). first (f m)) (omega arith)))

all_turns : (f : ℕ → List Question) (ns : List Node) → ((i : ℕ) → i < length ns → AllByRecursion (λ q. q.broken ≡ false) (f i)) → None ≡ first (in_turn f 0 ns)
all_turns f ns h = turns_back f 0 ns (λ i l. none_broken (f i) (h i l) ∙ ap (λ (m : ℕ). first (f m)) (omega arith))

-- the rules that are kept, from the questions and back
module _ (D : Declarations) (ns : List Node) where
  abbrev of_nodes : List Question
  of_nodes = in_turn (of_node D ns) 0 ns

  abbrev of_all_parents : List Question
  of_all_parents = in_turn (of_parents ns) 0 ns

  abbrev of_all_bindings : List Question
  of_all_bindings = in_turn (of_bindings ns) 0 ns

  formed : None ≡ first (form_questions D ns) → Formed D ns
  formed e =
      let size : AllByRecursion (λ q. q.broken ≡ false) (of_size D ns) = unbroken (of_size D ns) (append_left (of_size D ns) (of_nodes ++ together ns) e) in
      let p = append_right (of_size D ns) (of_nodes ++ together ns) e in
      let q = append_right of_nodes (together ns) p in
      let r = append_right of_all_parents (of_all_bindings ++ of_root ns) q in
      let node : (i : ℕ) → i < length ns → AllByRecursion (λ q. q.broken ≡ false) (of_node D ns i) = each_turn (of_node D ns) ns (append_left of_nodes (together ns) p) in
      record {
        count = size.0;
        declarations = size.1.0;
        limits = λ i h. (node i h).0;
        descends = λ i h. (node i h).1.0;
        declared = λ i h. (node i h).1.1.0;
        intervals = λ i h. (node i h).1.1.1.0;
        one_parent = λ i h. (each_turn (of_parents ns) ns (append_left of_all_parents (of_all_bindings ++ of_root ns) q) i h).0;
        fresh = λ i h. (each_turn (of_bindings ns) ns (append_left of_all_bindings (of_root ns) r) i h).0;
        closed = (unbroken (of_root ns) (append_right of_all_bindings (of_root ns) r)).0;
      }

  unrefused : Formed D ns → None ≡ first (form_questions D ns)
  unrefused h =
      none_append (of_size D ns) (of_nodes ++ together ns) (none_broken (of_size D ns) (h.count, (h.declarations, tt)))
      (none_append of_nodes (together ns) (all_turns (of_node D ns) ns (λ i l. (h.limits i l, (h.descends i l, (h.declared i l, (h.intervals i l, tt))))))
      (none_append of_all_parents (of_all_bindings ++ of_root ns) (all_turns (of_parents ns) ns (λ i l. (h.one_parent i l, tt)))
      (none_append of_all_bindings (of_root ns) (all_turns (of_bindings ns) ns (λ i l. (h.fresh i l, tt)))
      (none_broken (of_root ns) (h.closed, tt)))))

pub refused_unless_formed : RefusedUnlessFormed
refused_unless_formed D ns = (λ h. sym (unrefused D ns h), λ e. formed D ns (sym e))

pub made_if_unrefused : {X : Type 0} (D : Declarations) (ns : List Node) (r : Result X Refusal) → result_err r ≡ first (form_questions D ns) → IfOk r (λ _. Formed D ns)
made_if_unrefused D ns (Ok x) e = formed D ns e
made_if_unrefused D ns (Err x) e = tt

-- what a table that is asked part by part answers
pub ruleset parts = (first_past, first_stop, descends, made_if_unrefused)
