-- The least pair of a relation that answers a query.
use Rattle.std.proofs.Common.{◌≡◌, ℕ, ◌+◌, ◌*◌, ◌/◌, ◌^◌, ◌<◌, ◌≤◌, min, Bool, true, false, cond, ◌&&◌, ◌||◌, eqb, ltb, leb, List, [], ◌∷◌, length, get_or, is_ok, Some, None, Ok, Option, Less, Equal, Greater, sym, refl, ap, ◌∙◌, subst, inl, inr, arith}
use Rattle.std.specs.Ordering.{is_lt, ordering_then}
use Rattle.std.specs.Option.{option_map}
use Rattle.std.proofs.lemmas.Bool.{eq-eqb, eqb-true, lt-ltb, le-ltb, leb-true, and_parts, and_from, both_ways, cases_Bool, false≢true}
use Rattle.std.proofs.lemmas.Bool.Decides.{nat_tests}
use Rattle.sets.specs.Sets.{single, below}
use Rattle.facts.specs.declared.calculated.Relation.{Relation}
use Rattle.facts.specs.declared.calculated.Relation.TheVariants as relation
use Rattle.facts.specs.declared.fact.Query.{Query}
use Rattle.facts.specs.Tuples.{before, allows, agrees, past, places, fits}
use Rattle.facts.specs.Facts.{Least, given, answerable, allowed, wanted, Found}
use Rattle.facts.proofs.Scans.{like}
use Rattle.facts.specs.Calculated.{relates, needs_of, relation_of, holds_of, calculated, related, Chosen}
use Rattle.facts.specs.Tried.{first_sibling, second, pair_of}
use Rattle.facts.proofs.Orders.{before_itself}

-- the order of pairs
two : (l e l' e' : Bool) → is_lt (ordering_then (cond l Less (cond e Equal Greater)) (ordering_then (cond l' Less (cond e' Equal Greater)) Equal)) ≡ (l || (e && l'))
two true e l' e' = refl
two false true true e' = refl
two false true false true = refl
two false true false false = refl
two false false l' e' = refl

pub before_two : (a b c d : ℕ) → before (a ∷ b ∷ []) (c ∷ d ∷ []) ≡ (ltb a c || (eqb a c && ltb b d))
before_two a b c d = two (ltb a c) (eqb a c) (ltb b d) (eqb b d)

-- what is so of a pair that answers is so of the one that is tried, and that is no greater
record Tried (R : Relation) (x y v : ℕ) (g : Option ℕ) (a : Option (List ℕ)) : Type 0 where
  relate : relates R x y ≡ true
  allow : allows g y ≡ true
  pass : past a (x ∷ y ∷ []) ≡ true
  least : before (x ∷ v ∷ []) (x ∷ y ∷ []) ≡ false

this : (R : Relation) (x y v : ℕ) (g : Option ℕ) (a : Option (List ℕ)) → v ≡ y → relates R x v ≡ true → allows g v ≡ true → past a (x ∷ v ∷ []) ≡ true → Tried R x y v g a
this R x y v g a e r o p = subst (λ (n : ℕ). Tried R x n v g a) e (record { relate = r; allow = o; pass = p; least = before_itself (x ∷ v ∷ []) })

-- the first sibling that may answer
sibling : (x v : ℕ) (a : Option (List ℕ)) → x < 2 ^ 32 → v / 256 ≡ x / 256 → past a (x ∷ v ∷ []) ≡ true
    → (first_sibling x a / 256 ≡ x / 256) × (past a (x ∷ first_sibling x a ∷ []) ≡ true) × (first_sibling x a ≤ v)
sibling x v None s e p = (omega arith, refl, omega arith)
sibling x v (Some t) s e p = at (get_or t 0 0) (get_or t 1 0) (sym (before_two (get_or t 0 0) (get_or t 1 0) x v) ∙ p)
  where
    -- the tuple before is (m, n)
    at : (m n : ℕ) → (ltb m x || (eqb m x && ltb n v)) ≡ true
        → (cond (eqb m x && leb (x / 256 * 256) n) (min (n + 1) 4294967295) (x / 256 * 256) / 256 ≡ x / 256)
        × (before (m ∷ n ∷ []) (x ∷ cond (eqb m x && leb (x / 256 * 256) n) (min (n + 1) 4294967295) (x / 256 * 256) ∷ []) ≡ true)
        × (cond (eqb m x && leb (x / 256 * 256) n) (min (n + 1) 4294967295) (x / 256 * 256) ≤ v)
    at m n h = elim (cases_Bool (eqb m x && leb (x / 256 * 256) n)) [
      | inl y ↦
          let w = and_parts (eqb m x) (leb (x / 256 * 256) n) y in
          let me : m ≡ x = eqb-true m x w.0 in
          let ne : x / 256 * 256 ≤ n = leb-true (x / 256 * 256) n w.1 in
          let nv : n < v = second_part m n me h in
          let mn : min (n + 1) 4294967295 ≡ n + 1 = omega (arith, nv, e, s) in
          rw (y, mn) (omega (arith, e, ne, nv), before_two m n x (n + 1) ∙ rw (eq-eqb m x me, lt-ltb n (n + 1) (omega arith)) (or_true (ltb m x)), omega (arith, nv))
      | inr y ↦
          let f = first_part m n y h in
          rw y (omega arith, before_two m n x (x / 256 * 256) ∙ f, omega (arith, e))
    ]
      where
        or_true : (b : Bool) → (b || true) ≡ true
        or_true true = refl
        or_true false = refl

        second_part : (m n : ℕ) → m ≡ x → (ltb m x || (eqb m x && ltb n v)) ≡ true → n < v
        second_part m n me h = grind (arith, nat_tests)

        first_part : (m n : ℕ) → (eqb m x && leb (x / 256 * 256) n) ≡ false → (ltb m x || (eqb m x && ltb n v)) ≡ true → (ltb m x || (eqb m x && ltb n (x / 256 * 256))) ≡ true
        first_part m n y h = grind (arith, nat_tests)

tried : (R : Relation) (x v : ℕ) (g h : Option ℕ) (a : Option (List ℕ)) → x < 2 ^ 32 → given (needs_of R) 0 (Some x ∷ g ∷ h ∷ []) ≡ Ok tt
    → relates R x v ≡ true → allows g v ≡ true → past a (x ∷ v ∷ []) ≡ true → Tried R x (second R x g a) v g a
unfolding single below
tried R x v (Some y) h a s m r o p = this R x y v (Some y) a (sym (eqb-true y v o)) r o p
tried relation.Equal x v None h a s m r o p = this relation.Equal x x v None a (eqb-true v x r) r o p
tried relation.Less x v None h a s m r o p = absurd (false≢true (ap is_ok m))
tried relation.Class x v None h a s m r o p = this relation.Class x (x / 16777216) v None a (eqb-true v (x / 16777216) r) r o p
tried relation.Sibling x v None h a s m r o p =
    let w = sibling x v a s (eqb-true (v / 256) (x / 256) r) p in
    record {
      relate = eq-eqb (first_sibling x a / 256) (x / 256) w.0;
      allow = refl;
      pass = w.1;
      least = before_two x v x (first_sibling x a) ∙ rw (le-ltb x x (omega arith), eq-eqb x x refl, le-ltb v (first_sibling x a) w.2) refl;
    }

-- arguments that answer are a pair with the x that is given
pair : (R : Relation) (x : ℕ) (q : Query) (a : Option (List ℕ)) → x < 2 ^ 32 → get_or q.given.first 0 None ≡ Some x → given (needs_of R) 0 (places q.given.first) ≡ Ok tt
    → (vs : List ℕ) → related R q a vs ≡ true
    → (related R q a (x ∷ second R x (get_or q.given.first 1 None) a ∷ []) ≡ true) × (before vs (x ∷ second R x (get_or q.given.first 1 None) a ∷ []) ≡ false)
pair R x q a s e m [] h = absurd (false≢true h)
pair R x q a s e m (u ∷ []) h = absurd (false≢true h)
pair R x q a s e m (u ∷ v ∷ w ∷ vs) h = absurd (false≢true (and_parts (eqb (length (u ∷ v ∷ w ∷ vs)) 2) false h).1)
pair R x q a s e m (u ∷ v ∷ []) h =
    let g = get_or q.given.first 1 None in
    let k = get_or q.given.first 2 None in
    let p = and_parts (relates R u v) (fits q a (u ∷ v ∷ [])) h in
    let f = and_parts (agrees (places q.given.first) (u ∷ v ∷ [])) (past a (u ∷ v ∷ [])) p.1 in
    let a0 = and_parts (allows (get_or q.given.first 0 None) u) (allows g v && true) f.0 in
    let a1 = and_parts (allows g v) true a0.1 in
    let xu : x ≡ u = eqb-true x u (subst (λ (o : Option ℕ). allows o u ≡ true) e a0.0) in
    let t : Tried R x (second R x g a) v g a =
    tried R x v g k a s (subst (λ (o : Option ℕ). given (needs_of R) 0 (o ∷ g ∷ k ∷ []) ≡ Ok tt) e m) (subst (λ (n : ℕ). relates R n v ≡ true) (sym xu) p.0) a1.0 (subst (λ (n : ℕ). past a (n ∷ v ∷ []) ≡ true) (sym xu) f.1) in (
      and_from _ _ t.relate (and_from _ _ (and_from _ _ (subst (λ (o : Option ℕ). allows o x ≡ true) (sym e) (eq-eqb x x refl)) (and_from _ _ t.allow refl)) t.pass),
      subst (λ (n : ℕ). before (n ∷ v ∷ []) (x ∷ second R x g a ∷ []) ≡ false) xu t.least,
    )

pub chosen : (R : Relation) (x : ℕ) (q : Query) (a r : Option (List ℕ)) → x < 2 ^ 32 → r ≡ pair_of R x (second R x (get_or q.given.first 1 None) a) q a → get_or q.given.first 0 None ≡ Some x → Chosen R q a r
chosen R x q a r s d e m =
    let vs = x ∷ second R x (get_or q.given.first 1 None) a ∷ [] in
    subst (Least (related R q a)) (sym d) (elim (cases_Bool (related R q a vs)) [
      | inl y ↦ subst (λ (b : Bool). Least (related R q a) (cond b (Some (x ∷ second R x (get_or q.given.first 1 None) a ∷ 0 ∷ [])) None)) (sym y)
          (vs, refl, y, λ ws w. (pair R x q a s e m ws w).1)
      | inr n ↦ subst (λ (b : Bool). Least (related R q a) (cond b (Some (x ∷ second R x (get_or q.given.first 1 None) a ∷ 0 ∷ [])) None)) (sym n)
          (λ ws. elim (cases_Bool (related R q a ws)) [ inl w ↦ absurd (both_ways (related R q a vs) n (pair R x q a s e m ws w).0) | inr f ↦ f ])
    ])

pub not_chosen : (R : Relation) (q : Query) (a : Option (List ℕ)) → get_or q.given.first 0 None ≡ None → Chosen R q a None
unfolding single below
not_chosen R q a e m = absurd (false≢true (first_needed R (subst (λ (o : Option ℕ). is_ok (given (needs_of R) 0 (o ∷ get_or q.given.first 1 None ∷ get_or q.given.first 2 None ∷ [])) ≡ true) e (ap is_ok m))))
  where
    first_needed : (R : Relation) → is_ok (given (needs_of R) 0 (None ∷ get_or q.given.first 1 None ∷ get_or q.given.first 2 None ∷ [])) ≡ true → false ≡ true
    first_needed relation.Equal h = h
    first_needed relation.Less h = h
    first_needed relation.Class h = h
    first_needed relation.Sibling h = h

module _ (q : Query) (o : Option Relation) (e : relation_of q.predicate ≡ o) (h : allowed calculated q ≡ Ok tt) where
  -- a query that is allowed is one of a relation, with two arguments
  unknown : (b : Bool) (k : Option Relation) → answerable (cond b (option_map needs_of k) None) q ≡ Ok tt → b ≡ true
  unknown true k w = refl
  unknown false k w = absurd (false≢true (ap is_ok w))

  pub pairs : q.given.count ≡ 2
  pairs = eqb-true q.given.count 2 (unknown (eqb q.given.count 2) (relation_of q.predicate) h)

  pub needed : answerable (option_map needs_of o) q ≡ Ok tt
  needed = subst (λ (k : Option Relation). answerable (option_map needs_of k) q ≡ Ok tt) e
      (subst (λ (b : Bool). answerable (cond b (option_map needs_of (relation_of q.predicate)) None) q ≡ Ok tt) (unknown (eqb q.given.count 2) (relation_of q.predicate) h) h)

pub found : (p : ℕ) (q : Query) (a : Option (List ℕ)) (R : Relation) (r : Option (List ℕ)) → relation_of q.predicate ≡ Some R → allowed calculated q ≡ Ok tt → Chosen R q a r → Found calculated p q a (Ok r)
found p q a R r e h c = record { cases = (h, like (related R q a) (wanted calculated p q a) (λ vs. same vs) r (c (needed q (Some R) e h))) }
  where
    same : (vs : List ℕ) → wanted calculated p q a vs ≡ related R q a vs
    same vs = (λ i. eqb (length vs) (pairs q (Some R) e h i) && (holds_of (e i) vs && fits q a vs))

pub unrelated : (q : Query) → relation_of q.predicate ≡ None → allowed calculated q ≡ Ok tt → ⊥
unrelated q e h = false≢true (ap is_ok (needed q None e h))
