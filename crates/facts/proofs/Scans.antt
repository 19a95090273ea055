-- A scan of facts finds the least tuple that answers a query.
use Rattle.std.proofs.Common.{◌≡◌, ℕ, ◌<◌, Bool, true, false, cond, ◌&&◌, ◌||◌, eqb, ◌⊎◌, List, [], ◌∷◌, ◌++◌, length, Some, None, fold, Option, sym, refl, ap, ◌∙◌, subst, inl, inr, append_assoc, append-nil, arith}
use mathlib.Core.Bool.{or-false, or_assoc}
use Rattle.std.proofs.lemmas.Bool.{eq-eqb, eqb-true, and_right, and_parts, and_from, or_cases, or_left, or_right, both_ways, cases_Bool}
use Rattle.facts.specs.declared.fact.Fact.{Fact}
use Rattle.facts.specs.declared.fact.Query.{Query}
use Rattle.facts.specs.Tuples.{before, same, arguments, padded, is_fact, among, fits, answers}
use Rattle.facts.specs.Facts.{Least}
use Rattle.facts.specs.Scan.{lesser, better}
use Rattle.facts.proofs.Tuples.{three_taken}
use Rattle.facts.proofs.Orders.{ranked, before_itself, same_is, same_itself, before_padded}

-- the least of the arguments that pass a test is the least of those that pass an equal one
pub like : (P Q : List ℕ → Bool) → ((vs : List ℕ) → Q vs ≡ P vs) → (r : Option (List ℕ)) → Least P r → Least Q r
like P Q e None h = λ vs. e vs ∙ h vs
like P Q e (Some t) (vs, p, h, k) = (vs, p, e vs ∙ h, λ ws g. k ws (sym (e ws) ∙ g))

pub among_append : (q : ℕ) (vs : List ℕ) (xs ys : List Fact) → among q vs (xs ++ ys) ≡ (among q vs xs || among q vs ys)
among_append q vs [] ys = refl
among_append q vs (x ∷ xs) ys = ap (λ (b : Bool). is_fact q vs x || b) (among_append q vs xs ys) ∙ sym (or_assoc (is_fact q vs x) (among q vs xs) (among q vs ys))

module _ (q : Query) (a : Option (List ℕ)) (few : q.given.count < 4) where
  -- the arguments among these facts that answer the query
  abbrev pub asked : List Fact → List ℕ → Bool
  asked xs vs = eqb (length vs) q.given.count && (among q.predicate vs xs && fits q a vs)

  pub record Asked (xs : List Fact) (vs : List ℕ) : Type 0 where
    pub long : length vs ≡ q.given.count
    pub there : among q.predicate vs xs ≡ true
    pub fit : fits q a vs ≡ true

  parts : (xs : List Fact) (vs : List ℕ) → asked xs vs ≡ true → Asked xs vs
  parts xs vs h =
      let p = and_parts (eqb (length vs) q.given.count) (among q.predicate vs xs && fits q a vs) h in
      let r = and_parts (among q.predicate vs xs) (fits q a vs) p.1 in
      record { long = eqb-true (length vs) q.given.count p.0; there = r.0; fit = r.1 }

  from : (xs : List Fact) (vs : List ℕ) → Asked xs vs → asked xs vs ≡ true
  from xs vs w = and_from _ _ (eq-eqb (length vs) q.given.count w.long) (and_from _ _ w.there w.fit)

  module _ (xs : List Fact) (x : Fact) where
    -- one fact more
    more : List Fact
    more = xs ++ (x ∷ [])

    split : (vs : List ℕ) → among q.predicate vs more ≡ (among q.predicate vs xs || is_fact q.predicate vs x)
    unfolding more
    split vs = among_append q.predicate vs xs (x ∷ []) ∙ ap (λ (b : Bool). among q.predicate vs xs || b) (or-false (is_fact q.predicate vs x))

    old : (vs : List ℕ) → asked xs vs ≡ true → asked more vs ≡ true
    old vs h = let w = parts xs vs h in from more vs (record { long = w.long; there = split vs ∙ or_left (among q.predicate vs xs) (is_fact q.predicate vs x) w.there; fit = w.fit })

    -- the fact is one that answers, with these arguments
    this : (vs : List ℕ) → length vs ≡ q.given.count → fits q a vs ≡ true → is_fact q.predicate vs x ≡ true → (answers q a x ≡ true) × (arguments x ≡ vs)
    this vs l f h =
        let p = and_parts (eqb x.predicate q.predicate) (eqb x.values.count (length vs) && same (arguments x) vs) h in
        let r = and_parts (eqb x.values.count (length vs)) (same (arguments x) vs) p.1 in
        let e : arguments x ≡ vs = same_is (arguments x) vs r.1 in
        (and_from _ _ p.0 (and_from _ _ (eq-eqb x.values.count q.given.count (eqb-true x.values.count (length vs) r.0 ∙ l)) (ap (fits q a) e ∙ f)), e)

    either : (vs : List ℕ) → asked more vs ≡ true → (asked xs vs ≡ true) ⊎ ((answers q a x ≡ true) × (arguments x ≡ vs))
    either vs h =
        let w = parts more vs h in
        elim (or_cases (among q.predicate vs xs) (is_fact q.predicate vs x) (sym (split vs) ∙ w.there)) [
          | inl o ↦ inl (from xs vs (record { long = w.long; there = o; fit = w.fit }))
          | inr o ↦ inr (this vs w.long w.fit o)
        ]

    record New : Type 0 where
      long : length (arguments x) ≡ q.given.count
      asks : asked more (arguments x) ≡ true

    new : answers q a x ≡ true → New
    new h =
        let p = and_parts (eqb x.predicate q.predicate) (eqb x.values.count q.given.count && fits q a (arguments x)) h in
        let r = and_parts (eqb x.values.count q.given.count) (fits q a (arguments x)) p.1 in
        let e : x.values.count ≡ q.given.count = eqb-true x.values.count q.given.count r.0 in
        let l : length (arguments x) ≡ x.values.count = three_taken x.values.count x.values.first (omega (arith, e, few)) in
        let is : is_fact q.predicate (arguments x) x ≡ true = and_from _ _ p.0 (and_from _ _ (eq-eqb x.values.count (length (arguments x)) (sym l)) (same_itself (arguments x))) in
        record {
          long = l ∙ e;
          asks = from more (arguments x) (record { long = l ∙ e; there = split (arguments x) ∙ or_right (among q.predicate (arguments x) xs) (is_fact q.predicate (arguments x) x) is; fit = r.1 });
        }

    skip : answers q a x ≡ false → (best : Option (List ℕ)) → Least (asked xs) best → Least (asked more) best
    skip n None h = λ vs. elim (cases_Bool (asked more vs)) [
      | inl t ↦ elim (either vs t) [ inl o ↦ absurd (both_ways (asked xs vs) (h vs) o) | inr o ↦ absurd (both_ways (answers q a x) n o.0) ]
      | inr f ↦ f
    ]
    skip n (Some t) (vs, e, h, k) = (vs, e, old vs h, λ ws g. elim (either ws g) [ inl o ↦ k ws o | inr o ↦ absurd (both_ways (answers q a x) n o.0) ])

    take : answers q a x ≡ true → (best : Option (List ℕ)) → Least (asked xs) best → Least (asked more) (Some (lesser best (padded (arguments x))))
    take y None h =
        (arguments x, refl, (new y).asks, λ ws g. elim (either ws g) [ inl o ↦ absurd (both_ways (asked xs ws) (h ws) o) | inr o ↦ ap (λ (us : List ℕ). before us (arguments x)) (sym o.1) ∙ before_itself (arguments x) ])
    take y (Some t) (vs, e, h, k) =
        let u = arguments x in
        let l : length vs ≡ q.given.count = (parts xs vs h).long in
        let same-order : before t (padded u) ≡ before vs u = ap (λ (s : List ℕ). before s (padded u)) e ∙ before_padded vs u (l ∙ sym (new y).long) (omega (arith, l, few)) in
        elim (cases_Bool (before vs u)) [
          | inl b ↦ subst (λ (c : Bool). Least (asked more) (Some (cond c t (padded u)))) (sym (same-order ∙ b))
              (vs, e, old vs h, λ ws g. elim (either ws g) [ inl o ↦ k ws o | inr o ↦ ap (λ (us : List ℕ). before us vs) (sym o.1) ∙ ranked.one_way vs u b ])
          | inr b ↦ subst (λ (c : Bool). Least (asked more) (Some (cond c t (padded u)))) (sym (same-order ∙ b))
              (u, refl, (new y).asks, λ ws g. elim (either ws g) [ inl o ↦ ranked.chain ws vs u (k ws o) b | inr o ↦ ap (λ (us : List ℕ). before us u) (sym o.1) ∙ before_itself u ])
        ]

    step : (best : Option (List ℕ)) → Least (asked xs) best → Least (asked more) (better q a best x)
    step best h = elim (cases_Bool (answers q a x)) [
      | inl y ↦ subst (λ (c : Bool). Least (asked more) (cond c (Some (lesser best (padded (arguments x)))) best)) (sym y) (take y best h)
      | inr n ↦ subst (λ (c : Bool). Least (asked more) (cond c (Some (lesser best (padded (arguments x)))) best)) (sym n) (skip n best h)
    ]

  onward : (done rest : List Fact) (best : Option (List ℕ)) → Least (asked done) best → Least (asked (done ++ rest)) (fold (better q a) best rest)
  unfolding more
  onward done [] best h = subst (λ (l : List Fact). Least (asked l) best) (sym (append-nil done)) h
  onward done (x ∷ rest) best h =
      subst (λ (l : List Fact). Least (asked l) (fold (better q a) (better q a best x) rest)) (append_assoc done (x ∷ []) rest)
      (onward (done ++ (x ∷ [])) rest (better q a best x) (step done x best h))

  none_asked : (vs : List ℕ) → asked [] vs ≡ false
  none_asked vs = and_right (eqb (length vs) q.given.count) false refl

  pub scanned : (xs : List Fact) → Least (asked xs) (fold (better q a) None xs)
  scanned xs = onward [] xs None none_asked
