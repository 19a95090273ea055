-- Truth depends only on the values of the free variables.
use Rattle.std.proofs.Common.{◌≡◌, ℕ, ◌+◌, ◌<◌, ◌≤◌, true, false, cond, not, List, [], ◌∷◌, map, length, sym, refl, ap, ◌∙◌, subst, inl, inr, arith}
use Rattle.std.specs.List.{AllByRecursion}
use Rattle.std.proofs.lemmas.Bool.{or_left, or_right, and_from, cases_Bool, lt-ltb, eq-eqb}
use Rattle.sets.specs.Sets.{NumberSet, ◌∪◌, ◌∖◌, single, below}
use Rattle.table.specs.declared.Term.{Term}
use Rattle.table.specs.declared.Term.TheVariants.{Variable, Constant}
use Rattle.table.specs.Formula.{Formula, verum, falsum, atom, and, or, exists, forall, prev, once, hist, next, event, always, since, until, free, variable_in, variables_at}
use Rattle.facts.specs.Facts.{Facts}
use Rattle.mfotl.specs.Truth.{Valuation, value_of, Varies, Truth}
use Rattle.mfotl.specs.Laws.{InRange, WellFormed, AgreeOn}

left : (K L : NumberSet) (v : ℕ) → K v ≡ true → (K ∪ L) v ≡ true
unfolding ◌∪◌
left K L v h = or_left (K v) (L v) h

right : (K L : NumberSet) (v : ℕ) → L v ≡ true → (K ∪ L) v ≡ true
unfolding ◌∪◌
right K L v h = or_right (K v) (L v) h

outside : (K L : NumberSet) (v : ℕ) → K v ≡ true → L v ≡ false → (K ∖ L) v ≡ true
unfolding ◌∖◌
outside K L v h o = and_from (K v) (not (L v)) h (ap not o)

-- the values of terms
same_value : (a : ℕ) (t : Term) (η θ : Valuation) → a < 3 → InRange t → ((w : ℕ) → variable_in (below 3 a) t w ≡ true → θ w ≡ η w) → value_of η t ≡ value_of θ t
unfolding below single
same_value a (Variable v) η θ h l e = sym (e v (rw (lt-ltb a 3 h, lt-ltb v 8 l) (eq-eqb v v refl)))
same_value a (Constant c) η θ h l e = refl

same_values : (a : ℕ) (ts : List Term) (η θ : Valuation) → a + length ts ≤ 3 → AllByRecursion InRange ts → ((w : ℕ) → variables_at (below 3) a ts w ≡ true → θ w ≡ η w) → map (value_of η) ts ≡ map (value_of θ) ts
same_values a [] η θ h r e = refl
same_values a (t ∷ ts) η θ h (r, rs) e =
    λ i. same_value a t η θ (omega arith) r (λ w k. e w (left (variable_in (below 3 a) t) (variables_at (below 3) (a + 1) ts) w k)) i
    ∷ same_values (a + 1) ts η θ (omega arith) rs (λ w k. e w (right (variable_in (below 3 a) t) (variables_at (below 3) (a + 1) ts) w k)) i

-- values that vary from η on a set, moved to θ
moved : NumberSet → Valuation → Valuation → Valuation
moved vs η' θ v = cond (vs v) (η' v) (θ v)

moved_varies : (vs : NumberSet) (η η' θ : Valuation) → Varies vs η η' → Varies vs θ (moved vs η' θ)
unfolding moved
moved_varies vs η η' θ w = record { others = λ v o. rw o refl; values = λ v o. rw o (w.values v o) }

moved_agrees : (K vs : NumberSet) (η η' θ : Valuation) → Varies vs η η' → ((v : ℕ) → (K ∖ vs) v ≡ true → θ v ≡ η v) → (v : ℕ) → K v ≡ true → moved vs η' θ v ≡ η' v
unfolding moved
moved_agrees K vs η η' θ w e v k = elim (cases_Bool (vs v)) [ inl o ↦ rw o refl | inr o ↦ rw o (e v (outside K vs v k o) ∙ sym (w.others v o)) ]

module _ (f : Facts) (τ : List ℕ) where
  pub decided : (φ : Formula) → WellFormed φ → (η θ : Valuation) (i : ℕ) → AgreeOn φ η θ → Truth f τ φ η i → Truth f τ φ θ i
  decided (verum n) w η θ i e t = t
  decided (falsum n) w η θ i e t = t
  decided (atom n p ts) (few, range) η θ i e t = subst (λ vs. f.holds i p vs ≡ true) (same_values 0 ts η θ (omega (arith, few)) range e) t
  decided (and n l r) (wl, wr) η θ i e (a, b) = (decided l wl η θ i (λ v k. e v (left (free l) (free r) v k)) a, decided r wr η θ i (λ v k. e v (right (free l) (free r) v k)) b)
  decided (or n l r) (wl, wr) η θ i e (inl a) = inl (decided l wl η θ i (λ v k. e v (left (free l) (free r) v k)) a)
  decided (or n l r) (wl, wr) η θ i e (inr b) = inr (decided r wr η θ i (λ v k. e v (right (free l) (free r) v k)) b)
  decided (exists n vs b) w η θ i e (η', x, t) = (moved vs η' θ, moved_varies vs η η' θ x, decided b w η' (moved vs η' θ) i (moved_agrees (free b) vs η η' θ x e) t)
  decided (forall n vs l r) (wl, wr) η θ i e t = λ θ' x a.
      let η' = moved vs θ' η in
      let agrees = moved_agrees (free l ∪ free r) vs θ θ' η x (λ v k. sym (e v k)) in
      decided r wr η' θ' i (λ v k. sym (agrees v (right (free l) (free r) v k)))
      (t η' (moved_varies vs θ θ' η x) (decided l wl θ' η' i (λ v k. agrees v (left (free l) (free r) v k)) a))
  decided (prev n I b) w η θ i e (k, p, d, t) = (k, p, d, decided b w η θ k e t)
  decided (once n I b) w η θ i e (k, p, d, t) = (k, p, d, decided b w η θ k e t)
  decided (hist n I b) w η θ i e t = λ k p d. decided b w η θ k e (t k p d)
  decided (next n I b) (h, w) η θ i e (p, d, t) = (p, d, decided b w η θ (i + 1) e t)
  decided (event n I b) (h, w) η θ i e (k, p, q, d, t) = (k, p, q, d, decided b w η θ k e t)
  decided (always n I b) (h, w) η θ i e t = λ k p q d. decided b w η θ k e (t k p q d)
  decided (since n I l r) (wl, wr) η θ i e (k, p, d, t, s) =
      (k, p, d, decided r wr η θ k (λ v x. e v (right (free l) (free r) v x)) t, λ j a b. decided l wl η θ j (λ v x. e v (left (free l) (free r) v x)) (s j a b))
  decided (until n I l r) (h, wl, wr) η θ i e (k, p, q, d, t, s) =
      (k, p, q, d, decided r wr η θ k (λ v x. e v (right (free l) (free r) v x)) t, λ j a b. decided l wl η θ j (λ v x. e v (left (free l) (free r) v x)) (s j a b))
