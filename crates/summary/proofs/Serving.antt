-- A formula is true exactly where one of its rows serves.
use Rattle.std.proofs.Common.{◌≡◌, ℕ, zero, suc, ◌+◌, ◌-◌, ◌^◌, ◌<◌, ◌≤◌, Bool, true, false, cond, not, ltb, List, [], ◌∷◌, length, get_or, sym, refl, ap, ◌∙◌, subst, inl, inr, arith}
use Rattle.std.specs.List.{AllByRecursion}
use Rattle.std.proofs.lemmas.List.{get_or_past}
use Rattle.std.proofs.lemmas.Bool.{or_cases, and_parts, cases_lt, eqb-true, ltb-true, false≢true}
use Rattle.sets.specs.Sets.{NumberSet, none, ◌∪◌, ◌∖◌, single}
use Rattle.table.specs.declared.Term.{Term}
use Rattle.table.specs.declared.Term.TheVariants.{Variable, Constant}
use Rattle.table.specs.Formula.{Formula, verum, falsum, atom, and, or, exists, forall, prev, once, hist, next, event, always, since, until, free, variable_in, variables_at}
use Rattle.facts.specs.Facts.{Facts}
use Rattle.mfotl.specs.Truth.{Valuation, ◌∈◌, Truth}
use Rattle.mfotl.proofs.Freedom.{decided}
use Rattle.summary.specs.declared.row.Row.{Row}
use Rattle.summary.specs.Rows.{Summary, prevs, onces, sinces, formula, source, Sound, valued, ValuesFor, SomeOf, IsRow, RowList, Serves, Matches, Bounded, RowsServe}

pub nothing : {P : Type 0} (v : ℕ) → none v ≡ true → P
unfolding none
nothing v h = absurd (false≢true h)

-- what is so of 0 to 7, one by one
pub eight : (P : ℕ → Type 0) → P 0 → P 1 → P 2 → P 3 → P 4 → P 5 → P 6 → P 7 → (v : ℕ) → v < 8 → P v
eight P a b c d e f g h zero l = a
eight P a b c d e f g h (suc zero) l = b
eight P a b c d e f g h (suc (suc zero)) l = c
eight P a b c d e f g h (suc (suc (suc zero))) l = d
eight P a b c d e f g h (suc (suc (suc (suc zero)))) l = e
eight P a b c d e f g h (suc (suc (suc (suc (suc zero))))) l = f
eight P a b c d e f g h (suc (suc (suc (suc (suc (suc zero)))))) l = g
eight P a b c d e f g h (suc (suc (suc (suc (suc (suc (suc zero))))))) l = h
eight P a b c d e f g h (suc (suc (suc (suc (suc (suc (suc (suc v)))))))) l = absurd (omega arith)

-- variables are 0 to 7
small_single : (w v : ℕ) (b : Bool) → b ≡ ltb w 8 → cond b (single w) none v ≡ true → v < 8
unfolding single
small_single w v true e h = subst (λ (n : ℕ). n < 8) (eqb-true w v h) (ltb-true w 8 (sym e))
small_single w v false e h = nothing v h

small_term : (g : Bool) (t : Term) (v : ℕ) → variable_in g t v ≡ true → v < 8
small_term true (Variable w) v h = small_single w v (ltb w 8) refl h
small_term false (Variable w) v h = nothing v h
small_term g (Constant c) v h = nothing v h

either_small : (K L : NumberSet) (v : ℕ) → (K v ≡ true → v < 8) → (L v ≡ true → v < 8) → (K ∪ L) v ≡ true → v < 8
unfolding ◌∪◌
either_small K L v a b h = elim (or_cases (K v) (L v) h) [ inl o ↦ a o | inr o ↦ b o ]

less_small : (K L : NumberSet) (v : ℕ) → (K v ≡ true → v < 8) → (K ∖ L) v ≡ true → v < 8
unfolding ◌∖◌
less_small K L v a h = a (and_parts (K v) (not (L v)) h).0

small_terms : (G : NumberSet) (a : ℕ) (ts : List Term) (v : ℕ) → variables_at G a ts v ≡ true → v < 8
small_terms G a [] v h = nothing v h
small_terms G a (t ∷ ts) v h = either_small (variable_in (G a) t) (variables_at G (a + 1) ts) v (small_term (G a) t v) (small_terms G (a + 1) ts v) h

pub small : (φ : Formula) (v : ℕ) → free φ v ≡ true → v < 8
small (verum n) v h = nothing v h
small (falsum n) v h = nothing v h
small (atom n p ts) v h = small_terms _ 0 ts v h
small (and n l r) v h = either_small (free l) (free r) v (small l v) (small r v) h
small (or n l r) v h = either_small (free l) (free r) v (small l v) (small r v) h
small (exists n vs b) v h = less_small (free b) vs v (small b v) h
small (forall n vs l r) v h = less_small (free l ∪ free r) vs v (either_small (free l) (free r) v (small l v) (small r v)) h
small (prev n I b) v h = small b v h
small (once n I b) v h = small b v h
small (hist n I b) v h = small b v h
small (next n I b) v h = small b v h
small (event n I b) v h = small b v h
small (always n I b) v h = small b v h
small (since n I l r) v h = either_small (free l) (free r) v (small l v) (small r v) h
small (until n I l r) v h = either_small (free l) (free r) v (small l v) (small r v) h

-- the values of some variables, and 0 for the others
abbrev pub restricted : NumberSet → Valuation → List ℕ
restricted K η = at 0 ∷ at 1 ∷ at 2 ∷ at 3 ∷ at 4 ∷ at 5 ∷ at 6 ∷ at 7 ∷ []
  where
    at : ℕ → ℕ
    at v = cond (K v) (η v) 0

restricted_at : (K : NumberSet) (η : Valuation) (v : ℕ) → v < 8 → get_or (restricted K η) v 0 ≡ cond (K v) (η v) 0
restricted_at K η = eight (λ v. get_or (restricted K η) v 0 ≡ cond (K v) (η v) 0) refl refl refl refl refl refl refl refl

restricted_is : (K : NumberSet) (η : Valuation) (v : ℕ) → v < 8 → K v ≡ true → get_or (restricted K η) v 0 ≡ η v
restricted_is K η v l h = restricted_at K η v l ∙ ap (λ (b : Bool). cond b (η v) 0) h

restricted_values : (K : NumberSet) (η : Valuation) → ((v : ℕ) → K v ≡ true → v < 8) → ((v : ℕ) → K v ≡ true → η v < 2 ^ 32) → ValuesFor K (restricted K η)
restricted_values K η few bounded = record {
  long = refl;
  bounded = λ v h. omega (arith, restricted_is K η v (few v h) h, bounded v h);
  others = λ v h. elim (cases_lt v 8) [ inl l ↦ restricted_at K η v l ∙ ap (λ (b : Bool). cond b (η v) 0) h | inr l ↦ get_or_past (restricted K η) v 0 l ];
}

-- an element of a list, with what is so of all of them
pub among : {X : Type 0} (P Q R : X → Type 0) (xs : List X) → ((x : X) → P x → Q x → R x) → AllByRecursion P xs → SomeOf Q xs → SomeOf R xs
among P Q R [] f a h = h
among P Q R (x ∷ xs) f (a, rest) (inl h) = inl (f x a h)
among P Q R (x ∷ xs) f (a, rest) (inr h) = inr (among P Q R xs f rest h)

pub found : {X : Type 0} (P Q : X → Type 0) (T : Type 0) (xs : List X) → ((x : X) → P x → Q x → T) → AllByRecursion P xs → SomeOf Q xs → T
found P Q T [] f a h = absurd h
found P Q T (x ∷ xs) f (a, rest) (inl h) = f x a h
found P Q T (x ∷ xs) f (a, rest) (inr h) = found P Q T xs f rest h

module _ (f : Facts) (τ : List ℕ) where
  -- from a row to truth
  begun : (s : Summary) → Sound s → (η : Valuation) (r : Row) → IsRow f τ s r → Matches s η r → Truth f τ (source s) η r.first
  begun s w η r i m = decided f τ (source s) w.beginning (valued r.values) η r.first (λ v h. sym (m v h)) i.begins

  from_row : (n : ℕ) (s : Summary) → Sound s → (η : Valuation) (j : ℕ) → (r : Row) → IsRow f τ s r → Matches s η r × Serves τ s r j → Truth f τ (formula n s) η j
  from_row n (prevs I b) w η j r i (m, (e, d)) = (r.first, e, d, begun (prevs I b) w η r i m)
  from_row n (onces I b) w η j r i (m, (e, d)) = (r.first, e, d, begun (onces I b) w η r i m)
  from_row n (sinces I l x) w η j r i (m, (e, u, d)) = (
    r.first,
    e,
    d,
    begun (sinces I l x) w η r i m,
    λ k a b. decided f τ l w.staying (valued r.values) η k (λ v h. sym (m v (w.within v h))) (i.lasts.2 k a (omega (arith, b, u))),
  )

  -- the row of a position at which the formula's source is true
  module _ (s : Summary) (w : Sound s) (rows : List Row) (list : RowList f τ s rows) (η : Valuation) (b : Bounded s η) where
    values : List ℕ
    values = restricted (free (source s)) η

    same : (v : ℕ) → free (source s) v ≡ true → get_or values v 0 ≡ η v
    unfolding values
    same v h = restricted_is (free (source s)) η v (small (source s) v h) h

    row_at : (k : ℕ) → k < length τ → Truth f τ (source s) η k → SomeOf (λ r. (r.values ≡ values) × (r.first ≡ k)) rows
    unfolding values
    row_at k l t = list.all values k (restricted_values (free (source s)) η (small (source s)) b) l (decided f τ (source s) w.beginning η (valued values) k same t)

    matches : (r : Row) → r.values ≡ values → Matches s η r
    matches r e v h = ap (λ (vs : List ℕ). get_or vs v 0) e ∙ same v h

  to_row : (n : ℕ) (s : Summary) → Sound s → (rows : List Row) → RowList f τ s rows → (η : Valuation) → Bounded s η → (j : ℕ) → j < length τ
      → Truth f τ (formula n s) η j → SomeOf (λ r. Matches s η r × Serves τ s r j) rows
  to_row n (prevs I b) w rows list η o j l (k, e, d, t) =
      among (IsRow f τ (prevs I b)) _ _ rows
      (λ r i q. (matches (prevs I b) w rows list η o r q.0, (e ∙ ap (λ (m : ℕ). m + 1) (sym q.1), subst (λ (m : ℕ). (get_or τ j 0 - get_or τ m 0) ∈ I) (sym q.1) d)))
      list.each (row_at (prevs I b) w rows list η o k (omega (arith, e, l)) t)
  to_row n (onces I b) w rows list η o j l (k, e, d, t) =
      among (IsRow f τ (onces I b)) _ _ rows
      (λ r i q. (matches (onces I b) w rows list η o r q.0, (omega (arith, e, q.1), subst (λ (m : ℕ). (get_or τ j 0 - get_or τ m 0) ∈ I) (sym q.1) d)))
      list.each (row_at (onces I b) w rows list η o k (omega (arith, e, l)) t)
  to_row n (sinces I x y) w rows list η o j l (k, e, d, t, s) =
      among (IsRow f τ (sinces I x y)) _ _ rows
      (λ r i q. (
        matches (sinces I x y) w rows list η o r q.0,
        (
          omega (arith, e, q.1),
          lasts_to r i q.1 (matches (sinces I x y) w rows list η o r q.0),
          subst (λ (m : ℕ). (get_or τ j 0 - get_or τ m 0) ∈ I) (sym q.1) d,
        ),
      ))
      list.each (row_at (sinces I x y) w rows list η o k (omega (arith, e, l)) t)
    where
      -- left holds up to j, so the row lasts at least as long
      lasts_to : (r : Row) → IsRow f τ (sinces I x y) r → r.first ≡ k → Matches (sinces I x y) η r → j ≤ r.last
      lasts_to r i q m = elim (cases_lt r.last j) [
        | inl a ↦ absurd (i.lasts.3 (omega (arith, a, l)) (decided f τ x w.staying η (valued r.values) (r.last + 1) (λ v h. m v (w.within v h)) (s (r.last + 1) (omega (arith, q, i.lasts.0)) (omega (arith, a)))))
        | inr a ↦ a
      ]

pub serve : RowsServe
serve f τ n s w rows list η o j l = (to_row f τ n s w rows list η o j l, λ h. found (IsRow f τ s) (λ r. Matches s η r × Serves τ s r j) _ rows (from_row f τ n s w η j) list.each h)
