-- The worked examples with quantifiers, and those for all values.
use Rattle.std.proofs.Common.{◌≡◌, ℕ, zero, suc, ◌-◌, ◌/◌, ◌<◌, ◌≤◌, Bool, true, false, cond, ◌&&◌, ◌||◌, eqb, [], ◌∷◌, get_or, refl, subst, arith}
use Rattle.std.proofs.lemmas.Bool.{and_parts, eqb-true, eq-eqb, false≢true}
use Rattle.sets.specs.Sets.{single}
use Rattle.mfotl.specs.Truth.{Valuation, Varies}
use Rattle.mfotl.specs.Examples.{asked, QuantifiedExamples}

only : (b : Bool) → (b || false) ≡ true → b ≡ true
only true h = refl
only false h = h

-- the one that is asked for is 5
value : (n : ℕ) → ((eqb 5 n && true) || false) ≡ true → 5 ≡ n
value n h = eqb-true 5 n (and_parts (eqb 5 n) true (only (eqb 5 n && true) h)).0

five : Valuation → Valuation
five η v = cond (eqb 0 v) 5 (η v)

varied : (η : Valuation) → Varies (single 0) η (five η)
unfolding single five
varied η = record { others = λ v o. rw o refl; values = λ v o. rw o (omega arith) }

no_answer : (k : ℕ) → k < 2 → get_or (10 ∷ 71 ∷ []) k 0 - 10 ≤ 60 → asked.holds k 1 (5 ∷ []) ≡ true → ⊥
no_answer zero l d h = false≢true h
no_answer (suc zero) l d h = omega (arith, d)
no_answer (suc (suc k)) l d h = omega (arith, l)

pub quantified : QuantifiedExamples
unfolding five
quantified = record {
  in_time = λ η θ w a. (1, omega arith, omega arith, record { least = omega arith; most = omega arith }, subst (λ (n : ℕ). ((eqb 5 n && true) || false) ≡ true) (value (θ 0) a) refl);
  late = λ η t. let e = t (five η) (varied η) refl in no_answer e.0 e.2 e.3.most e.4;
  waits = λ h. omega (arith, h);
  settled = omega arith;
  twice_none = λ η t.
      let h = and_parts (eqb 3 (t.0 0)) (eqb 4 (t.0 0) && true) (only (eqb 3 (t.0 0) && (eqb 4 (t.0 0) && true)) t.2) in
      let a : 3 ≡ t.0 0 = eqb-true 3 (t.0 0) h.0 in
      let b : 4 ≡ t.0 0 = eqb-true 4 (t.0 0) (and_parts (eqb 4 (t.0 0)) true h.1).0 in
      omega (arith, a, b);
  siblings = λ y. (λ h. let e : y / 256 ≡ 1 = eqb-true (y / 256) 1 h in (omega (arith, e), omega (arith, e)), λ h. eq-eqb (y / 256) 1 (omega (arith, h.0, h.1)));
}
