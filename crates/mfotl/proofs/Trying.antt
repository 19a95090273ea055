-- The test by trying all positions decides truth.
use Rattle.std.proofs.Common.{◌≡◌, ℕ, suc, ◌+◌, ◌-◌, ◌<◌, ◌≤◌, Bool, true, false, not, ◌||◌, leb, List, length, get_or, Some, None, Decides, Option, sym, refl, subst, arith}
use Rattle.std.proofs.lemmas.Bool.{and_parts, leb-true, le-leb, false≢true}
use Rattle.std.proofs.lemmas.Bool.Decides.{Decides-like, Decides-and, Decides-or, Decides-ltb, Decides-below_and, Decides-below_or}
use Rattle.table.specs.declared.Interval.{Interval}
use Rattle.table.specs.Formula.{Formula, verum, falsum, atom, and, or, exists, forall, prev, once, hist, next, event, always, since, until}
use Rattle.facts.specs.Facts.{Facts}
use Rattle.mfotl.specs.Truth.{Valuation, AtMost, ◌∈◌, Truth}
use Rattle.mfotl.proofs.Evaluation.{any_below, all_below, at_most, inside, quantifierless, apart, evaluated}

-- a test of an implication
if_then : {P Q : Type 0} (a b : Bool) → Decides a P → Decides b Q → Decides (not a || b) (P → Q)
if_then true b f g = (λ h p. g.0 h, λ i. g.1 (i (f.0 refl)))
if_then false b f g = (λ h p. absurd (false≢true (f.1 p)), λ i. refl)

least : (a b : ℕ) → Decides (leb a b) (a ≤ b)
least a b = (leb-true a b, le-leb a b)

most : (d : ℕ) (o : Option ℕ) → Decides (at_most d o) (AtMost d o)
most d None = (λ h. tt, λ h. refl)
most d (Some u) = least d u

lies : (d : ℕ) (I : Interval) → Decides (inside d I) (d ∈ I)
lies d I = Decides-like _ (λ p. record { least = p.0; most = p.1 }) (λ m. (m.least, m.most)) (Decides-and _ _ (least I.lo d) (most d I.hi))

-- tests of the numbers below n, and up to n
module _ (p : ℕ → Bool) (P : ℕ → Type 0) (each : (k : ℕ) → Decides (p k) (P k)) (n : ℕ) where
  some_below : Decides (any_below n p) ((k : ℕ) × (k < n) × P k)
  some_below = Decides-below_or p P (λ m. any_below m p) each refl (λ m. refl) n

  each_below : Decides (all_below n p) ((k : ℕ) → k < n → P k)
  each_below = Decides-below_and p P (λ m. all_below m p) each refl (λ m. refl) n

module _ (p : ℕ → Bool) (P : ℕ → Type 0) (each : (k : ℕ) → Decides (p k) (P k)) (n : ℕ) where
  some_to : Decides (any_below (suc n) p) ((k : ℕ) × (k ≤ n) × P k)
  some_to = Decides-like _ (λ (k, l, h). (k, omega arith, h)) (λ (k, l, h). (k, omega arith, h)) (some_below p P each (suc n))

  each_to : Decides (all_below (suc n) p) ((k : ℕ) → k ≤ n → P k)
  each_to = Decides-like _ (λ h k l. h k (omega arith)) (λ h k l. h k (omega arith)) (each_below p P each (suc n))

module _ (f : Facts) (τ : List ℕ) (η : Valuation) where
  far : (i k : ℕ) (I : Interval) → Decides (apart f τ η i k I) ((get_or τ i 0 - get_or τ k 0) ∈ I)
  far i k I = lies _ I

  pub tried : (φ : Formula) → quantifierless φ ≡ true → (i : ℕ) → Decides (evaluated f τ η φ i) (Truth f τ φ η i)
  tried (verum n) q i = (λ h. tt, λ h. refl)
  tried (falsum n) q i = (λ h. false≢true h, λ h. absurd h)
  tried (atom n p ts) q i = (λ h. h, λ h. h)
  tried (and n l r) q i = let w = and_parts (quantifierless l) (quantifierless r) q in Decides-and _ _ (tried l w.0 i) (tried r w.1 i)
  tried (or n l r) q i = let w = and_parts (quantifierless l) (quantifierless r) q in Decides-or _ _ (tried l w.0 i) (tried r w.1 i)
  tried (exists n vs b) q i = absurd (false≢true q)
  tried (forall n vs l r) q i = absurd (false≢true q)
  tried (prev n I b) q i =
      Decides-like _ (λ (l, (d, t)). (i - 1, omega arith, d, t))
      (λ (k, e, d, t). let z : i - 1 ≡ k = omega arith in (omega arith, subst (λ (m : ℕ). ((get_or τ i 0 - get_or τ m 0) ∈ I) × Truth f τ b η m) (sym z) (d, t)))
      (Decides-and _ _ (Decides-ltb 0 i) (Decides-and _ _ (far i (i - 1) I) (tried b q (i - 1))))
  tried (once n I b) q i = Decides-like _ (λ (k, l, (d, t)). (k, l, d, t)) (λ (k, l, d, t). (k, l, (d, t))) (some_to _ _ (λ k. Decides-and _ _ (far i k I) (tried b q k)) i)
  tried (hist n I b) q i = each_to _ _ (λ k. if_then _ _ (far i k I) (tried b q k)) i
  tried (next n I b) q i =
      Decides-like _ (λ (l, (d, t)). (l, d, t)) (λ (l, d, t). (l, (d, t))) (Decides-and _ _ (Decides-ltb (i + 1) (length τ)) (Decides-and _ _ (far (i + 1) i I) (tried b q (i + 1))))
  tried (event n I b) q i =
      Decides-like _ (λ (k, l, (a, (d, t))). (k, a, l, d, t)) (λ (k, a, l, d, t). (k, l, (a, (d, t))))
      (some_below _ _ (λ k. Decides-and _ _ (least i k) (Decides-and _ _ (far k i I) (tried b q k))) (length τ))
  tried (always n I b) q i =
      Decides-like _ (λ h k a l d. h k l (a, d)) (λ h k l p. h k p.0 l p.1) (each_below _ _ (λ k. if_then _ _ (Decides-and _ _ (least i k) (far k i I)) (tried b q k)) (length τ))
  tried (since n I l r) q i =
      let w = and_parts (quantifierless l) (quantifierless r) q in
      Decides-like _ (λ (k, a, (d, (t, h))). (k, a, d, t, λ j b c. h j c b)) (λ (k, a, d, t, h). (k, a, (d, (t, λ j c b. h j b c))))
      (some_to _ _ (λ k. Decides-and _ _ (far i k I) (Decides-and _ _ (tried r w.1 k) (each_to _ _ (λ j. if_then _ _ (Decides-ltb k j) (tried l w.0 j)) i))) i)
  tried (until n I l r) q i =
      let w = and_parts (quantifierless l) (quantifierless r) q in
      Decides-like _ (λ (k, b, (a, (d, (t, h)))). (k, a, b, d, t, λ j x y. h j y x)) (λ (k, a, b, d, t, h). (k, b, (a, (d, (t, λ j y x. h j x y)))))
      (some_below _ _ (λ k. Decides-and _ _ (least i k) (Decides-and _ _ (far k i I) (Decides-and _ _ (tried r w.1 k) (each_below _ _ (λ j. if_then _ _ (least i j) (tried l w.0 j)) k)))) (length τ))
