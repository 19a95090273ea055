-- Truth at a position reaches as far as its stamp and the formula's wait, and so is settled once the last stamp is as far.
use Rattle.std.proofs.Common.{◌≡◌, ℕ, ◌+◌, ◌-◌, ◌<◌, ◌≤◌, true, List, map, length, get_or, is_some, Some, None, Option, sym, ap, ◌∙◌, subst, inl, inr, arith}
use Rattle.std.proofs.lemmas.Bool.{cases_eq, false≢true}
use Rattle.table.specs.declared.Interval.{Interval}
use Rattle.table.specs.Formula.{Formula, verum, falsum, atom, and, or, exists, forall, prev, once, hist, next, event, always, since, until}
use Rattle.policy.specs.Wait.{upper, wait}
use Rattle.facts.specs.Facts.{Facts}
use Rattle.mfotl.specs.Truth.{Valuation, value_of, AtMost, ◌∈◌, Truth}
use Rattle.mfotl.specs.Laws.{WellFormed, Rises, Alike, Reach}

pub turned : (f g : Facts) (τ υ : List ℕ) (time : ℕ) → Alike f τ g υ time → Alike g υ f τ time
turned f g τ υ time a = record { there = a.back; back = a.there }

-- stamps do not fall
pub no_later : (τ : List ℕ) → Rises τ → (k i : ℕ) → k ≤ i → i < length τ → get_or τ k 0 ≤ get_or τ i 0
no_later τ rise k i h l = elim (cases_eq k i) [ inl e ↦ omega (arith, ap (λ (n : ℕ). get_or τ n 0) e) | inr n ↦ omega (arith, rise k i (omega (arith, n, h)) l) ]

-- a distance of an operator with an upper end is at most that
at_most : (d : ℕ) (o : Option ℕ) → is_some o ≡ true → AtMost d o → d ≤ elim o [ None ↦ 0 | Some h ↦ h ]
at_most d None h m = absurd (false≢true h)
at_most d (Some u) h m = m

pub within : (d : ℕ) (I : Interval) → is_some I.hi ≡ true → d ∈ I → d ≤ upper I
within d I h m = at_most d I.hi h m.most

-- the same distance
distance : (τ υ : List ℕ) (I : Interval) (i k : ℕ) → get_or υ i 0 ≡ get_or τ i 0 → get_or υ k 0 ≡ get_or τ k 0 → (get_or τ i 0 - get_or τ k 0) ∈ I → (get_or υ i 0 - get_or υ k 0) ∈ I
distance τ υ I i k a b d = subst (λ (n : ℕ). n ∈ I) (λ j. sym a j - sym b j) d

pub carried : (f g : Facts) (τ υ : List ℕ) → Rises τ → Rises υ → (φ : Formula) → WellFormed φ → (time : ℕ) → Alike f τ g υ time
    → (η : Valuation) (i : ℕ) → i < length τ → get_or τ i 0 + wait φ ≤ time → Truth f τ φ η i → Truth g υ φ η i
carried f g τ υ rτ rυ (verum n) w time a η i l b t = t
carried f g τ υ rτ rυ (falsum n) w time a η i l b t = t
carried f g τ υ rτ rυ (atom n p ts) w time a η i l b t = a.there.facts i p (map (value_of η) ts) l (omega (arith, b)) ∙ t
carried f g τ υ rτ rυ (and n x y) (wx, wy) time a η i l b (t, s) =
    (carried f g τ υ rτ rυ x wx time a η i l (omega (arith, b)) t, carried f g τ υ rτ rυ y wy time a η i l (omega (arith, b)) s)
carried f g τ υ rτ rυ (or n x y) (wx, wy) time a η i l b (inl t) = inl (carried f g τ υ rτ rυ x wx time a η i l (omega (arith, b)) t)
carried f g τ υ rτ rυ (or n x y) (wx, wy) time a η i l b (inr t) = inr (carried f g τ υ rτ rυ y wy time a η i l (omega (arith, b)) t)
carried f g τ υ rτ rυ (exists n vs x) w time a η i l b (θ, v, t) = (θ, v, carried f g τ υ rτ rυ x w time a θ i l b t)
carried f g τ υ rτ rυ (forall n vs x y) (wx, wy) time a η i l b t = λ θ v s.
    let near : get_or τ i 0 ≤ time = omega (arith, b) in
    carried f g τ υ rτ rυ y wy time a θ i l (omega (arith, b))
    (t θ v (carried g f υ τ rυ rτ x wx time (turned f g τ υ time a) θ i (a.there.shown i l near) (omega (arith, b, a.there.stamps i l near)) s))
carried f g τ υ rτ rυ (prev n I x) w time a η i l b (k, e, d, t) =
    let lk : k < length τ = omega (arith, e, l) in
    let below : get_or τ k 0 ≤ get_or τ i 0 = no_later τ rτ k i (omega (arith, e)) l in
    (k, e, distance τ υ I i k (a.there.stamps i l (omega (arith, b))) (a.there.stamps k lk (omega (arith, b, below))) d, carried f g τ υ rτ rυ x w time a η k lk (omega (arith, b, below)) t)
carried f g τ υ rτ rυ (once n I x) w time a η i l b (k, e, d, t) =
    let lk : k < length τ = omega (arith, e, l) in
    let below : get_or τ k 0 ≤ get_or τ i 0 = no_later τ rτ k i e l in
    (k, e, distance τ υ I i k (a.there.stamps i l (omega (arith, b))) (a.there.stamps k lk (omega (arith, b, below))) d, carried f g τ υ rτ rυ x w time a η k lk (omega (arith, b, below)) t)
carried f g τ υ rτ rυ (hist n I x) w time a η i l b t = λ k e d.
    let lk : k < length τ = omega (arith, e, l) in
    let below : get_or τ k 0 ≤ get_or τ i 0 = no_later τ rτ k i e l in
    carried f g τ υ rτ rυ x w time a η k lk (omega (arith, b, below))
    (t k e (distance υ τ I i k (sym (a.there.stamps i l (omega (arith, b)))) (sym (a.there.stamps k lk (omega (arith, b, below)))) d))
carried f g τ υ rτ rυ (next n I x) (h, w) time a η i l b (e, d, t) =
    let above : get_or τ i 0 < get_or τ (i + 1) 0 = rτ i (i + 1) (omega arith) e in
    let near : get_or τ (i + 1) 0 ≤ get_or τ i 0 + upper I = omega (arith, within (get_or τ (i + 1) 0 - get_or τ i 0) I h d, above) in (
      a.there.shown (i + 1) e (omega (arith, b, near)),
      distance τ υ I (i + 1) i (a.there.stamps (i + 1) e (omega (arith, b, near))) (a.there.stamps i l (omega (arith, b))) d,
      carried f g τ υ rτ rυ x w time a η (i + 1) e (omega (arith, b, near)) t,
    )
carried f g τ υ rτ rυ (event n I x) (h, w) time a η i l b (k, e, lk, d, t) =
    let near : get_or τ k 0 ≤ get_or τ i 0 + upper I = omega (arith, within (get_or τ k 0 - get_or τ i 0) I h d) in (
      k,
      e,
      a.there.shown k lk (omega (arith, b, near)),
      distance τ υ I k i (a.there.stamps k lk (omega (arith, b, near))) (a.there.stamps i l (omega (arith, b))) d,
      carried f g τ υ rτ rυ x w time a η k lk (omega (arith, b, near)) t,
    )
carried f g τ υ rτ rυ (always n I x) (h, w) time a η i l b t = λ k e lk d.
    let si : get_or υ i 0 ≡ get_or τ i 0 = a.there.stamps i l (omega (arith, b)) in
    let near : get_or υ k 0 ≤ get_or υ i 0 + upper I = omega (arith, within (get_or υ k 0 - get_or υ i 0) I h d) in
    let inside : k < length τ = a.back.shown k lk (omega (arith, b, near, si)) in
    let sk : get_or τ k 0 ≡ get_or υ k 0 = a.back.stamps k lk (omega (arith, b, near, si)) in
    carried f g τ υ rτ rυ x w time a η k inside (omega (arith, b, near, si, sk)) (t k e inside (distance υ τ I k i sk (sym si) d))
carried f g τ υ rτ rυ (since n I x y) (wx, wy) time a η i l b (k, e, d, t, s) =
    let lk : k < length τ = omega (arith, e, l) in
    let below : get_or τ k 0 ≤ get_or τ i 0 = no_later τ rτ k i e l in (
      k,
      e,
      distance τ υ I i k (a.there.stamps i l (omega (arith, b))) (a.there.stamps k lk (omega (arith, b, below))) d,
      carried f g τ υ rτ rυ y wy time a η k lk (omega (arith, b, below)) t,
      λ j p q. carried f g τ υ rτ rυ x wx time a η j (omega (arith, q, l)) (omega (arith, b, no_later τ rτ j i q l)) (s j p q),
    )
carried f g τ υ rτ rυ (until n I x y) (h, wx, wy) time a η i l b (k, e, lk, d, t, s) =
    let near : get_or τ k 0 ≤ get_or τ i 0 + upper I = omega (arith, within (get_or τ k 0 - get_or τ i 0) I h d) in (
      k,
      e,
      a.there.shown k lk (omega (arith, b, near)),
      distance τ υ I k i (a.there.stamps k lk (omega (arith, b, near))) (a.there.stamps i l (omega (arith, b))) d,
      carried f g τ υ rτ rυ y wy time a η k lk (omega (arith, b, near)) t,
      λ j p q. carried f g τ υ rτ rυ x wx time a η j (omega (arith, q, lk)) (omega (arith, b, near, no_later τ rτ j k (omega (arith, q)) lk)) (s j p q),
    )

pub reached : Reach
reached f g τ υ rτ rυ φ w η i l a =
    let time = get_or τ i 0 + wait φ in (
      carried f g τ υ rτ rυ φ w time a η i l (omega arith),
      carried g f υ τ rυ rτ φ w time (turned f g τ υ time a) η i (a.there.shown i l (omega arith)) (omega (arith, a.there.stamps i l (omega arith))),
    )
