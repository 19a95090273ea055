-- A journal that is lengthened is alike up to each of its stamps, and its stamps rise.
use Rattle.std.proofs.Common.{◌≡◌, ℕ, zero, suc, ◌+◌, ◌-◌, ◌^◌, ◌<◌, ◌≤◌, true, leb, List, [], ◌∷◌, ◌++◌, length, get_or, sym, refl, ap, ◌∙◌, inl, inr, arith, length-append}
use Rattle.std.proofs.lemmas.List.{get_or_append_left, get_or-append_right}
use Rattle.std.proofs.lemmas.Bool.{cases_lt, leb-true, and_parts}
use Rattle.table.specs.Formula.{Formula}
use Rattle.policy.specs.Wait.{wait}
use Rattle.facts.specs.Facts.{Facts}
use Rattle.journal.specs.Trace.{Trace, Orderly, Lengthens, shown, stamp_at, rising}
use Rattle.journal.proofs.Stamps.{rising_at}
use Rattle.mfotl.specs.Laws.{WellFormed, Equivalent, Rises, Alike}
use Rattle.mfotl.specs.Truth.{Valuation, Truth}
use Rattle.mfotl.proofs.Reaching.{reached}

module _ (f g : Facts) (τ υ more : List ℕ) (is : υ ≡ τ ++ more) (facts : (k q : ℕ) (vs : List ℕ) → k < length τ → g.holds k q vs ≡ f.holds k q vs) where
  pub longer : length υ ≡ length τ + length more
  longer = ap length is ∙ length-append τ more

  pub same : (k : ℕ) → k < length τ → get_or υ k 0 ≡ get_or τ k 0
  same k l = ap (λ (ss : List ℕ). get_or ss k 0) is ∙ get_or_append_left τ more 0 k l

  -- up to the stamp of an old position there are only old positions
  module _ (rise : Rises υ) (time i : ℕ) (l : i < length τ) (last : time ≤ get_or τ i 0) where
    old : (k : ℕ) → k < length υ → get_or υ k 0 ≤ time → k < length τ
    old k h b = elim (cases_lt k (length τ)) [
      | inl o ↦ o
      | inr o ↦ absurd (omega (arith, rise i k (omega (arith, l, o)) h, same i l, b, last))
    ]

    pub alike : Alike f τ g υ time
    alike = record {
      there = record { shown = λ k h b. omega (arith, h, longer); stamps = λ k h b. same k h; facts = λ k q vs h b. facts k q vs h };
      back = record { shown = old; stamps = λ k h b. sym (same k (old k h b)); facts = λ k q vs h b. sym (facts k q vs (old k h b)) };
    }

  -- what does not look ahead is true at the old positions exactly where it was
  pub same_truth : Rises τ → Rises υ → (φ : Formula) → WellFormed φ → wait φ ≡ 0 → (η : Valuation) (i : ℕ) → i < length τ → Equivalent (Truth f τ φ η i) (Truth g υ φ η i)
  same_truth rτ rυ φ w z η i l = reached f g τ υ rτ rυ φ w η i l (alike rυ (get_or τ i 0 + wait φ) i l (omega (arith, z)))

-- stamps that are allowed from a least next stamp on are not below it
not-below : (n end : ℕ) (ss : List ℕ) → rising n ss end ≡ true → (j : ℕ) → j < length ss → n ≤ get_or ss j 0
not-below n end [] r j h = absurd (omega (arith, h))
not-below n end (s ∷ ss) r zero h = leb-true n s (and_parts (leb n s) (rising (s + 1) ss end) r).0
not-below n end (s ∷ ss) r (suc j) h =
    omega (arith, leb-true n s (and_parts (leb n s) (rising (s + 1) ss end) r).0, rising_at n end (s ∷ ss) 0 (suc j) r (omega arith) h)

module _ (f g : Facts) (t u : Trace) (o : Orderly f t) (w : Lengthens f t g u) where
  before_end : (k : ℕ) → k < shown t → stamp_at u k ≡ stamp_at t k
  before_end = same f g t.stamps u.stamps w.further w.stamps w.facts

  further : (k : ℕ) → shown t ≤ k → stamp_at u k ≡ get_or w.further (k - shown t) 0
  further k l = ap (λ (ss : List ℕ). get_or ss k 0) w.stamps ∙ get_or-append_right t.stamps w.further (shown t) k 0 refl l

  pub lengthened_rises : Rises u.stamps
  lengthened_rises p q h l =
      let long : shown u ≡ shown t + length w.further = longer f g t.stamps u.stamps w.further w.stamps w.facts in
      elim (cases_lt q (shown t)) [
        | inl a ↦ omega (arith, o.rising p q h a, before_end p (omega (arith, h, a)), before_end q a)
        | inr a ↦ elim (cases_lt p (shown t)) [
          | inl b ↦ omega (arith, before_end p b, further q a, o.below p b, not-below t.next (2 ^ 32) w.further w.allowed (q - shown t) (omega (arith, l, long, a)))
          | inr b ↦ omega (arith, further p b, further q a, rising_at t.next (2 ^ 32) w.further (p - shown t) (q - shown t) w.allowed (omega (arith, h, b)) (omega (arith, l, long, a)))
        ]
      ]
