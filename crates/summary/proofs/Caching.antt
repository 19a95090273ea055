-- Cached nodes have rows, whose parts are sound and look at the past only.
use Rattle.std.proofs.Common.{◌≡◌, ℕ, ◌<◌, true, false, not, ◌&&◌, refl, ap, inl, inr, arith}
use Rattle.std.proofs.lemmas.Bool.{and_parts, or_parts, not-true, false≢true, cases_Bool, both_ways, and_from}
use Rattle.sets.specs.Sets.{NumberSet, none, ◌∪◌, ◌∖◌, empty, ◌⊆◌}
use Rattle.table.specs.Form.{Declarations}
use Rattle.table.specs.Formula.{Formula, verum, falsum, atom, and, or, exists, forall, prev, once, hist, next, event, always, since, until, free}
use Rattle.policy.specs.Modes.{same_outside, binds_all, cached, buildable}
use Rattle.policy.specs.Wait.{wait}
use Rattle.mfotl.specs.Laws.{WellFormed}
use Rattle.summary.specs.Rows.{Summary, prevs, onces, sinces, formula, Sound}
use Rattle.summary.specs.Growth.{Past}
use Rattle.summary.proofs.Serving.{nothing, eight, small}

-- an empty set has none of the numbers 0 to 7
none_of : (M : NumberSet) → empty M ≡ true → (v : ℕ) → v < 8 → M v ≡ false
unfolding empty
none_of M h =
    let a = or_parts (M 0) _ (not-true _ h) in
    let b = or_parts (M 1) _ a.1 in
    let c = or_parts (M 2) _ b.1 in
    let d = or_parts (M 3) _ c.1 in
    let e = or_parts (M 4) _ d.1 in
    let f = or_parts (M 5) _ e.1 in
    let g = or_parts (M 6) _ f.1 in
    eight (λ v. M v ≡ false) a.0 b.0 c.0 d.0 e.0 f.0 g.0 g.1

inside : (K L : NumberSet) → (K ⊆ (none ∪ L)) ≡ true → (v : ℕ) → v < 8 → K v ≡ true → L v ≡ true
unfolding ◌∖◌ ◌∪◌ none
inside K L h v l k = elim (cases_Bool (L v)) [
  | inl o ↦ o
  | inr o ↦ absurd (both_ways (K v && not (L v)) (none_of (K ∖ (none ∪ L)) h v l) (and_from (K v) (not (L v)) k (ap not o)))
]

-- what can keep rows does not look ahead
module _ (D : Declarations) where
  pub no_wait : (φ : Formula) (K : NumberSet) → buildable D K φ ≡ true → wait φ ≡ 0
  no_wait (verum n) K h = refl
  no_wait (falsum n) K h = refl
  no_wait (atom n p ts) K h = refl
  no_wait (and n l r) K h = let p = and_parts (buildable D K l) (buildable D (K ∪ free l) r) h in omega (arith, no_wait l K p.0, no_wait r (K ∪ free l) p.1)
  no_wait (or n l r) K h =
      let p = and_parts (buildable D K l) (buildable D K r && same_outside K (free l) (free r)) h in
      omega (arith, no_wait l K p.0, no_wait r K (and_parts (buildable D K r) (same_outside K (free l) (free r)) p.1).0)
  no_wait (exists n vs b) K h = no_wait b K (and_parts (buildable D K b) (vs ⊆ free b) h).0
  no_wait (forall n vs l r) K h =
      let p = and_parts (buildable D K l) (buildable D (K ∪ vs) r && binds_all K vs (free l) (free r)) h in
      omega (arith, no_wait l K p.0, no_wait r (K ∪ vs) (and_parts (buildable D (K ∪ vs) r) (binds_all K vs (free l) (free r)) p.1).0)
  no_wait (prev n i b) K h = no_wait b none h
  no_wait (once n i b) K h = no_wait b none h
  no_wait (hist n i b) K h = absurd (false≢true h)
  no_wait (next n i b) K h = absurd (false≢true h)
  no_wait (event n i b) K h = absurd (false≢true h)
  no_wait (always n i b) K h = absurd (false≢true h)
  no_wait (since n i l r) K h =
      let p = and_parts (buildable D none r) (buildable D (none ∪ free r) l && (free l ⊆ (none ∪ free r))) h in
      omega (arith, no_wait r none p.0, no_wait l (none ∪ free r) (and_parts (buildable D (none ∪ free r) l) (free l ⊆ (none ∪ free r)) p.1).0)
  no_wait (until n i l r) K h = absurd (false≢true h)

  pub have_rows : (φ : Formula) → WellFormed φ → cached D φ ≡ true → (s : Summary) × (m : ℕ) × (φ ≡ formula m s) × Sound s × Past s
  have_rows (verum n) w h = absurd (false≢true h)
  have_rows (falsum n) w h = absurd (false≢true h)
  have_rows (atom n p ts) w h = absurd (false≢true h)
  have_rows (and n l r) w h = absurd (false≢true h)
  have_rows (or n l r) w h = absurd (false≢true h)
  have_rows (exists n vs b) w h = absurd (false≢true h)
  have_rows (forall n vs l r) w h = absurd (false≢true h)
  have_rows (prev n I b) w h = (prevs I b, n, refl, record { beginning = w; staying = tt; within = λ v k. nothing v k }, record { beginning = no_wait b none h; staying = refl })
  have_rows (once n I b) w h = (onces I b, n, refl, record { beginning = w; staying = tt; within = λ v k. nothing v k }, record { beginning = no_wait b none h; staying = refl })
  have_rows (hist n I b) w h = absurd (false≢true h)
  have_rows (next n I b) w h = absurd (false≢true h)
  have_rows (event n I b) w h = absurd (false≢true h)
  have_rows (always n I b) w h = absurd (false≢true h)
  have_rows (since n I l r) (wl, wr) h =
      let p = and_parts (buildable D none r) (buildable D (none ∪ free r) l && (free l ⊆ (none ∪ free r))) h in
      let q = and_parts (buildable D (none ∪ free r) l) (free l ⊆ (none ∪ free r)) p.1 in (
        sinces I l r,
        n,
        refl,
        record { beginning = wr; staying = wl; within = λ v k. inside (free l) (free r) q.1 v (small l v k) k },
        record { beginning = no_wait r none p.0; staying = no_wait l (none ∪ free r) q.0 },
      )
  have_rows (until n I l r) w h = absurd (false≢true h)
