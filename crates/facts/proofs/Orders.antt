-- The order of arguments is total, and 0 behind arguments doesn't alter it.
use Rattle.std.proofs.Common.{◌≡◌, ℕ, ◌<◌, true, false, eqb, List, [], ◌∷◌, length, Some, sym, refl, ap, true≢false, arith}
use Rattle.std.specs.Cmp.{IsStrictWeakOrder, nat_cmp_total}
use Rattle.std.proofs.lemmas.Cmp.{tied_itself}
use Rattle.std.proofs.lemmas.List.MinMax.{ranks_by}
use Rattle.std.specs.Cmp.Lexicographic.{slice_partial_cmp, lists_agrees, lists_total}
use Rattle.std.specs.Ordering.{is_lt, is_some_and, nat_cmp}
use Rattle.std.proofs.lemmas.Bool.{eq-eqb, eqb-true, and_parts, and_from}
use Rattle.facts.specs.Tuples.{before, same, padded}

-- `<` at slices is the order of arguments
pub less_before : (us vs : List ℕ) → is_some_and is_lt (slice_partial_cmp (λ x y. Some (nat_cmp x y)) us vs) ≡ before us vs
less_before us vs = ap (is_some_and is_lt) (lists_agrees (λ x y. refl) us vs)

pub ranked : IsStrictWeakOrder before
ranked = ranks_by (lists_total nat_cmp_total) (λ vs. vs)

pub before_itself : (vs : List ℕ) → before vs vs ≡ false
before_itself vs = ap is_lt (tied_itself (lists_total nat_cmp_total) vs)

pub same_is : (us vs : List ℕ) → same us vs ≡ true → us ≡ vs
same_is [] [] h = refl
same_is [] (v ∷ vs) h = absurd (true≢false (sym h))
same_is (u ∷ us) [] h = absurd (true≢false (sym h))
same_is (u ∷ us) (v ∷ vs) h = let p = and_parts (eqb u v) (same us vs) h in λ i. eqb-true u v p.0 i ∷ same_is us vs p.1 i

pub same_itself : (vs : List ℕ) → same vs vs ≡ true
same_itself [] = refl
same_itself (v ∷ vs) = and_from (eqb v v) (same vs vs) (eq-eqb v v refl) (same_itself vs)

pub before_padded : (us vs : List ℕ) → length us ≡ length vs → length us < 4 → before (padded us) (padded vs) ≡ before us vs
before_padded [] [] e h = refl
before_padded (a ∷ []) (x ∷ []) e h = refl
before_padded (a ∷ b ∷ []) (x ∷ y ∷ []) e h = refl
before_padded (a ∷ b ∷ c ∷ []) (x ∷ y ∷ z ∷ []) e h = refl
before_padded [] (x ∷ vs) e h = absurd (omega (arith, e))
before_padded (a ∷ []) [] e h = absurd (omega (arith, e))
before_padded (a ∷ []) (x ∷ y ∷ vs) e h = absurd (omega (arith, e))
before_padded (a ∷ b ∷ []) [] e h = absurd (omega (arith, e))
before_padded (a ∷ b ∷ []) (x ∷ []) e h = absurd (omega (arith, e))
before_padded (a ∷ b ∷ []) (x ∷ y ∷ z ∷ vs) e h = absurd (omega (arith, e))
before_padded (a ∷ b ∷ c ∷ []) [] e h = absurd (omega (arith, e))
before_padded (a ∷ b ∷ c ∷ []) (x ∷ []) e h = absurd (omega (arith, e))
before_padded (a ∷ b ∷ c ∷ []) (x ∷ y ∷ []) e h = absurd (omega (arith, e))
before_padded (a ∷ b ∷ c ∷ []) (x ∷ y ∷ z ∷ v ∷ vs) e h = absurd (omega (arith, e))
before_padded (a ∷ b ∷ c ∷ d ∷ us) vs e h = absurd (omega (arith, h))
