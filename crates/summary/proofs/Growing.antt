-- The row list over one more position.
use Rattle.std.proofs.Common.{◌≡◌, ℕ, ◌+◌, ◌<◌, List, [], ◌∷◌, ◌++◌, length, sym, ap, ◌∙◌, subst, inl, inr, arith}
use Rattle.std.specs.List.{AllByRecursion}
use Rattle.std.proofs.lemmas.Bool.{cases_lt}
use Rattle.table.specs.Formula.{Formula}
use Rattle.policy.specs.Wait.{wait}
use Rattle.facts.specs.Facts.{Facts}
use Rattle.facts.specs.Tuples.{before}
use Rattle.mfotl.specs.Laws.{WellFormed, Rises}
use Rattle.mfotl.specs.Truth.{Valuation, Truth}
use Rattle.mfotl.proofs.Settling.{longer, same_truth}
use Rattle.mfotl.proofs.Lists.{all_map, all_append}
use Rattle.summary.specs.declared.row.Row.{Row}
use Rattle.summary.specs.Rows.{Summary, prevs, onces, sinces, source, Sound, valued, SomeOf, Earlier, Sorted, Lasts, IsRow}
use Rattle.summary.specs.Growth.{Past, OneMore, HoldsAgain, Continues, AllContinue, RowsGrow}

module _ (f g : Facts) (τ υ : List ℕ) (stamp : ℕ) (rτ : Rises τ) (rυ : Rises υ) (more : OneMore f τ g υ stamp) where
  long : length υ ≡ length τ + 1
  long = longer f g τ υ (stamp ∷ []) more.stamps more.facts

  module _ (φ : Formula) (w : WellFormed φ) (z : wait φ ≡ 0) (η : Valuation) (i : ℕ) (l : i < length τ) where
    pub forth : Truth f τ φ η i → Truth g υ φ η i
    forth t = (same_truth f g τ υ (stamp ∷ []) more.stamps more.facts rτ rυ φ w z η i l).0 t

    pub back : Truth g υ φ η i → Truth f τ φ η i
    back t = (same_truth f g τ υ (stamp ∷ []) more.stamps more.facts rτ rυ φ w z η i l).1 t

  -- a row that is not lengthened is a row still
  still_lasts : (s : Summary) → Sound s → Past s → (r : Row) → r.first < length τ → (HoldsAgain g υ (length τ) s r → ⊥)
      → Lasts f τ s (valued r.values) r.first r.last → Lasts g υ s (valued r.values) r.first r.last
  still_lasts (prevs I b) w p r l never e = e
  still_lasts (onces I b) w p r l never e = e
  still_lasts (sinces I x y) w p r l never (a, b, c, d) = (
    a,
    omega (arith, b, long),
    λ j u v. forth x w.staying p.staying (valued r.values) j (omega (arith, v, b)) (c j u v),
    λ u t. elim (cases_lt (r.last + 1) (length τ)) [
      | inl o ↦ d o (back x w.staying p.staying (valued r.values) (r.last + 1) o t)
      | inr o ↦ let e : r.last + 1 ≡ length τ = omega (arith, o, b) in never (e, subst (λ (k : ℕ). Truth g υ x (valued r.values) k) e t)
    ],
  )

  -- a row that is lengthened lasts up to the new position
  longer_lasts : (s : Summary) → Sound s → Past s → (r : Row) → HoldsAgain g υ (length τ) s r
      → Lasts f τ s (valued r.values) r.first r.last → Lasts g υ s (valued r.values) r.first (r.last + 1)
  longer_lasts (prevs I b) w p r h e = absurd h
  longer_lasts (onces I b) w p r h e = absurd h
  longer_lasts (sinces I x y) w p r (e, t) (a, b, c, d) = (
    omega (arith, a),
    omega (arith, e, long),
    λ j u v. elim (cases_lt j (r.last + 1)) [
      | inl o ↦ forth x w.staying p.staying (valued r.values) j (omega (arith, o, b)) (c j u (omega (arith, o)))
      | inr o ↦ let z : length τ ≡ j = omega (arith, e, o, v) in subst (λ (k : ℕ). Truth g υ x (valued r.values) k) z t
    ],
    λ u z. omega (arith, e, u, long),
  )

  kept_row : (s : Summary) → Sound s → Past s → (r r' : Row) → Continues g υ (length τ) s r r' → IsRow f τ s r → IsRow g υ s r'
  kept_row s w p r r' k i =
      let begins : Truth g υ (source s) (valued r.values) r.first = forth (source s) w.beginning p.beginning (valued r.values) r.first i.shown i.begins in
      elim k [
        | inl (h, e) ↦ subst (IsRow g υ s) (sym e) (record { values = i.values; shown = omega (arith, i.shown, long); begins = begins; lasts = longer_lasts s w p r h i.lasts })
        | inr (h, e) ↦ subst (IsRow g υ s) (sym e) (record { values = i.values; shown = omega (arith, i.shown, long); begins = begins; lasts = still_lasts s w p r i.shown h i.lasts })
      ]

  -- what is so of each row is so of the kept ones, if it stays so
  each_kept : (s : Summary) (P Q : Row → Type 0) → ((r r' : Row) → Continues g υ (length τ) s r r' → P r → Q r')
      → (rows kept : List Row) → AllContinue g υ (length τ) s rows kept → AllByRecursion P rows → AllByRecursion Q kept
  each_kept s P Q f [] [] k a = tt
  each_kept s P Q f [] (r' ∷ rs') k a = absurd k
  each_kept s P Q f (r ∷ rs) [] k a = absurd k
  each_kept s P Q f (r ∷ rs) (r' ∷ rs') (k, ks) (a, as') = (f r r' k a, each_kept s P Q f rs rs' ks as')

  -- a kept row has the values and the first position that it had
  record Same (r r' : Row) : Type 0 where
    values : r'.values ≡ r.values
    first : r'.first ≡ r.first

  same_row : (s : Summary) (r r' : Row) → Continues g υ (length τ) s r r' → Same r r'
  same_row s r r' (inl (h, e)) = record { values = ap (λ (x : Row). x.values) e; first = ap (λ (x : Row). x.first) e }
  same_row s r r' (inr (h, e)) = record { values = ap (λ (x : Row). x.values) e; first = ap (λ (x : Row). x.first) e }

  still_earlier : (r r' x x' : Row) → Same r r' → Same x x' → Earlier r x → Earlier r' x'
  still_earlier r r' x x' a b (inl h) = inl (omega (arith, h, a.first, b.first))
  still_earlier r r' x x' a b (inr (e, h)) = inr (a.first ∙ e ∙ sym b.first, (λ i. before (a.values i) (b.values i)) ∙ h)

  kept_sorted : (s : Summary) (rows kept : List Row) → AllContinue g υ (length τ) s rows kept → Sorted rows → Sorted kept
  kept_sorted s [] [] k h = tt
  kept_sorted s [] (r' ∷ rs') k h = absurd k
  kept_sorted s (r ∷ rs) [] k h = absurd k
  kept_sorted s (r ∷ rs) (r' ∷ rs') (k, ks) (h, hs) =
      (each_kept s (Earlier r) (Earlier r') (λ x x' c e. still_earlier r r' x x' (same_row s r r' k) (same_row s x x' c) e) rs rs' ks h, kept_sorted s rs rs' ks hs)

  some_kept : (s : Summary) (vs : List ℕ) (k : ℕ) (rows kept : List Row) → AllContinue g υ (length τ) s rows kept
      → SomeOf (λ r. (r.values ≡ vs) × (r.first ≡ k)) rows → SomeOf (λ r. (r.values ≡ vs) × (r.first ≡ k)) kept
  some_kept s vs k [] [] a h = h
  some_kept s vs k [] (r' ∷ rs') a h = absurd a
  some_kept s vs k (r ∷ rs) [] a h = absurd a
  some_kept s vs k (r ∷ rs) (r' ∷ rs') (a, as') (inl h) = let z = same_row s r r' a in inl (z.values ∙ h.0, z.first ∙ h.1)
  some_kept s vs k (r ∷ rs) (r' ∷ rs') (a, as') (inr h) = inr (some_kept s vs k rs rs' as' h)

some_left : (P : Row → Type 0) (xs ys : List Row) → SomeOf P xs → SomeOf P (xs ++ ys)
some_left P [] ys h = absurd h
some_left P (x ∷ xs) ys (inl h) = inl h
some_left P (x ∷ xs) ys (inr h) = inr (some_left P xs ys h)

some_right : (P : Row → Type 0) (xs ys : List Row) → SomeOf P ys → SomeOf P (xs ++ ys)
some_right P [] ys h = h
some_right P (x ∷ xs) ys h = inr (some_right P xs ys h)

sorted_append : (n : ℕ) (xs ys : List Row) → Sorted xs → Sorted ys → AllByRecursion (λ r. r.first < n) xs → AllByRecursion (λ x. x.first ≡ n) ys → Sorted (xs ++ ys)
sorted_append n [] ys a b c d = b
sorted_append n (x ∷ xs) ys (a, as') b (c, cs) d = (all_append (Earlier x) xs ys a (all_map (λ y. y.first ≡ n) (Earlier x) (λ y e. inl (omega (arith, c, e))) ys d), sorted_append n xs ys as' b cs d)

pub grown : RowsGrow
grown f g τ υ stamp s rτ rυ more w p rows kept news list k new =
    let n = length τ in
    let starts : Row → Type 0 = λ r. IsRow g υ s r × (r.first ≡ n) in
    record {
      each = all_append (IsRow g υ s) kept news (each_kept f g τ υ stamp rτ rυ more s (IsRow f τ s) (IsRow g υ s) (kept_row f g τ υ stamp rτ rυ more s w p) rows kept k list.each)
          (all_map starts (IsRow g υ s) (λ r a. a.0) news new.each);
      sorted = sorted_append n kept news (kept_sorted f g τ υ stamp rτ rυ more s rows kept k list.sorted) new.sorted
          (each_kept f g τ υ stamp rτ rυ more s (IsRow f τ s) (λ r. r.first < n) (λ r r' c i. omega (arith, i.shown, (same_row f g τ υ stamp rτ rυ more s r r' c).first)) rows kept k list.each)
          (all_map starts (λ r. r.first ≡ n) (λ r a. a.1) news new.each);
      all = λ vs i v l t. elim (cases_lt i n) [
        | inl o ↦ some_left (λ r. (r.values ≡ vs) × (r.first ≡ i)) kept news (some_kept f g τ υ stamp rτ rυ more s vs i rows kept k (list.all vs i v o (back f g τ υ stamp rτ rυ more (source s) w.beginning p.beginning (valued vs) i o t)))
        | inr o ↦
            let e : i ≡ n = omega (arith, l, long f g τ υ stamp rτ rυ more, o) in
            some_right (λ r. (r.values ≡ vs) × (r.first ≡ i)) kept news (subst (λ (m : ℕ). SomeOf (λ r. (r.values ≡ vs) × (r.first ≡ m)) news) (sym e) (new.all vs v (subst (λ (m : ℕ). Truth g υ (source s) (valued vs) m) e t)))
      ];
    }
