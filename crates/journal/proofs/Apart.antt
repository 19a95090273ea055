-- Two commits above the layers, seen from below.
use Rattle.std.proofs.Common.{◌≡◌, ℕ, ◌+◌, ◌-◌, ◌^◌, ◌<◌, ◌≤◌, Bool, true, false, cond, ◌&&◌, ◌||◌, eqb, ltb, List, [], ◌∷◌, ◌++◌, take, drop, is_ok, Ok, Err, Result, sym, ap, ◌∙◌, subst, inl, inr, append_assoc, arith}
use mathlib.Core.Bool.{or-false}
use Rattle.std.specs.Result.{result_and}
use Rattle.std.proofs.lemmas.List.{take-append-drop}
use Rattle.std.proofs.lemmas.Bool.{ne_eqb, eq-eqb, cases_eq, lt-ltb, and_right, cases_Bool, cases_lt, false≢true}
use Rattle.refusal.specs.declared.Refusal.{Refusal}
use Rattle.facts.specs.declared.Fact.{Fact}
use Rattle.facts.specs.Facts.{Facts}
use Rattle.facts.specs.Tuples.{among}
use Rattle.journal.specs.Trace.{Trace, own, shown, sound_from, commit_answer}
use Rattle.journal.specs.Layers.{merged, Beside, shifted, later, Behind}
use Rattle.journal.specs.Twice.{two_answer, Twice}
use Rattle.journal.specs.LayersLemmas.{Recorded, recorded, first_ok}
use Rattle.journal.specs.Sessions.{shown_later}

-- neither of the two positions
neither : (h k : Bool) (e d x y : Bool) → h ≡ k → e ≡ false → d ≡ false → h ≡ (k || ((e && x) || (d && y)))
neither h k e d x y s p q = s ∙ sym (rw (p, q) (or-false k))

module _ (f g : Facts) (t u : Trace) (few : shown t ≤ 65536) (a : ℕ) (xs : List Fact) (b : ℕ) (ys : List Fact)
    (w : Twice (shifted f (shown t)) (later t (shown t)) (shifted g (shown t)) (later u (shown t)) a xs b ys) (o : Behind f t g u (shown t)) where
  none : shown (later t (shown t)) ≡ 0
  none = shown_later t (shown t) ∙ omega arith

  above : (p q : ℕ) (vs : List ℕ) → p + shown t < 2 ^ 64
      → g.holds (p + shown t) q vs ≡ (f.holds (p + shown t) q vs || ((eqb p 0 && among q vs xs) || (eqb p 1 && among q vs ys)))
  above p q vs h =
      let near : ltb (p + shown t) (2 ^ 64) ≡ true = lt-ltb _ _ h in
      let e : (ltb (p + shown t) (2 ^ 64) && g.holds (p + shown t) q vs) ≡ ((ltb (p + shown t) (2 ^ 64) && f.holds (p + shown t) q vs) || ((eqb p 0 && among q vs xs) || (eqb p (0 + 1) && among q vs ys))) =
      subst (λ (n : ℕ). (ltb (p + shown t) (2 ^ 64) && g.holds (p + shown t) q vs) ≡ ((ltb (p + shown t) (2 ^ 64) && f.holds (p + shown t) q vs) || ((eqb p n && among q vs xs) || (eqb p (n + 1) && among q vs ys)))) none (w.holds p q vs) in
      subst (λ (c : Bool). (c && g.holds (p + shown t) q vs) ≡ ((c && f.holds (p + shown t) q vs) || ((eqb p 0 && among q vs xs) || (eqb p 1 && among q vs ys)))) near e

  shift : (p k : ℕ) → eqb p k ≡ eqb (p + shown t) (k + shown t)
  shift p k = elim (cases_eq p k) [
    | inl e ↦ eq-eqb p k e ∙ sym (eq-eqb (p + shown t) (k + shown t) (omega (arith, e)))
    | inr n ↦ ne_eqb p k n ∙ sym (ne_eqb (p + shown t) (k + shown t) (λ e. n (omega (arith, e))))
  ]

  at_first : (p : ℕ) → eqb p 0 ≡ eqb (p + shown t) (shown t)
  at_first p = shift p 0 ∙ ap (eqb (p + shown t)) (omega arith)

  at_second : (p : ℕ) → eqb p 1 ≡ eqb (p + shown t) (shown t + 1)
  at_second p = shift p 1 ∙ ap (eqb (p + shown t)) (omega arith)

  holds : (p q : ℕ) (vs : List ℕ) → g.holds p q vs ≡ (f.holds p q vs || ((eqb p (shown t) && among q vs xs) || (eqb p (shown t + 1) && among q vs ys)))
  holds p q vs = elim (cases_lt p (shown t)) [
    | inl l ↦ neither _ _ _ _ _ _ (o.holds p q vs l) (ne_eqb p (shown t) (λ e. omega (arith, e, l))) (ne_eqb p (shown t + 1) (λ e. omega (arith, e, l)))
    | inr l ↦ elim (cases_lt p (2 ^ 64)) [
      | inl n ↦
          let e : p - shown t + shown t ≡ p = omega (arith, l) in
          subst (λ (m : ℕ). g.holds m q vs ≡ (f.holds m q vs || ((eqb m (shown t) && among q vs xs) || (eqb m (shown t + 1) && among q vs ys)))) e
          (above (p - shown t) q vs (omega (arith, e, n)) ∙ (λ i. f.holds (p - shown t + shown t) q vs || ((at_first (p - shown t) i && among q vs xs) || (at_second (p - shown t) i && among q vs ys))))
      | inr n ↦ neither _ _ _ _ _ _ (o.far p q vs n) (ne_eqb p (shown t) (λ e. omega (arith, e, n, few))) (ne_eqb p (shown t + 1) (λ e. omega (arith, e, n, few)))
    ]
  ]

  pub twice_behind : Twice f t g u a xs b ys
  twice_behind = record {
    needs = w.needs;
    holds = holds;
    stamps = sym (take-append-drop (shown t) u.stamps) ∙ (λ i. o.stamps i ++ w.stamps i)
        ∙ sym (append_assoc (take (shown t) t.stamps) (drop (shown t) t.stamps) (a ∷ b ∷ []))
        ∙ ap (λ (l : List ℕ). l ++ (a ∷ b ∷ [])) (take-append-drop (shown t) t.stamps);
    next = w.next;
    free = w.free;
    mark = w.mark;
    fact = w.fact;
  }

-- both commits have facts that a journal takes
two_recorded : (t : Trace) (a : ℕ) (xs : List Fact) (b : ℕ) (ys : List Fact) → is_ok (two_answer t a xs b ys) ≡ true → Recorded xs × Recorded ys
two_recorded t a xs b ys h = (
  recorded 0 xs (first_ok (sound_from 0 xs) _ (first_ok (commit_answer t a xs) _ h)),
  recorded 0 ys (first_ok (sound_from 0 ys) _ (second_ok (commit_answer t a xs) _ h)),
)
  where
    second_ok : (x y : Result (Unit {0}) Refusal) → is_ok (result_and x y) ≡ true → is_ok y ≡ true
    second_ok (Ok _) y h = h
    second_ok (Err e) y h = absurd (false≢true h)

pub twice_beside : (f g k : Facts) (t u v : Trace) (a : ℕ) (xs : List Fact) (b : ℕ) (ys : List Fact) → is_ok (two_answer v a xs b ys) ≡ true
    → Twice (merged f k) t (merged g k) u a xs b ys → Beside f g → Twice f t g u a xs b ys
twice_beside f g k t u v a xs b ys ok w o =
    let r = two_recorded v a xs b ys ok in
    record {
      needs = λ q n. elim (cases_Bool (own q)) [
        | inl y ↦ subst (λ (c : Bool). cond c (g.needs q n) (k.needs q n) ≡ cond c (f.needs q n) (k.needs q n)) y (w.needs q n)
        | inr y ↦ o.needs q n y
      ];
      holds = λ p q vs. elim (cases_Bool (own q)) [
        | inl y ↦ subst (λ (c : Bool). cond c (g.holds p q vs) (k.holds p q vs) ≡ (cond c (f.holds p q vs) (k.holds p q vs) || ((eqb p (shown t) && among q vs xs) || (eqb p (shown t + 1) && among q vs ys)))) y (w.holds p q vs)
        | inr y ↦ o.holds p q vs y ∙ sym (rw (and_right (eqb p (shown t)) (among q vs xs) (r.0 q vs y), and_right (eqb p (shown t + 1)) (among q vs ys) (r.1 q vs y)) (or-false (f.holds p q vs)))
      ];
      stamps = w.stamps;
      next = w.next;
      free = w.free;
      mark = w.mark;
      fact = w.fact;
    }

-- a session that was made over a joined layer, before (i, k, base) and after (j, l, base) two commits that were taken
pub apart : {J S : Type 0} (f : J → Facts) (h : S → Facts) (m : J → Trace) (i j : J) (k l : S) (c d : ℕ) (v : Trace) (a : ℕ) (xs : List Fact) (b : ℕ) (ys : List Fact)
    → shown (m i) ≤ 65536 → c ≡ shown (m i) → d ≡ c → l ≡ k → Beside (f i) (f j) → is_ok (two_answer v a xs b ys) ≡ true
    → Behind (merged (f i) (h k)) (m i) (merged (f j) (h l)) (m j) c
    → Twice (shifted (merged (f i) (h k)) c) (later (m i) c) (shifted (merged (f j) (h l)) d) (later (m j) d) a xs b ys
    → Twice (f i) (m i) (f j) (m j) a xs b ys
apart {S = S} f h m i j k l c d v a xs b ys few ec ed es beside ok behind w =
    let w₁ = subst (λ (n : ℕ). Twice (shifted (merged (f i) (h k)) c) (later (m i) c) (shifted (merged (f j) (h l)) n) (later (m j) n) a xs b ys) ed w in
    let w₂ = subst (λ (n : ℕ). Twice (shifted (merged (f i) (h k)) n) (later (m i) n) (shifted (merged (f j) (h l)) n) (later (m j) n) a xs b ys) ec w₁ in
    let w₃ = subst (λ (o : S). Twice (shifted (merged (f i) (h k)) (shown (m i))) (later (m i) (shown (m i))) (shifted (merged (f j) (h o)) (shown (m i))) (later (m j) (shown (m i))) a xs b ys) es w₂ in
    let b₂ = subst (λ (n : ℕ). Behind (merged (f i) (h k)) (m i) (merged (f j) (h l)) (m j) n) ec behind in
    let b₃ = subst (λ (o : S). Behind (merged (f i) (h k)) (m i) (merged (f j) (h o)) (m j) (shown (m i))) es b₂ in
    twice_beside (f i) (f j) (h k) (m i) (m j) v a xs b ys ok (twice_behind (merged (f i) (h k)) (merged (f j) (h k)) (m i) (m j) few a xs b ys w₃ b₃) beside
