-- What a session makes of the answers and the changes below.
use Rattle.std.specs.Prelude.{◌≡◌, ℕ, zero, suc, ◌+◌, ◌-◌, ◌^◌, ◌<◌, ◌≤◌, Bool, true, false, not, ◌&&◌, ◌||◌, List, [], ◌∷◌, length, take, drop, Ok, Err, Result, ◌==◌, ◌≢◌, nat_le, nat_lt, slice_index, refl}
use Rattle.std.proofs.Common.{sym, ap, subst, ◌∙◌, inl, inr, arith, length-drop, length-append}
use Rattle.std.specs.Result.{result_and}
use Rattle.std.specs.List.{slice_get}
use Rattle.std.proofs.lemmas.List.{take-append-le, drop-append-le, get_or-drop}
use Rattle.std.proofs.Math.Bool.{or-false}
use Rattle.std.proofs.lemmas.Bool.{ne_eqb, eq-eqb, and_right, cases_Bool, cases_eq, ltb-false, lt-leb, le-leb}
use Rattle.refusal.specs.Causes.{refusal_at}
use Rattle.refusal.specs.declared.Cause.TheVariants.{BadFact, StampTooLow, NoRoom, NotShown}
use Rattle.refusal.specs.declared.Refusal.{Refusal}
use Rattle.facts.specs.declared.Fact.{Fact}
use Rattle.facts.specs.Facts.{Facts}
use Rattle.facts.specs.Tuples.{among, recordable}
use Rattle.journal.specs.Trace.{Trace, Added, Grown, Noted, Orderly, sound_from, unless, costs, commit_answer, late_answer, shown, stamp_at}
use Rattle.journal.specs.Layers.{shifted, later, Behind, own_place}

-- the stamps of later positions
pub nth_later : (b : ℕ) (xs : List ℕ) (p : ℕ) → slice_get xs (p + b) ≡ slice_get (drop b xs) p
nth_later zero xs p = ap (slice_get xs) (omega arith)
nth_later (suc b) [] p = refl
nth_later (suc b) (x ∷ xs) p = ap (slice_get (x ∷ xs)) (let e : p + suc b ≡ suc (p + b) = omega arith in e) ∙ nth_later b xs p

shifted_eqb : (p b k : ℕ) → b ≤ k → (p + b == k) ≡ (p == k - b)
shifted_eqb p b k h = elim (cases_eq (p + b) k) [
  | inl e ↦ eq-eqb (p + b) k e ∙ sym (eq-eqb p (k - b) (omega (arith, e)))
  | inr n ↦ ne_eqb (p + b) k n ∙ sym (ne_eqb p (k - b) (λ e. n (omega (arith, e))))
]

module _ (f g : Facts) (k b : ℕ) (xs : List Fact) (a : Added f g k xs) (h : b ≤ k) (l : k < 2 ^ 64) where
  pub added_later : Added (shifted f b) (shifted g b) (k - b) xs
  added_later = record {
    needs = a.needs;
    holds = λ p q vs. elim (cases_Bool (nat_lt (p + b) (2 ^ 64))) [
      | inl o ↦ rw o (a.holds (p + b) q vs ∙ ap (λ (e : Bool). f.holds (p + b) q vs || (e && among q vs xs)) (shifted_eqb p b k h))
      | inr o ↦ let far : 2 ^ 64 ≤ p + b = ltb-false (p + b) (2 ^ 64) o in
          rw (o, ne_eqb p (k - b) (λ e. omega (arith, e, far))) refl
    ];
  }

  untouched : (p q : ℕ) (vs : List ℕ) → (p ≢ k) → g.holds p q vs ≡ f.holds p q vs
  untouched p q vs n = a.holds p q vs ∙ rw (ne_eqb p k n) (or-false (f.holds p q vs))

  pub added_behind : (t u : Trace) → take b u.stamps ≡ take b t.stamps → Behind f t g u b
  added_behind t u s = record {
    stamps = s;
    holds = λ p q vs m. untouched p q vs (λ e. omega (arith, e));
    far = λ p q vs m. untouched p q vs (λ e. omega (arith, e));
  }

pub behind_self : (f : Facts) (t : Trace) (b : ℕ) → Behind f t f t b
behind_self f t b = record { stamps = refl; holds = λ p q vs m. refl; far = λ p q vs m. refl }

pub behind_along : (f g h : Facts) (t u v : Trace) (b c : ℕ) → c ≡ b → Behind f t g u b → Behind g u h v c → Behind f t h v b
behind_along f g h t u v b c e x y = record {
  stamps = subst (λ (n : ℕ). take n v.stamps ≡ take n u.stamps) e y.stamps ∙ x.stamps;
  holds = λ p q vs m. y.holds p q vs (omega (arith, e, m)) ∙ x.holds p q vs m;
  far = λ p q vs m. y.far p q vs m ∙ x.far p q vs m;
}

-- the answers, with places in the session's own numbers
abbrev pub owned : Result (Unit {0}) Refusal → ℕ → Result (Unit {0}) Refusal
owned (Ok _) b = Ok tt
owned (Err e) b = Err (own_place e b)

sound_owned : (b i : ℕ) (xs : List Fact) → owned (sound_from i xs) b ≡ sound_from i xs
sound_owned b i [] = refl
sound_owned b i (x ∷ xs) = elim (cases_Bool (recordable x)) [ inl o ↦ rw o (sound_owned b (i + 1) xs) | inr o ↦ rw o refl ]

then_owned : (b : ℕ) (x y : Result (Unit {0}) Refusal) → owned (result_and x y) b ≡ result_and (owned x b) (owned y b)
then_owned b (Ok _) y = refl
then_owned b (Err e) y = refl

unless_owned : (b : ℕ) (t : Bool) (e : Refusal) → owned (unless t e) b ≡ unless t (own_place e b)
unless_owned b true e = refl
unless_owned b false e = refl

pub shown_later : (t : Trace) (b : ℕ) → shown (later t b) ≡ shown t - b
shown_later t b = length-drop b t.stamps

pub commit_owned : (t : Trace) (b s : ℕ) (xs : List Fact) → owned (commit_answer t s xs) b ≡ commit_answer (later t b) s xs
commit_owned t b s xs =
    let rest : owned (result_and (unless (nat_lt s t.next) (refusal_at StampTooLow (shown t))) (unless (nat_lt t.free (t.mark + costs t.fact xs)) (refusal_at NoRoom (shown t)))) b
    ≡ result_and (unless (nat_lt s t.next) (refusal_at StampTooLow (shown t - b))) (unless (nat_lt t.free (t.mark + costs t.fact xs)) (refusal_at NoRoom (shown t - b))) =
    then_owned b (unless (nat_lt s t.next) (refusal_at StampTooLow (shown t))) (unless (nat_lt t.free (t.mark + costs t.fact xs)) (refusal_at NoRoom (shown t)))
    ∙ (λ i. result_and (unless_owned b (nat_lt s t.next) (refusal_at StampTooLow (shown t)) i) (unless_owned b (nat_lt t.free (t.mark + costs t.fact xs)) (refusal_at NoRoom (shown t)) i)) in
    then_owned b (sound_from 0 xs) _ ∙ (λ i. result_and (sound_owned b 0 xs i) (rest i))
    ∙ ap (λ (n : ℕ). result_and (sound_from 0 xs) (result_and (unless (nat_lt s t.next) (refusal_at StampTooLow n)) (unless (nat_lt t.free (t.mark + costs t.fact xs)) (refusal_at NoRoom n)))) (sym (shown_later t b))

pub late_owned : (t : Trace) (b p : ℕ) (x : Fact) → p + b < shown t → owned (late_answer t (p + b) x) b ≡ late_answer (later t b) p x
late_owned t b p x h =
    let below : nat_le (shown t) (p + b) ≡ false = lt-leb (shown t) (p + b) h in
    let shown-here : nat_le (shown (later t b)) p ≡ false = lt-leb (shown (later t b)) p (omega (arith, shown_later t b, h)) in
    rw (below, shown-here)
    (then_owned b (unless (not (recordable x)) (refusal_at BadFact 0)) (unless (nat_lt t.free (t.fact x.values.count)) (refusal_at NoRoom (shown t)))
    ∙ (λ i. result_and (unless_owned b (not (recordable x)) (refusal_at BadFact 0) i) (unless_owned b (nat_lt t.free (t.fact x.values.count)) (refusal_at NoRoom (shown t)) i))
    ∙ ap (λ (n : ℕ). result_and (unless (not (recordable x)) (refusal_at BadFact 0)) (unless (nat_lt t.free (t.fact x.values.count)) (refusal_at NoRoom n))) (sym (shown_later t b)))

pub late_unshown : (t : Trace) (b p : ℕ) (x : Fact) → shown t - b ≤ p → Err (refusal_at NotShown p) ≡ late_answer (later t b) p x
late_unshown t b p x h =
    let unshown : nat_le (shown (later t b)) p ≡ true = le-leb (shown (later t b)) p (omega (arith, shown_later t b, h)) in
    rw unshown refl

module _ {J : Type 0} (f : J → Facts) (m : J → Trace) (i j : J) (b : ℕ) (h : b ≤ shown (m i)) (few : shown (m i) ≤ 65536) where
  pub grown_later : (c s : ℕ) (xs : List Fact) → c ≡ b → Grown (f i) (m i) (f j) (m j) s xs → Grown (shifted (f i) b) (later (m i) b) (shifted (f j) c) (later (m j) c) s xs
  grown_later c s xs e w = subst (λ (n : ℕ). Grown (shifted (f i) b) (later (m i) b) (shifted (f j) n) (later (m j) n) s xs) (sym e) (record {
    facts = subst (λ (n : ℕ). Added (shifted (f i) b) (shifted (f j) b) n xs) (sym (shown_later (m i) b)) (added_later (f i) (f j) (shown (m i)) b xs w.facts h (omega arith));
    stamps = ap (drop b) w.stamps ∙ drop-append-le b (m i).stamps (s ∷ []) h;
    next = w.next;
    free = w.free;
    mark = w.mark;
    fact = w.fact;
  })

  pub grown_behind : (s : ℕ) (xs : List Fact) → Grown (f i) (m i) (f j) (m j) s xs → Behind (f i) (m i) (f j) (m j) b
  grown_behind s xs w = added_behind (f i) (f j) (shown (m i)) b xs w.facts h (omega arith) (m i) (m j) (ap (take b) w.stamps ∙ take-append-le b (m i).stamps (s ∷ []) h)

  pub grown_shown : (s : ℕ) (xs : List Fact) → Grown (f i) (m i) (f j) (m j) s xs → b ≤ shown (m j)
  grown_shown s xs w = omega (arith, ap length w.stamps ∙ length-append (m i).stamps (s ∷ []))

  module _ (p k : ℕ) (x : Fact) (e : k ≡ p + b) (l : k < shown (m i)) (w : Noted (f i) (m i) (f j) (m j) k x) where
    pub noted_later : (c : ℕ) → c ≡ b → Noted (shifted (f i) b) (later (m i) b) (shifted (f j) c) (later (m j) c) p x
    noted_later c d = subst (λ (n : ℕ). Noted (shifted (f i) b) (later (m i) b) (shifted (f j) n) (later (m j) n) p x) (sym d) (record {
      facts = subst (λ (n : ℕ). Added (shifted (f i) b) (shifted (f j) b) n (x ∷ [])) (omega (arith, e)) (added_later (f i) (f j) k b (x ∷ []) w.facts (omega (arith, e)) (omega arith));
      stamps = ap (drop b) w.stamps;
      next = w.next;
      free = w.free;
      mark = w.mark;
      fact = w.fact;
    })

    pub noted_behind : Behind (f i) (m i) (f j) (m j) b
    noted_behind = added_behind (f i) (f j) k b (x ∷ []) w.facts (omega (arith, e)) (omega arith) (m i) (m j) (ap (take b) w.stamps)

  pub kept_behind : j ≡ i → Behind (f i) (m i) (f j) (m j) b
  kept_behind e = subst (λ (k : J). Behind (f i) (m i) (f k) (m k) b) (sym e) (behind_self (f i) (m i) b)

-- a session is orderly where the journal below is
pub orderly_later : (f : Facts) (t : Trace) (b : ℕ) → Orderly f t → Orderly (shifted f b) (later t b)
orderly_later f t b w = record {
  rising = λ p q l h. let h' : q < shown t - b = omega (arith, shown_later t b, h) in
      omega (arith, at p, at q, w.rising (p + b) (q + b) (omega arith) (omega arith));
  below = λ p h. omega (arith, at p, w.below (p + b) (omega (arith, shown_later t b, h)));
  last = w.last;
  few = omega (arith, shown_later t b, w.few);
  unshown = λ p q vs o h. and_right (nat_lt (p + b) (2 ^ 64)) (f.holds (p + b) q vs) (w.unshown (p + b) q vs o (omega (arith, shown_later t b, h)));
  needs = w.needs;
}
  where
    at : (p : ℕ) → stamp_at (later t b) p ≡ stamp_at t (p + b)
    at p = get_or-drop b t.stamps p 0 ∙ ap (λ (n : ℕ). slice_index t.stamps n) (omega arith)
