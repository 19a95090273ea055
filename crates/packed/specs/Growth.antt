-- What a commit and a late fact do to the items, and what stays so of a journal's bytes.
use Rattle.std.specs.Prelude.{◌≡◌, ℕ, zero, suc, ◌+◌, ◌*◌, ◌<◌, ◌≤◌, Bool, true, false, ◌&&◌, ◌||◌, List, [], ◌∷◌, ◌++◌, length, Ok, ◌==◌, nat_lt, refl}
use Rattle.std.proofs.Common.{sym, ap, subst, ◌∙◌, append-nil, inl, inr, arith, length-append}
use Rattle.std.proofs.Math.Bool.{or_assoc}
use Rattle.std.proofs.lemmas.Bool.{and_parts, and_from, and_right, eq-eqb, ne_eqb, ltb-true, lt-ltb, cases_Bool, false≢true}
use Rattle.refusal.specs.Causes.{refusal_at}
use Rattle.refusal.specs.declared.Cause.TheVariants.{BadFact}
use Rattle.facts.specs.declared.Fact.{Fact}
use Rattle.facts.specs.Tuples.{arguments, same, is_fact, among, recordable}
use Rattle.facts.proofs.Orders.{same_is}
use Rattle.facts.proofs.Tuples.{three_taken}
use Rattle.journal.specs.Trace.{sound_from, Added, rising}
use Rattle.packed.specs.declared.packed.Packed.{Packed}
use Rattle.packed.specs.Format.{Item, mark, fact, encode, headed, more, items, whole, items_of, Whole, Puts}
use Rattle.packed.specs.Journal.{used}
use Rattle.journal.proofs.Stamps.{rising_more}
use Rattle.packed.specs.Meaning.{width, written, all_written, stamps, held, next_from, placed, bytes_facts}
use Rattle.packed.specs.Batch.{sound_parts}
use Rattle.packed.specs.Coding.{puts_encoded}

-- the stamps
stamps_append : (xs ys : List Item) → stamps (xs ++ ys) ≡ stamps xs ++ stamps ys
stamps_append [] ys = refl
stamps_append (mark s ∷ xs) ys = ap (λ (l : List ℕ). s ∷ l) (stamps_append xs ys)
stamps_append (fact q p vs ∷ xs) ys = stamps_append xs ys

stamps_written : (p : ℕ) (fs : List Fact) → stamps (all_written p fs) ≡ []
stamps_written p [] = refl
stamps_written p (x ∷ fs) = stamps_written p fs

next_more : (ss : List ℕ) (n s : ℕ) → next_from n (ss ++ s ∷ []) ≡ s + 1
next_more [] n s = refl
next_more (t ∷ ss) n s = next_more ss (t + 1) s

-- the positions
placed_append : (xs ys : List Item) (n : ℕ) → placed xs n ≡ true → placed ys n ≡ true → placed (xs ++ ys) n ≡ true
placed_append [] ys n a b = b
placed_append (mark s ∷ xs) ys n a b = placed_append xs ys n a b
placed_append (fact q p vs ∷ xs) ys n a b = let z = and_parts (nat_lt p n) (placed xs n) a in and_from _ _ z.0 (placed_append xs ys n z.1 b)

placed_more : (xs : List Item) (m n : ℕ) → m ≤ n → placed xs m ≡ true → placed xs n ≡ true
placed_more [] m n h a = refl
placed_more (mark s ∷ xs) m n h a = placed_more xs m n h a
placed_more (fact q p vs ∷ xs) m n h a =
    let z = and_parts (nat_lt p m) (placed xs m) a in
    and_from _ _ (lt-ltb p n (omega (arith, ltb-true p m z.0))) (placed_more xs m n h z.1)

placed_written : (p n : ℕ) (fs : List Fact) → p < n → placed (all_written p fs) n ≡ true
placed_written p n [] h = refl
placed_written p n (x ∷ fs) h = and_from _ _ (lt-ltb p n h) (placed_written p n fs h)

pub held_beyond : (xs : List Item) (n p q : ℕ) (vs : List ℕ) → placed xs n ≡ true → n ≤ p → held xs p q vs ≡ false
held_beyond [] n p q vs a h = refl
held_beyond (mark s ∷ xs) n p q vs a h = held_beyond xs n p q vs a h
held_beyond (fact r m ws ∷ xs) n p q vs a h =
    let z = and_parts (nat_lt m n) (placed xs n) a in
    let lt : m < n = ltb-true m n z.0 in
    rw (ne_eqb p m (λ e. omega (arith, e))) (held_beyond xs n p q vs z.1 h)

-- the facts
held_append : (xs ys : List Item) (p q : ℕ) (vs : List ℕ) → held (xs ++ ys) p q vs ≡ (held xs p q vs || held ys p q vs)
held_append [] ys p q vs = refl
held_append (mark s ∷ xs) ys p q vs = held_append xs ys p q vs
held_append (fact r n ws ∷ xs) ys p q vs =
    ap (λ (b : Bool). (p == n && (r == q && same ws vs)) || b) (held_append xs ys p q vs)
    ∙ sym (or_assoc (p == n && (r == q && same ws vs)) (held xs p q vs) (held ys p q vs))

pub same_long : (ws vs : List ℕ) → same ws vs ≡ (length ws == length vs && same ws vs)
same_long ws vs = elim (cases_Bool (same ws vs)) [
  | inl t ↦ t ∙ sym (and_from _ _ (eq-eqb (length ws) (length vs) (ap (λ (l : List ℕ). length l) (same_is ws vs t))) t)
  | inr f ↦ f ∙ sym (and_right (length ws == length vs) (same ws vs) f)
]

is_written : (x : Fact) (q : ℕ) (vs : List ℕ) → recordable x ≡ true → (x.predicate == q && same (arguments x) vs) ≡ is_fact q vs x
is_written x q vs h =
    let n : length (arguments x) ≡ x.values.count = three_taken x.values.count x.values.first (ltb-true x.values.count 4 (and_parts (nat_lt x.predicate 32) (nat_lt x.values.count 4) h).1) in
    ap (λ (b : Bool). (x.predicate == q) && b) (same_long (arguments x) vs ∙ ap (λ (k : ℕ). (k == length vs) && same (arguments x) vs) n)

spread : (t b c d : Bool) → d ≡ (t && c) → ((t && b) || d) ≡ (t && (b || c))
spread true b c d e = ap (λ (z : Bool). b || z) e
spread false b c d e = e

none_there : (t : Bool) → false ≡ (t && false)
none_there true = refl
none_there false = refl

held_written : (k i p q : ℕ) (vs : List ℕ) (fs : List Fact) → sound_from i fs ≡ Ok tt → held (all_written k fs) p q vs ≡ (p == k && among q vs fs)
held_written k i p q vs [] h = none_there (p == k)
held_written k i p q vs (x ∷ fs) h =
    let z = sound_parts (recordable x) (sound_from (i + 1) fs) (refusal_at BadFact i) h in
    ap (λ (b : Bool). (p == k && b) || held (all_written k fs) p q vs) (is_written x q vs z.0)
    ∙ spread (p == k) (is_fact q vs x) (among q vs fs) (held (all_written k fs) p q vs) (held_written k (i + 1) p q vs fs z.1)

-- five bytes for each mark
marks_below : (k : ℕ) (bs : List ℕ) → whole width k bs ≡ true → 5 * length (stamps (items width k bs)) + k ≤ length bs
unfolding whole items
marks_below zero [] h = omega arith
marks_below (suc k) [] h = absurd (false≢true h)
marks_below (suc k) (b ∷ bs) h = omega (arith, marks_below k bs h)
marks_below zero (b ∷ bs) h =
    let p = and_parts (headed b) (whole width (more width b) bs) h in
    let r = marks_below (more width b) bs p.1 in
    elim (cases_Bool (b == 255)) [
      | inl t ↦ rw (t) (omega (arith, rw t at r))
      | inr f ↦ rw (f) (omega (arith, rw f at r))
    ]

pub marks_few : (bs : List ℕ) → Whole width bs → 5 * length (stamps (items_of width bs)) ≤ length bs
marks_few bs h = omega (arith, marks_below 0 bs h)

-- what is so of the bytes of a journal that shows n positions and takes stamps from next on
pub record Kept (bs : List ℕ) (n next : ℕ) : Type 0 where
  pub whole : Whole width bs
  pub encoded : encode width (items_of width bs) ≡ bs
  pub counted : n ≡ length (stamps (items_of width bs))
  pub following : next ≡ next_from 0 (stamps (items_of width bs))
  pub placed : placed (items_of width bs) n ≡ true
  pub rising : rising 0 (stamps (items_of width bs)) next ≡ true

pub kept : (j : Packed) → Kept (used j) j.shown j.next
kept j = record { whole = j.items.whole; encoded = j.items.encoded; counted = j.counted; following = j.following; placed = j.placed; rising = j.rising }

pub kept_empty : (bs : List ℕ) → bs ≡ [] → Kept bs 0 0
unfolding whole items
kept_empty bs e = subst (λ (l : List ℕ). Kept l 0 0) (sym e) (record { whole = refl; encoded = refl; counted = refl; following = refl; placed = refl; rising = refl })

-- a commit
module _ (was now : List ℕ) (n next s : ℕ) (fs : List Fact) (old : Kept was n next) (h : next ≤ s) (puts : Puts width was now (mark s ∷ all_written n fs)) where
  pub commit_stamps : stamps (items_of width now) ≡ stamps (items_of width was) ++ s ∷ []
  commit_stamps =
      ap stamps puts.items ∙ stamps_append (items_of width was) (mark s ∷ all_written n fs)
      ∙ ap (λ (l : List ℕ). stamps (items_of width was) ++ (s ∷ l)) (stamps_written n fs)

  pub commit_kept : Kept now (n + 1) (s + 1)
  commit_kept = record {
    whole = puts.whole;
    encoded = puts_encoded width was now (mark s ∷ all_written n fs) old.encoded puts;
    counted = omega (arith, old.counted, ap (λ (l : List ℕ). length l) commit_stamps, length-append (stamps (items_of width was)) (s ∷ []));
    following = sym (ap (next_from 0) commit_stamps ∙ next_more (stamps (items_of width was)) 0 s);
    placed = ap (λ (l : List Item). placed l (n + 1)) puts.items
        ∙ placed_append (items_of width was) (mark s ∷ all_written n fs) (n + 1) (placed_more (items_of width was) n (n + 1) (omega arith) old.placed) (placed_written n (n + 1) fs (omega arith));
    rising = ap (λ (l : List ℕ). rising 0 l (s + 1)) commit_stamps ∙ rising_more 0 next (stamps (items_of width was)) s old.rising h;
  }

  pub commit_added : sound_from 0 fs ≡ Ok tt → Added (bytes_facts was) (bytes_facts now) n fs
  commit_added sound = record {
    needs = λ q m. refl;
    holds = λ p q vs. ap (λ (l : List Item). held l p q vs) puts.items ∙ held_append (items_of width was) (mark s ∷ all_written n fs) p q vs
        ∙ ap (λ (b : Bool). held (items_of width was) p q vs || b) (held_written n 0 p q vs fs sound);
  }

-- a late fact
module _ (was now : List ℕ) (n next p : ℕ) (x : Fact) (old : Kept was n next) (h : p < n) (puts : Puts width was now (written p x ∷ [])) where
  pub late_stamps : stamps (items_of width now) ≡ stamps (items_of width was)
  late_stamps = ap stamps puts.items ∙ stamps_append (items_of width was) (written p x ∷ []) ∙ append-nil (stamps (items_of width was))

  pub late_kept : Kept now n next
  late_kept = record {
    whole = puts.whole;
    encoded = puts_encoded width was now (written p x ∷ []) old.encoded puts;
    counted = old.counted ∙ sym (ap (λ (l : List ℕ). length l) late_stamps);
    following = old.following ∙ sym (ap (next_from 0) late_stamps);
    placed = ap (λ (l : List Item). placed l n) puts.items ∙ placed_append (items_of width was) (written p x ∷ []) n old.placed (placed_written p n (x ∷ []) h);
    rising = ap (λ (l : List ℕ). rising 0 l next) late_stamps ∙ old.rising;
  }

  pub late_added : recordable x ≡ true → Added (bytes_facts was) (bytes_facts now) p (x ∷ [])
  late_added sound = record {
    needs = λ q m. refl;
    holds = λ k q vs. ap (λ (l : List Item). held l k q vs) puts.items ∙ held_append (items_of width was) (written p x ∷ []) k q vs
        ∙ ap (λ (b : Bool). held (items_of width was) k q vs || b) (held_written p 0 k q vs (x ∷ []) (rw sound refl));
  }
