-- Two commits in a row: the answers and the changes compose.
use Rattle.std.proofs.Common.{◌≡◌, ℕ, ◌+◌, ◌-◌, ◌^◌, ◌<◌, ◌≤◌, Bool, true, false, ◌&&◌, ◌||◌, eqb, ltb, List, [], ◌∷◌, ◌++◌, length, is_ok, Ok, Err, Result, sym, refl, ap, ◌∙◌, subst, true≢false, append_assoc, arith, length-append}
use mathlib.Core.Bool.{or_assoc, or-false}
use Rattle.std.specs.Result.{result_and}
use Rattle.std.proofs.lemmas.Bool.{ne_eqb, le-leb, ltb-false, and_from, false≢true}
use Rattle.refusal.specs.Causes.{refusal_at}
use Rattle.refusal.specs.declared.Cause.TheVariants.{StampTooLow, NoRoom}
use Rattle.refusal.specs.declared.Refusal.{Refusal}
use Rattle.facts.specs.declared.Fact.{Fact}
use Rattle.facts.specs.Facts.{Facts}
use Rattle.facts.specs.Tuples.{among}
use Rattle.journal.specs.Trace.{Trace, shown, costs, sound_from, unless, commit_answer, Grown, Commits, Lengthens}
use Rattle.journal.specs.Twice.{committed, Twice, CommitsTwo}

costs_like : (c d : ℕ → ℕ) (xs : List Fact) → ((n : ℕ) → d n ≡ c n) → costs d xs ≡ costs c xs
costs_like c d [] e = refl
costs_like c d (x ∷ xs) e = λ i. e x.values.count i + costs_like c d xs e i

-- a commit that is taken has a stamp that is allowed
allowed_stamp : (t : Trace) (s : ℕ) (xs : List Fact) → is_ok (commit_answer t s xs) ≡ true → t.next ≤ s
allowed_stamp t s xs o = ltb-false s t.next (go (sound_from 0 xs) (ltb s t.next) _ o)
  where
    go : (x : Result (Unit {0}) Refusal) (b : Bool) (z : Result (Unit {0}) Refusal) → is_ok (result_and x (result_and (unless b (refusal_at StampTooLow (shown t))) z)) ≡ true → b ≡ false
    go (Ok _) true z h = absurd (false≢true h)
    go (Ok _) false z h = refl
    go (Err e) b z h = absurd (false≢true h)

one_more : (f g : Facts) (t u : Trace) (s : ℕ) (xs : List Fact) → Grown f t g u s xs → shown u ≡ shown t + 1
one_more f g t u s xs w = ap length w.stamps ∙ length-append t.stamps (s ∷ [])

module _ (f g : Facts) (t u : Trace) (a : ℕ) (xs : List Fact) (w : Grown f t g u a xs) where
  -- the second answer is that of the trace after the first commit
  pub second_answer : (b : ℕ) (ys : List Fact) → commit_answer u b ys ≡ commit_answer (committed t a xs) b ys
  second_answer b ys =
      let es : shown u ≡ shown (committed t a xs) = ap length w.stamps in
      let ef : u.free ≡ t.free - (t.mark + costs t.fact xs) = omega (arith, w.free) in
      let ec : costs u.fact ys ≡ costs t.fact ys = costs_like t.fact u.fact ys w.fact in
      λ i. result_and (sound_from 0 ys) (result_and (unless (ltb b (w.next i)) (refusal_at StampTooLow (es i))) (unless (ltb (ef i) (w.mark i + ec i)) (refusal_at NoRoom (es i))))

  module _ (h : Facts) (v : Trace) (b : ℕ) (ys : List Fact) (z : Grown g u h v b ys) where
    holds : (p q : ℕ) (vs : List ℕ) → h.holds p q vs ≡ (f.holds p q vs || ((eqb p (shown t) && among q vs xs) || (eqb p (shown t + 1) && among q vs ys)))
    holds p q vs =
        z.facts.holds p q vs
        ∙ (λ i. w.facts.holds p q vs i || (eqb p (one_more f g t u a xs w i) && among q vs ys))
        ∙ or_assoc (f.holds p q vs) (eqb p (shown t) && among q vs xs) (eqb p (shown t + 1) && among q vs ys)

    pub twice : Twice f t h v a xs b ys
    twice = record {
      needs = λ q n. z.facts.needs q n ∙ w.facts.needs q n;
      holds = holds;
      stamps = z.stamps ∙ ap (λ (l : List ℕ). l ++ (b ∷ [])) w.stamps ∙ append_assoc t.stamps (a ∷ []) (b ∷ []);
      next = z.next;
      free = omega (arith, z.free, w.free, w.mark, costs_like t.fact u.fact ys w.fact);
      mark = z.mark ∙ w.mark;
      fact = λ n. z.fact n ∙ w.fact n;
    }

    pub two_lengthen : t.next ≤ a → u.next ≤ b → b < 2 ^ 32 → Lengthens f t h v
    two_lengthen ta ub bl = record {
      further = a ∷ b ∷ [];
      stamps = twice.stamps;
      allowed = and_from _ _ (le-leb t.next a ta) (and_from _ _ (le-leb (a + 1) b (omega (arith, ub, w.next))) (le-leb (b + 1) (2 ^ 32) (omega (arith, bl))));
      facts = λ p q vs l. holds p q vs ∙ rw (ne_eqb p (shown t) (λ e. omega (arith, e, l)), ne_eqb p (shown t + 1) (λ e. omega (arith, e, l))) (or-false (f.holds p q vs));
    }

module _ {J : Type 0} (f : J → Facts) (m : J → Trace) (i j k : J) (a : ℕ) (xs : List Fact) (b : ℕ) (ys : List Fact) where
  -- where the first commit is taken, the second decides
  pub after_first : (r : Result (Unit {0}) Refusal) → b < 2 ^ 32 → Commits f m i j a xs (Ok tt) → Commits f m j k b ys r → CommitsTwo f m i k a xs b ys r
  after_first r bl p q =
      let w = p.taken refl in
      let ok : is_ok (commit_answer (m i) a xs) ≡ true = sym (ap is_ok p.answer) in
      record {
        answer = q.answer ∙ second_answer (f i) (f j) (m i) (m j) a xs w b ys ∙ ap (λ (c : Result (Unit {0}) Refusal). result_and c (commit_answer (committed (m i) a xs) b ys)) p.answer;
        taken = λ o. twice (f i) (f j) (m i) (m j) a xs w (f k) (m k) b ys (q.taken o);
        lengthens = λ o. two_lengthen (f i) (f j) (m i) (m j) a xs w (f k) (m k) b ys (q.taken o) (allowed_stamp (m i) a xs ok) (allowed_stamp (m j) b ys (ap is_ok (sym q.answer) ∙ o)) bl;
        half = λ o y. subst (λ (l : J). Grown (f i) (m i) (f l) (m l) a xs) (sym (q.refused o)) w;
        refused = λ n. absurd (true≢false (sym ok ∙ n));
      }

  -- where it is refused, nothing changes
  pub first_refused : (e : Refusal) → Commits f m i j a xs (Err e) → CommitsTwo f m i j a xs b ys (Err e)
  first_refused e p = record {
    answer = ap (λ (c : Result (Unit {0}) Refusal). result_and c (commit_answer (committed (m i) a xs) b ys)) p.answer;
    taken = λ o. absurd (true≢false (sym o));
    lengthens = λ o. absurd (true≢false (sym o));
    half = λ o y. absurd (true≢false (sym y ∙ sym (ap is_ok p.answer)));
    refused = λ n. p.refused refl;
  }
