-- What the layers make of the answers and the changes below.
use Rattle.std.specs.Prelude.{◌≡◌, ℕ, ◌+◌, Bool, true, false, cond, ◌&&◌, ◌||◌, List, [], ◌∷◌, length, is_ok, Ok, Err, Option, Result, ◌==◌, nat_lt, refl}
use Rattle.std.proofs.Common.{sym, ap, subst, ◌∙◌, inl, inr}
use Rattle.std.proofs.Math.Bool.{or-false}
use Rattle.std.specs.Result.{result_and}
use Rattle.std.proofs.lemmas.Bool.{and_parts, and_left, and_right, or_from, ne_eqb, both_ways, cases_Bool, false≢true}
use Rattle.refusal.specs.Causes.{refusal_at}
use Rattle.refusal.specs.declared.Cause.TheVariants.{BadFact}
use Rattle.refusal.specs.declared.Refusal.{Refusal}
use Rattle.facts.specs.declared.Fact.{Fact}
use Rattle.facts.specs.declared.Query.{Query}
use Rattle.facts.specs.Facts.{Facts, wanted, answerable, FoundCases, Found}
use Rattle.facts.proofs.Scans.{like}
use Rattle.facts.specs.Tuples.{is_fact, among, recordable, fits}
use Rattle.journal.specs.Trace.{Trace, own, Added, Grown, Commits, sound_from, commit_answer, shown}
use Rattle.journal.specs.Layers.{merged, Beside}

module _ (f g : Facts) (p p' : ℕ) (q : Query) (a : Option (List ℕ))
    (needs : g.needs q.predicate q.given.count ≡ f.needs q.predicate q.given.count)
    (holds : (vs : List ℕ) → g.holds p' q.predicate vs ≡ f.holds p q.predicate vs) where
  same_cases : (r : Result (Option (List ℕ)) Refusal) → FoundCases f p q a r → FoundCases g p' q a r
  same_cases (Ok r) (o, h) = (
    ap (λ K. answerable K q) needs ∙ o,
    like (wanted f p q a) (wanted g p' q a) (λ vs. ap (λ (b : Bool). (length vs == q.given.count) && (b && fits q a vs)) (holds vs)) r h,
  )
  same_cases (Err e) o = ap (λ K. answerable K q) needs ∙ o

  -- a source that has the same facts at a position answers the same
  pub same_found : (r : Result (Option (List ℕ)) Refusal) → Found f p q a r → Found g p' q a r
  same_found r h = record { cases = same_cases r h.cases }

-- facts that a journal takes are of no predicate from 32 up
abbrev pub Recorded : List Fact → Type 0
Recorded xs = (q : ℕ) (vs : List ℕ) → own q ≡ false → among q vs xs ≡ false

other : (x : Fact) (q : ℕ) (vs : List ℕ) → recordable x ≡ true → own q ≡ false → is_fact q vs x ≡ false
other x q vs r o = and_left _ _ (ne_eqb x.predicate q (λ e. both_ways (own q) o (ap own (sym e) ∙ (and_parts (own x.predicate) (nat_lt x.values.count 4) r).0)))

sound_head : (i : ℕ) (x : Fact) (xs : List Fact) (b : Bool) → recordable x ≡ b → is_ok (sound_from i (x ∷ xs)) ≡ true → (recordable x ≡ true) × (is_ok (sound_from (i + 1) xs) ≡ true)
sound_head i x xs true e h = (e, subst (λ (c : Bool). is_ok (cond c (sound_from (i + 1) xs) (Err (refusal_at BadFact i))) ≡ true) e h)
sound_head i x xs false e h = absurd (false≢true (subst (λ (c : Bool). is_ok (cond c (sound_from (i + 1) xs) (Err (refusal_at BadFact i))) ≡ true) e h))

pub recorded : (i : ℕ) (xs : List Fact) → is_ok (sound_from i xs) ≡ true → Recorded xs
recorded i [] h q vs o = refl
recorded i (x ∷ xs) h q vs o =
    let p = sound_head i x xs (recordable x) refl h in
    or_from (is_fact q vs x) (among q vs xs) (other x q vs p.0 o) (recorded (i + 1) xs p.1 q vs o)

pub first_ok : (a b : Result (Unit {0}) Refusal) → is_ok (result_and a b) ≡ true → is_ok a ≡ true
first_ok (Ok _) b h = refl
first_ok (Err e) b h = h

module _ (f g : Facts) (k : ℕ) (xs : List Fact) (a : Added f g k xs) (r : Recorded xs) where
  unaltered : (p q : ℕ) (vs : List ℕ) → own q ≡ false → (f.holds p q vs || (p == k && among q vs xs)) ≡ f.holds p q vs
  unaltered p q vs o = ap (λ (b : Bool). f.holds p q vs || b) (and_right (p == k) (among q vs xs) (r q vs o)) ∙ or-false (f.holds p q vs)

  pub added_beside : Beside f g
  added_beside = record { needs = λ q n o. a.needs q n; holds = λ p q vs o. a.holds p q vs ∙ unaltered p q vs o }

  pub added_merged : (h : Facts) → Added (merged f h) (merged g h) k xs
  added_merged h = record {
    needs = λ q n. ap (λ K. cond (own q) K (h.needs q n)) (a.needs q n);
    holds = λ p q vs. elim (cases_Bool (own q)) [
      | inl o ↦ rw o (a.holds p q vs)
      | inr o ↦ rw o (sym (ap (λ (b : Bool). h.holds p q vs || b) (and_right (p == k) (among q vs xs) (r q vs o)) ∙ or-false (h.holds p q vs)))
    ];
  }

-- the facts of a commit that was taken
pub committed : (t : Trace) (s : ℕ) (xs : List Fact) (r : Result (Unit {0}) Refusal) → r ≡ commit_answer t s xs → is_ok r ≡ true → Recorded xs
committed t s xs r e o = recorded 0 xs (first_ok (sound_from 0 xs) _ (ap is_ok (sym e) ∙ o))

pub beside_self : (f : Facts) → Beside f f
beside_self f = record { needs = λ q n o. refl; holds = λ p q vs o. refl }

pub beside_along : (f g h : Facts) → Beside f g → Beside g h → Beside f h
beside_along f g h a b = record { needs = λ q n o. b.needs q n o ∙ a.needs q n o; holds = λ p q vs o. b.holds p q vs o ∙ a.holds p q vs o }

module _ {J : Type 0} (f : J → Facts) (m : J → Trace) (i j : J) where
  pub commit_beside : (s : ℕ) (xs : List Fact) (r : Result (Unit {0}) Refusal) → Commits f m i j s xs r → Beside (f i) (f j)
  commit_beside s xs r h = elim (cases_Bool (is_ok r)) [
    | inl o ↦ added_beside (f i) (f j) (shown (m i)) xs (h.taken o).facts (committed (m i) s xs r h.answer o)
    | inr o ↦ subst (λ (k : J). Beside (f i) (f k)) (sym (h.refused o)) (beside_self (f i))
  ]

  pub commit_merged : (k : Facts) (s : ℕ) (xs : List Fact) (r : Result (Unit {0}) Refusal) → Commits f m i j s xs r → is_ok r ≡ true → Grown (merged (f i) k) (m i) (merged (f j) k) (m j) s xs
  commit_merged k s xs r h o =
      let w = h.taken o in
      record {
        facts = added_merged (f i) (f j) (shown (m i)) xs w.facts (committed (m i) s xs r h.answer o) k;
        stamps = w.stamps;
        next = w.next;
        free = w.free;
        mark = w.mark;
        fact = w.fact;
      }
