-- What a journal means besides its facts, what its calls change, and what is so of every journal.
use Rattle.std.specs.Prelude.{◌≡◌, ℕ, ◌+◌, ◌^◌, ◌<◌, ◌≤◌, Bool, true, false, cond, not, ◌&&◌, ◌||◌, List, [], ◌∷◌, ◌++◌, length, is_ok, Some, None, Ok, Err, Option, Result, ◌==◌, nat_le, nat_lt, slice_index}
use Rattle.std.specs.Result.{result_and}
use Rattle.refusal.specs.Causes.{refusal_at}
use Rattle.refusal.specs.declared.Cause.TheVariants.{BadFact, StampTooLow, NoRoom, NotShown}
use Rattle.refusal.specs.declared.Refusal.{Refusal}
use Rattle.facts.specs.declared.Fact.{Fact}
use Rattle.facts.specs.Facts.{Facts}
use Rattle.sets.specs.Sets.{NumberSet, none}
use Rattle.facts.specs.Tuples.{among, recordable}
use Rattle.journal.specs.declared.standing.Standing.{Standing}

-- stamps: of the positions shown. next: the least next stamp. free: the free units. mark: the cost of a mark. fact: the
-- cost of a fact, by its count of arguments.
pub record Trace : Type 0 where
  pub stamps : List ℕ
  pub next : ℕ
  pub free : ℕ
  pub mark : ℕ
  pub fact : ℕ → ℕ

-- how many positions are shown
abbrev pub shown : Trace → ℕ
shown t = length t.stamps

-- the stamp of a position
abbrev pub stamp_at : Trace → ℕ → ℕ
stamp_at t p = slice_index t.stamps p

-- the same meaning, at each place
pub record SameTrace (t u : Trace) : Type 0 where
  pub stamps : u.stamps ≡ t.stamps
  pub next : u.next ≡ t.next
  pub free : u.free ≡ t.free
  pub mark : u.mark ≡ t.mark
  pub fact : (n : ℕ) → u.fact n ≡ t.fact n

-- the predicates that a journal records
abbrev pub own : ℕ → Bool
own q = nat_lt q 32

-- what a journal needs of its own predicates: each is known with 0 to 3 arguments, and none must be given
abbrev pub own_needs : ℕ → ℕ → Option NumberSet
own_needs q n = cond (own q && nat_lt n 4) (Some none) None

-- what is so of every journal
pub record Orderly (f : Facts) (t : Trace) : Type 0 where
  pub rising : (p q : ℕ) → p < q → q < shown t → stamp_at t p < stamp_at t q
  pub below : (p : ℕ) → p < shown t → stamp_at t p < t.next
  pub last : t.next ≤ 2 ^ 32
  pub few : shown t ≤ 65536
  pub unshown : (p q : ℕ) (vs : List ℕ) → own q ≡ true → shown t ≤ p → f.holds p q vs ≡ false
  pub needs : (q n : ℕ) → own q ≡ true → f.needs q n ≡ own_needs q n

-- exactly these facts were added at a position
pub record Added (f g : Facts) (k : ℕ) (xs : List Fact) : Type 0 where
  pub needs : (q n : ℕ) → g.needs q n ≡ f.needs q n
  pub holds : (p q : ℕ) (vs : List ℕ) → g.holds p q vs ≡ (f.holds p q vs || (p == k && among q vs xs))

-- what facts cost
abbrev pub costs : (ℕ → ℕ) → List Fact → ℕ
costs fact [] = 0
costs fact (x ∷ xs) = fact x.values.count + costs fact xs

-- Ok, or the refusal at the first fact from i on that no journal takes
abbrev pub sound_from : ℕ → List Fact → Result (Unit {0}) Refusal
sound_from i [] = Ok tt
sound_from i (x ∷ xs) = cond (recordable x) (sound_from (i + 1) xs) (Err (refusal_at BadFact i))

-- refused where the test passes
abbrev pub unless : Bool → Refusal → Result (Unit {0}) Refusal
unless test e = cond test (Err e) (Ok tt)

-- whether the free units cover a cost
abbrev pub affordable : Standing → ℕ → Result (Unit {0}) Refusal
affordable w cost = unless (nat_lt w.free cost) (refusal_at NoRoom w.shown)

-- whether a commit is taken, whatever it costs, and else the first refusal
abbrev pub allowed_position : Standing → ℕ → List Fact → Result (Unit {0}) Refusal
allowed_position w s xs = result_and (sound_from 0 xs) (unless (nat_lt s w.next) (refusal_at StampTooLow w.shown))

-- whether a commit that costs so much is taken, and else the first refusal
abbrev pub allowed_commit : Standing → ℕ → List Fact → ℕ → Result (Unit {0}) Refusal
allowed_commit w s xs cost =
    result_and (sound_from 0 xs)
    (result_and (unless (nat_lt s w.next) (refusal_at StampTooLow w.shown)) (affordable w cost))

-- whether a late fact that costs so much is taken, and else the first refusal
abbrev pub allowed_late : Standing → ℕ → Fact → ℕ → Result (Unit {0}) Refusal
allowed_late w k x cost =
    result_and (unless (nat_le w.shown k) (refusal_at NotShown k))
    (result_and (unless (not (recordable x)) (refusal_at BadFact 0)) (affordable w cost))

-- what decides whether a journal takes something
abbrev pub standing : Trace → Standing
standing t = record { shown = shown t; next = t.next; free = t.free }

-- whether a commit is taken, and else the first refusal
abbrev pub commit_answer : Trace → ℕ → List Fact → Result (Unit {0}) Refusal
commit_answer t s xs = allowed_commit (standing t) s xs (t.mark + costs t.fact xs)

-- whether a late fact is taken, and else the first refusal
abbrev pub late_answer : Trace → ℕ → Fact → Result (Unit {0}) Refusal
late_answer t k x = allowed_late (standing t) k x (t.fact x.values.count)

-- one position more, with these facts
pub record Grown (f : Facts) (t : Trace) (g : Facts) (u : Trace) (s : ℕ) (xs : List Fact) : Type 0 where
  pub facts : Added f g (shown t) xs
  pub stamps : u.stamps ≡ t.stamps ++ (s ∷ [])
  pub next : u.next ≡ s + 1
  pub free : u.free + (t.mark + costs t.fact xs) ≡ t.free
  pub mark : u.mark ≡ t.mark
  pub fact : (n : ℕ) → u.fact n ≡ t.fact n

-- one fact more, at a position that was shown
pub record Noted (f : Facts) (t : Trace) (g : Facts) (u : Trace) (k : ℕ) (x : Fact) : Type 0 where
  pub facts : Added f g k (x ∷ [])
  pub stamps : u.stamps ≡ t.stamps
  pub next : u.next ≡ t.next
  pub free : u.free + t.fact x.values.count ≡ t.free
  pub mark : u.mark ≡ t.mark
  pub fact : (n : ℕ) → u.fact n ≡ t.fact n

-- a commit of a journal whose facts are f and whose trace is m: from i to j, with the answer r
pub record Commits {J : Type 0} (f : J → Facts) (m : J → Trace) (i j : J) (s : ℕ) (xs : List Fact) (r : Result (Unit {0}) Refusal) : Type 0 where
  pub answer : r ≡ commit_answer (m i) s xs
  pub taken : is_ok r ≡ true → Grown (f i) (m i) (f j) (m j) s xs
  pub refused : is_ok r ≡ false → j ≡ i

-- a late fact
pub record Lates {J : Type 0} (f : J → Facts) (m : J → Trace) (i j : J) (k : ℕ) (x : Fact) (r : Result (Unit {0}) Refusal) : Type 0 where
  pub answer : r ≡ late_answer (m i) k x
  pub taken : is_ok r ≡ true → Noted (f i) (m i) (f j) (m j) k x
  pub refused : is_ok r ≡ false → j ≡ i

-- stamps that rise strictly, from `low` on, and are all below `end`
abbrev pub rising : ℕ → List ℕ → ℕ → Bool
rising low [] end = nat_le low end
rising low (s ∷ ss) end = nat_le low s && rising (s + 1) ss end

-- a lengthening: what was shown keeps its stamps and its facts, and further positions have any facts, at stamps that the
-- least next stamp allows
pub record Lengthens (f : Facts) (t : Trace) (g : Facts) (u : Trace) : Type 0 where
  pub further : List ℕ
  pub stamps : u.stamps ≡ t.stamps ++ further
  pub allowed : rising t.next further (2 ^ 32) ≡ true
  pub facts : (p q : ℕ) (vs : List ℕ) → p < shown t → g.holds p q vs ≡ f.holds p q vs
