-- Two commits in a row.
use Rattle.std.specs.Prelude.{◌≡◌, ℕ, ◌+◌, ◌-◌, true, false, ◌&&◌, ◌||◌, List, [], ◌∷◌, ◌++◌, is_ok, Result, ◌==◌}
use Rattle.std.specs.Result.{result_and}
use Rattle.refusal.specs.declared.Refusal.{Refusal}
use Rattle.facts.specs.declared.Fact.{Fact}
use Rattle.facts.specs.Facts.{Facts}
use Rattle.facts.specs.Tuples.{among}
use Rattle.journal.specs.Trace.{Trace, shown, costs, commit_answer, Grown, Lengthens}

-- a trace after one commit that was taken
abbrev pub committed : Trace → ℕ → List Fact → Trace
committed t s xs = record { stamps = t.stamps ++ (s ∷ []); next = s + 1; free = t.free - (t.mark + costs t.fact xs); mark = t.mark; fact = t.fact }

-- the first refusal of two commits, or none
abbrev pub two_answer : Trace → ℕ → List Fact → ℕ → List Fact → Result (Unit {0}) Refusal
two_answer t a xs b ys = result_and (commit_answer t a xs) (commit_answer (committed t a xs) b ys)

-- two positions more, each with its facts
pub record Twice (f : Facts) (t : Trace) (g : Facts) (u : Trace) (a : ℕ) (xs : List Fact) (b : ℕ) (ys : List Fact) : Type 0 where
  pub needs : (q n : ℕ) → g.needs q n ≡ f.needs q n
  pub holds : (p q : ℕ) (vs : List ℕ) → g.holds p q vs ≡ (f.holds p q vs || ((p == shown t && among q vs xs) || (p == shown t + 1 && among q vs ys)))
  pub stamps : u.stamps ≡ t.stamps ++ (a ∷ b ∷ [])
  pub next : u.next ≡ b + 1
  pub free : u.free + (t.mark + costs t.fact ys) + (t.mark + costs t.fact xs) ≡ t.free
  pub mark : u.mark ≡ t.mark
  pub fact : (n : ℕ) → u.fact n ≡ t.fact n

-- two commits of a journal whose facts are f and whose trace is m: from i to j, with the answer r
pub record CommitsTwo {J : Type 0} (f : J → Facts) (m : J → Trace) (i j : J) (a : ℕ) (xs : List Fact) (b : ℕ) (ys : List Fact) (r : Result (Unit {0}) Refusal) : Type 0 where
  pub answer : r ≡ two_answer (m i) a xs b ys
  pub taken : is_ok r ≡ true → Twice (f i) (m i) (f j) (m j) a xs b ys
  pub lengthens : is_ok r ≡ true → Lengthens (f i) (m i) (f j) (m j)
  pub half : is_ok r ≡ false → is_ok (commit_answer (m i) a xs) ≡ true → Grown (f i) (m i) (f j) (m j) a xs
  pub refused : is_ok (commit_answer (m i) a xs) ≡ false → j ≡ i
