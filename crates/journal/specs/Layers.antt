-- What the layers mean, over what is below them, and what they leave as it was.
use Rattle.std.specs.Prelude.{◌≡◌, ℕ, ◌+◌, ◌-◌, ◌^◌, ◌<◌, ◌≤◌, Bool, true, false, cond, ◌&&◌, List, take, drop, nat_lt}
use Rattle.refusal.specs.Causes.{refusal_at}
use Rattle.refusal.specs.declared.Cause.{Cause}
use Rattle.refusal.specs.declared.Cause.TheVariants.{NodeCount, OverLimit, ChildNotBelow, NotDeclared, BadInterval, NotOneParent, BoundBefore, FreeAtRoot, NotSearchable, UnknownBelow, TooManyShown, BadFact, StampTooLow, NoRoom, MonitorFull, NotShown, BufferShort, NotKnown, ValueAbsent}
use Rattle.refusal.specs.declared.Refusal.{Refusal}
use Rattle.facts.specs.Facts.{Facts}
use Rattle.journal.specs.Trace.{Trace, own}

-- predicates from 32 up come from a second source
abbrev pub merged : Facts → Facts → Facts
merged f h = record {
  needs = λ q n. cond (own q) (f.needs q n) (h.needs q n);
  holds = λ p q vs. cond (own q) (f.holds p q vs) (h.holds p q vs);
}

-- of the facts below, those of predicates from 32 up, which a joined layer hides, are as they were
pub record Beside (f g : Facts) : Type 0 where
  pub needs : (q n : ℕ) → own q ≡ false → g.needs q n ≡ f.needs q n
  pub holds : (p q : ℕ) (vs : List ℕ) → own q ≡ false → g.holds p q vs ≡ f.holds p q vs

-- without the first b positions; a position whose number below a find can't take has no facts
abbrev pub shifted : Facts → ℕ → Facts
shifted f b = record {
  needs = f.needs;
  holds = λ p q vs. nat_lt (p + b) (2 ^ 64) && f.holds (p + b) q vs;
}

abbrev pub later : Trace → ℕ → Trace
later t b = record { stamps = drop b t.stamps; next = t.next; free = t.free; mark = t.mark; fact = t.fact }

-- the first b positions, which a session hides, are as they were, and so is what lies beyond those that a find can take
pub record Behind (f : Facts) (t : Trace) (g : Facts) (u : Trace) (b : ℕ) : Type 0 where
  pub stamps : take b u.stamps ≡ take b t.stamps
  pub holds : (p q : ℕ) (vs : List ℕ) → p < b → g.holds p q vs ≡ f.holds p q vs
  pub far : (p q : ℕ) (vs : List ℕ) → 2 ^ 64 ≤ p → g.holds p q vs ≡ f.holds p q vs

-- a cause whose place in a journal's refusal is the count of positions shown
abbrev pub counts_shown : Cause → Bool
counts_shown NodeCount = false
counts_shown OverLimit = false
counts_shown ChildNotBelow = false
counts_shown NotDeclared = false
counts_shown BadInterval = false
counts_shown NotOneParent = false
counts_shown BoundBefore = false
counts_shown FreeAtRoot = false
counts_shown NotSearchable = false
counts_shown UnknownBelow = false
counts_shown TooManyShown = false
counts_shown BadFact = false
counts_shown StampTooLow = true
counts_shown NoRoom = true
counts_shown MonitorFull = false
counts_shown NotShown = false
counts_shown BufferShort = false
counts_shown NotKnown = false
counts_shown ValueAbsent = false

-- a refusal from below, where a place that counts positions does so without the first b
abbrev pub own_place : Refusal → ℕ → Refusal
own_place e b = cond (counts_shown e.cause) (refusal_at e.cause (e.place - b)) e
