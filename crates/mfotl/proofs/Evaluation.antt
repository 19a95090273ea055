-- A test of truth for formulas without quantifiers, by trying all positions. Only the worked examples use it.
use Rattle.std.proofs.Common.{ℕ, zero, suc, ◌+◌, ◌-◌, Bool, true, false, not, ◌&&◌, ◌||◌, ltb, leb, List, map, length, get_or, Some, None, Option}
use Rattle.table.specs.declared.Interval.{Interval}
use Rattle.table.specs.Formula.{Formula, verum, falsum, atom, and, or, exists, forall, prev, once, hist, next, event, always, since, until}
use Rattle.facts.specs.Facts.{Facts}
use Rattle.mfotl.specs.Truth.{Valuation, value_of}

-- some number below n passes
abbrev pub any_below : ℕ → (ℕ → Bool) → Bool
any_below zero P = false
any_below (suc n) P = P n || any_below n P

-- all numbers below n pass
abbrev pub all_below : ℕ → (ℕ → Bool) → Bool
all_below zero P = true
all_below (suc n) P = P n && all_below n P

abbrev pub at_most : ℕ → Option ℕ → Bool
at_most d None = true
at_most d (Some h) = leb d h

-- a distance lies in an interval
abbrev pub inside : ℕ → Interval → Bool
inside d I = leb I.lo d && at_most d I.hi

-- a formula without quantifiers
abbrev pub quantifierless : Formula → Bool
quantifierless (verum n) = true
quantifierless (falsum n) = true
quantifierless (atom n p ts) = true
quantifierless (and n l r) = quantifierless l && quantifierless r
quantifierless (or n l r) = quantifierless l && quantifierless r
quantifierless (exists n vs b) = false
quantifierless (forall n vs l r) = false
quantifierless (prev n I b) = quantifierless b
quantifierless (once n I b) = quantifierless b
quantifierless (hist n I b) = quantifierless b
quantifierless (next n I b) = quantifierless b
quantifierless (event n I b) = quantifierless b
quantifierless (always n I b) = quantifierless b
quantifierless (since n I l r) = quantifierless l && quantifierless r
quantifierless (until n I l r) = quantifierless l && quantifierless r

module _ (f : Facts) (τ : List ℕ) (η : Valuation) where
  -- the distance between two stamps lies in an interval
  abbrev pub apart : ℕ → ℕ → Interval → Bool
  apart i k I = inside (get_or τ i 0 - get_or τ k 0) I

  abbrev pub evaluated : Formula → ℕ → Bool
  evaluated (verum n) i = true
  evaluated (falsum n) i = false
  evaluated (atom n p ts) i = f.holds i p (map (value_of η) ts)
  evaluated (and n l r) i = evaluated l i && evaluated r i
  evaluated (or n l r) i = evaluated l i || evaluated r i
  evaluated (exists n vs b) i = false
  evaluated (forall n vs l r) i = false
  evaluated (prev n I b) i = ltb 0 i && (apart i (i - 1) I && evaluated b (i - 1))
  evaluated (once n I b) i = any_below (suc i) (λ k. apart i k I && evaluated b k)
  evaluated (hist n I b) i = all_below (suc i) (λ k. not (apart i k I) || evaluated b k)
  evaluated (next n I b) i = ltb (i + 1) (length τ) && (apart (i + 1) i I && evaluated b (i + 1))
  evaluated (event n I b) i = any_below (length τ) (λ k. leb i k && (apart k i I && evaluated b k))
  evaluated (always n I b) i = all_below (length τ) (λ k. not (leb i k && apart k i I) || evaluated b k)
  evaluated (since n I l r) i = any_below (suc i) (λ k. apart i k I && (evaluated r k && all_below (suc i) (λ j. not (ltb k j) || evaluated l j)))
  evaluated (until n I l r) i = any_below (length τ) (λ k. leb i k && (apart k i I && (evaluated r k && all_below k (λ j. not (leb i j) || evaluated l j))))
