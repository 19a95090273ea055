-- The walk and the rules of modes agree.
use Rattle.std.proofs.Common.{◌≡◌, ℕ, Bool, true, false, ◌&&◌, is_ok, Ok, Err, Result, refl, ap, ◌∙◌}
use Rattle.std.specs.Result.{result_and}
use Rattle.sets.specs.Sets.{◌∪◌, ◌⊆◌}
use Rattle.table.specs.Formula.{verum, falsum, atom, and, or, exists, forall, prev, once, hist, next, event, always, since, until, free}
use Rattle.policy.specs.Modes.{if_only, searching, start_of, same_outside, binds_all, WalkTells, needed}

both : (r s : Result (Unit {0}) ℕ) (a b : Bool) → is_ok r ≡ a → is_ok s ≡ b → is_ok (result_and r s) ≡ (a && b)
both (Ok _) s a b p q = ap (λ (c : Bool). c && is_ok s) p ∙ ap (λ (c : Bool). a && c) q
both (Err n) s a b p q = ap (λ (c : Bool). c && b) p

only : (b : Bool) (n : ℕ) → is_ok (if_only b n) ≡ b
only true n = refl
only false n = refl

pub walk_tells : WalkTells
walk_tells m D (verum n) K = refl
walk_tells m D (falsum n) K = refl
walk_tells m D (atom n p ts) K = only (needed D p ts ⊆ K) n
walk_tells m D (and n l r) K = both _ _ _ _ (walk_tells m D l K) (walk_tells m D r (K ∪ free l))
walk_tells m D (or n l r) K =
    both _ _ _ _ (walk_tells m D l K) (both _ _ _ _ (walk_tells m D r K) (only (same_outside K (free l) (free r)) n))
walk_tells m D (exists n vs b) K = both _ _ _ _ (walk_tells m D b K) (only (vs ⊆ free b) n)
walk_tells m D (forall n vs l r) K =
    both _ _ _ _ (walk_tells m D l K) (both _ _ _ _ (walk_tells m D r (K ∪ vs)) (only (binds_all K vs (free l) (free r)) n))
walk_tells m D (prev n i b) K = walk_tells m D b (start_of m K)
walk_tells m D (once n i b) K = walk_tells m D b (start_of m K)
walk_tells m D (hist n i b) K = both _ _ _ _ (only (searching m) n) (both _ _ _ _ (walk_tells m D b K) (only (free b ⊆ K) n))
walk_tells m D (next n i b) K = both _ _ _ _ (only (searching m) n) (walk_tells m D b K)
walk_tells m D (event n i b) K = both _ _ _ _ (only (searching m) n) (walk_tells m D b K)
walk_tells m D (always n i b) K = both _ _ _ _ (only (searching m) n) (both _ _ _ _ (walk_tells m D b K) (only (free b ⊆ K) n))
walk_tells m D (since n i l r) K =
    both _ _ _ _ (walk_tells m D r (start_of m K))
    (both _ _ _ _ (walk_tells m D l (start_of m K ∪ free r)) (only (free l ⊆ (start_of m K ∪ free r)) n))
walk_tells m D (until n i l r) K =
    both _ _ _ _ (only (searching m) n)
    (both _ _ _ _ (walk_tells m D r K) (both _ _ _ _ (walk_tells m D l (K ∪ free r)) (only (free l ⊆ (K ∪ free r)) n)))
