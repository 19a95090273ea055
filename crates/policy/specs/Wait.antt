-- How long a position has to wait for its verdict.
use Rattle.std.specs.Prelude.{ℕ, ◌+◌, max, Some, None}
use Rattle.table.specs.declared.node.Interval.{Interval}
use Rattle.table.specs.Formula.{Formula, verum, falsum, atom, and, or, exists, forall, prev, once, hist, next, event, always, since, until}

-- the upper end of an interval; a future operator always has one
abbrev pub upper : Interval → ℕ
upper i = elim i.hi [ None ↦ 0 | Some h ↦ h ]

-- the seconds after a position's stamp that its truth may depend on; nested ends add up
abbrev pub wait : Formula → ℕ
wait (verum n) = 0
wait (falsum n) = 0
wait (atom n p ts) = 0
wait (and n l r) = max (wait l) (wait r)
wait (or n l r) = max (wait l) (wait r)
wait (exists n vs b) = wait b
wait (forall n vs l r) = max (wait l) (wait r)
wait (prev n i b) = wait b
wait (once n i b) = wait b
wait (hist n i b) = wait b
wait (next n i b) = upper i + wait b
wait (event n i b) = upper i + wait b
wait (always n i b) = upper i + wait b
wait (since n i l r) = max (wait l) (wait r)
wait (until n i l r) = upper i + max (wait l) (wait r)
