use Rattle.std.proofs.Common.{◌≡◌, length}
use Rattle.policy.specs.Notes.{NotedUpTo, BoundedBy}
use Rattle.policy.proofs.notes.notes_of.Given as goal

abbrev pub invariant-loop-n : goal.invariant-loop-n
invariant-loop-n l = record {
  noted : NotedUpTo l.outline.declarations.now l.outline.nodes.now l.notes l.n;
  bounded : BoundedBy l.n l.notes;
  size : length l.notes ≡ 32;
}
