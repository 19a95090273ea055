use Rattle.std.proofs.Common.{◌≡◌, ◌+◌, ◌≤◌, drop}
use Rattle.journal.specs.Trace.{costs}
use Rattle.packed.specs.Meaning.{fact_cost}
use Rattle.packed.proofs.sizes.facts_size.Given as goal

abbrev pub invariant-loop-fact : goal.invariant-loop-fact
invariant-loop-fact l = record {
  left : costs fact_cost l.facts ≡ l.size + costs fact_cost (drop l.fact-index l.facts);
  upto : l.size ≤ l.most;
}
