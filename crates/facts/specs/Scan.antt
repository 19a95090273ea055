-- One step of a scan of facts for the least tuple.
use Rattle.std.specs.Prelude.{ℕ, cond, List, Some, None, Option}
use Rattle.facts.specs.declared.fact.Fact.{Fact}
use Rattle.facts.specs.declared.fact.Query.{Query}
use Rattle.facts.specs.Tuples.{before, arguments, padded, answers}

abbrev pub lesser : Option (List ℕ) → List ℕ → List ℕ
lesser None t = t
lesser (Some s) t = cond (before s t) s t

-- the best tuple so far, after one more fact
abbrev pub better : Query → Option (List ℕ) → Option (List ℕ) → Fact → Option (List ℕ)
better q a best x = cond (answers q a x) (Some (lesser best (padded (arguments x)))) best
