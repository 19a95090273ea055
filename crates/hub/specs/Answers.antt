-- How an answer is printed.
use Rattle.std.specs.Prelude.{ℕ, List, [], ◌∷◌, ◌++◌, vec_items, codes, decimal}
use Rattle.refusal.specs.Causes as causes
use Rattle.hub.specs.declared.answer.Answer.{Answer}
use Rattle.hub.specs.declared.answer.Answer.TheVariants.{EmptyTable, Predicate, Node, Accepted, Refused, NothingToDo}

-- each number behind a space
abbrev pub spaced : List ℕ → List ℕ
spaced [] = []
spaced (n ∷ ns) = (codes " " ++ decimal n) ++ spaced ns

-- the cached nodes, or ` none`
abbrev pub nodes : List ℕ → List ℕ
nodes [] = codes " none"
nodes (n ∷ ns) = spaced (n ∷ ns)

-- what an answer prints
abbrev pub printed : Answer → List ℕ
printed EmptyTable = codes "empty table"
printed (Predicate p) = codes "predicate " ++ decimal p
printed (Node n) = codes "node " ++ decimal n
printed (Accepted wait cached) = (codes "accepted, wait " ++ (decimal wait ++ codes ", cached")) ++ nodes (vec_items cached)
printed (Refused r) = causes.printed r
printed NothingToDo = codes "nothing to do"
