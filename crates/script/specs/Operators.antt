-- The words that name an operator.
use Rattle.std.specs.Prelude.{◌≡◌, ℕ, List, [], ◌∷◌, Some, codes, Option}
use Rattle.std.proofs.Common.{rules}
use Rattle.script.specs.Keywords.{spelled}
use Rattle.script.specs.declared.operators.Operator.{Operator}
use Rattle.script.specs.declared.operators.Operator.TheVariants.{True, False, Atom, And, Or, Exists, Forall, Timed, Since, Until}
use Rattle.script.specs.declared.operators.Timed.TheVariants.{Prev, Once, Hist, Next, Event, Always}

-- how each operator is spelled
abbrev pub spelling : Operator → List ℕ
spelling True = codes "true"
spelling False = codes "false"
spelling Atom = codes "atom"
spelling And = codes "and"
spelling Or = codes "or"
spelling Exists = codes "exists"
spelling Forall = codes "forall"
spelling (Timed Prev) = codes "prev"
spelling (Timed Once) = codes "once"
spelling (Timed Hist) = codes "hist"
spelling (Timed Next) = codes "next"
spelling (Timed Event) = codes "event"
spelling (Timed Always) = codes "always"
spelling Since = codes "since"
spelling Until = codes "until"

-- every operator
abbrev pub operators : List Operator
operators = True ∷ (False ∷ (Atom ∷ (And ∷ (Or ∷ (Exists ∷ (Forall ∷ (Timed Prev ∷ (Timed Once ∷ (Timed Hist ∷ (Timed Next ∷ (Timed Event ∷ (Timed Always ∷ (Since ∷ (Until ∷ []))))))))))))))

-- the operator that a word names
abbrev pub operator : List ℕ → Option Operator
operator word = spelled spelling operators word

-- each operator is named by its spelling
pub named : (o : Operator) → spelled spelling operators (spelling o) ≡ Some o
unfolding spelled
named o = search rules
