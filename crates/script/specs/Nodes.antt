-- How the nodes of a table are written.
use Rattle.std.specs.Prelude.{ℕ, ◌^◌, cond, List, [], ◌∷◌, Some, None, codes, Option, bit_or}
use Rattle.std.specs.Str.{bytes_eq}
use Rattle.sets.specs.declared.SmallSet.{SmallSet}
use Rattle.table.specs.declared.node.Interval.{Interval}
use Rattle.table.specs.declared.node.Node.{Node}
use Rattle.table.specs.declared.node.Node.TheVariants as node
use Rattle.table.specs.declared.node.Term.{Term}
use Rattle.table.specs.declared.node.Term.TheVariants.{Variable, Constant}
use Rattle.table.specs.Arguments.{no_arguments}
use Rattle.script.specs.Items.{with_items}
use Rattle.script.specs.Numbers.{number, wide, wide_unless, labelled}
use Rattle.script.specs.Operators.{operator}
use Rattle.script.specs.Pieces.{pieces}
use Rattle.script.specs.Reading.{and_then, try_fold, behind, two, three, alone}
use Rattle.script.specs.declared.operators.Operator.{Operator}
use Rattle.script.specs.declared.operators.Operator.TheVariants.{True, False, Atom, And, Or, Exists, Forall, Timed, Since, Until}
use Rattle.script.specs.declared.operators.Timed as timing
use Rattle.script.specs.declared.operators.Timed.TheVariants.{Prev, Once, Hist, Next, Event, Always}

-- a variable behind `v`, or else a value
abbrev pub term_from : Option (List ℕ) → List ℕ → Option Term
term_from (Some name) word = and_then (number 255 name) (λ n. Some (Variable n))
term_from None word = and_then (wide word) (λ value. Some (Constant value))

-- TERM: `vN` with N from 0 to 255, or a value
abbrev pub term : List ℕ → Option Term
term word = term_from (behind (codes "v") word) word

-- one piece more that is a variable from `v0` to `v7`: its bit is set
abbrev pub with_variable : ℕ → List ℕ → Option ℕ
with_variable mask piece = and_then (labelled (codes "v") 7 piece) (λ n. Some (bit_or mask (2 ^ n)))

-- VARS: `-`, or variables that are parted by commas
abbrev pub variables : List ℕ → Option SmallSet
variables word =
    cond (bytes_eq word (codes "-")) (Some (record { mask = 0 }))
    (and_then (try_fold with_variable 0 (pieces 44 word)) (λ mask. Some (record { mask = mask })))

-- HI: `none`, or a number
abbrev pub upper : List ℕ → Option (Option ℕ)
upper = wide_unless (codes "none")

-- LO HI
abbrev pub interval_of : List ℕ → List ℕ → Option Interval
interval_of lower higher =
    and_then (wide lower) (λ lo.
    and_then (upper higher) (λ hi.
    Some (record { lo = lo; hi = hi })))

-- L R: two nodes, by their numbers from 0 to 255
abbrev pub operands : List (List ℕ) → Option (ℕ × ℕ)
operands words =
    and_then (two words) (λ parts.
    and_then (number 255 parts.0) (λ left.
    and_then (number 255 parts.1) (λ right.
    Some (left, right))))

-- LO HI B
abbrev pub timed : List (List ℕ) → Option (Interval × ℕ)
timed words =
    and_then (three words) (λ parts.
    and_then (interval_of parts.0 parts.1) (λ seconds.
    and_then (number 255 parts.2) (λ body.
    Some (seconds, body))))

-- LO HI L R
abbrev pub timed_operands : List (List ℕ) → Option (Interval × ℕ × ℕ)
timed_operands [] = None
timed_operands (lower ∷ words) =
    and_then (three words) (λ parts.
    and_then (interval_of lower parts.0) (λ seconds.
    and_then (number 255 parts.1) (λ left.
    and_then (number 255 parts.2) (λ right.
    Some (seconds, left, right)))))

-- P TERM ..
abbrev pub atom : List (List ℕ) → Option Node
atom [] = None
atom (name ∷ words) =
    and_then (number 255 name) (λ predicate.
    and_then (with_items term (no_arguments (Constant 0)) words) (λ terms.
    Some (node.Atom predicate terms)))

-- VARS B
abbrev pub exists : List (List ℕ) → Option Node
exists words =
    and_then (two words) (λ parts.
    and_then (variables parts.0) (λ bound.
    and_then (number 255 parts.1) (λ body.
    Some (node.Exists bound body))))

-- VARS L R
abbrev pub forall : List (List ℕ) → Option Node
forall words =
    and_then (three words) (λ parts.
    and_then (variables parts.0) (λ bound.
    and_then (number 255 parts.1) (λ left.
    and_then (number 255 parts.2) (λ right.
    Some (node.Forall bound left right)))))

-- a node of a timed operator
abbrev pub timed_node : timing.Timed → Interval → ℕ → Node
timed_node Prev seconds body = node.Prev seconds body
timed_node Once seconds body = node.Once seconds body
timed_node Hist seconds body = node.Hist seconds body
timed_node Next seconds body = node.Next seconds body
timed_node Event seconds body = node.Event seconds body
timed_node Always seconds body = node.Always seconds body

-- a node of this operator, from the words behind it
abbrev pub node_of : Operator → List (List ℕ) → Option Node
node_of True words = alone node.True words
node_of False words = alone node.False words
node_of Atom words = atom words
node_of And words = and_then (operands words) (λ parts. Some (node.And parts.0 parts.1))
node_of Or words = and_then (operands words) (λ parts. Some (node.Or parts.0 parts.1))
node_of Exists words = exists words
node_of Forall words = forall words
node_of (Timed t) words = and_then (timed words) (λ parts. Some (timed_node t parts.0 parts.1))
node_of Since words = and_then (timed_operands words) (λ parts. Some (node.Since parts.0 parts.1 parts.2))
node_of Until words = and_then (timed_operands words) (λ parts. Some (node.Until parts.0 parts.1 parts.2))

-- a node: its operator, and what belongs to it
abbrev pub node_in : List (List ℕ) → Option Node
node_in [] = None
node_in (word ∷ words) = and_then (operator word) (λ o. node_of o words)
