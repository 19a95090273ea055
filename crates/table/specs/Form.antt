-- The form rules of a table, each as a test that is true where the rule is broken, and the order in which they are asked.
use Rattle.std.specs.Prelude.{◌≡◌, ℕ, ◌+◌, ◌<◌, Bool, true, false, cond, not, ◌&&◌, ◌||◌, ltb, leb, List, [], ◌∷◌, ◌++◌, length, take, Some, None, Option, ◌==◌, nat_lt, slice_index_or}
use Rattle.std.specs.List.{flat_map, list_any}
use Rattle.refusal.specs.Causes.{refusal_at}
use Rattle.refusal.specs.declared.Cause.{Cause}
use Rattle.refusal.specs.declared.Cause.TheVariants.{NodeCount, OverLimit, ChildNotBelow, NotDeclared, BadInterval, NotOneParent, BoundBefore, FreeAtRoot}
use Rattle.refusal.specs.declared.Refusal.{Refusal}
use Rattle.table.specs.declared.node.Declaration.{Declaration}
use Rattle.table.specs.declared.node.Interval.{Interval}
use Rattle.table.specs.declared.node.Node.{Node}
use Rattle.table.specs.declared.node.Node.TheVariants.{True, False, Atom, And, Or, Exists, Forall, Prev, Once, Hist, Next, Event, Always, Since, Until}
use Rattle.table.specs.declared.node.Term.{Term}
use Rattle.table.specs.declared.node.Term.TheVariants.{Variable, Constant}
use Rattle.table.specs.Arguments.{kept}
use Rattle.table.specs.declared.arguments.Arguments.{Arguments}
use Rattle.table.specs.Formula.{free, formula_at, root_of}
use Rattle.sets.specs.Sets.{NumberSet, members, none, ◌∪◌, below, empty, ◌⊆◌, meets}

-- what is declared of each predicate, in the order of their numbers
abbrev pub Declarations : Type 0
Declarations = List (Option Declaration)

-- how often k stands in a list
abbrev pub times : ℕ → List ℕ → ℕ
times k [] = 0
times k (x ∷ xs) = cond (x == k) 1 0 + times k xs

-- a node of the table; past its end there is nothing to break a rule
abbrev pub node_at : List Node → ℕ → Node
node_at ns i = slice_index_or ns i True

-- the operands of a node, left first
abbrev pub children : Node → List ℕ
children True = []
children False = []
children (Atom p ts) = []
children (And l r) = l ∷ r ∷ []
children (Or l r) = l ∷ r ∷ []
children (Exists vs b) = b ∷ []
children (Forall vs l r) = l ∷ r ∷ []
children (Prev i b) = b ∷ []
children (Once i b) = b ∷ []
children (Hist i b) = b ∷ []
children (Next i b) = b ∷ []
children (Event i b) = b ∷ []
children (Always i b) = b ∷ []
children (Since i l r) = l ∷ r ∷ []
children (Until i l r) = l ∷ r ∷ []

-- the variables that a node binds
abbrev pub bindings : Node → NumberSet
bindings (Exists vs b) = members vs
bindings (Forall vs l r) = members vs
bindings _ = none

-- rule 1: no nodes, or more than 32
abbrev pub wrong_count : List Node → Bool
wrong_count ns = length ns == 0 || nat_lt 32 (length ns)

-- rule 2: variables go to 7, predicates to 63, arguments to 3, and an argument that must be given is one of these
abbrev pub term_over : Term → Bool
term_over (Variable v) = nat_lt 7 v
term_over (Constant c) = false

abbrev pub atom_over : ℕ → Arguments Term → Bool
atom_over p ts = nat_lt 63 p || (nat_lt 3 ts.count || list_any term_over (kept ts))

abbrev pub over_limit : Node → Bool
over_limit (Atom p ts) = atom_over p ts
over_limit _ = false

abbrev pub declaration_over : Option Declaration → Bool
declaration_over None = false
declaration_over (Some d) = nat_lt 3 d.count || not (members d.given ⊆ below d.count)

-- rule 3: a child that is not numbered below its parent, the node i
abbrev pub not_below : ℕ → Node → Bool
not_below i x = list_any (λ c. leb i c) (children x)

-- no node has such a child
abbrev pub Descends : List Node → Type 0
Descends ns = (i : ℕ) → i < length ns → not_below i (node_at ns i) ≡ false

-- rule 4: a predicate that is not declared, or declared with another count
abbrev pub declared_otherwise : Option Declaration → ℕ → Bool
declared_otherwise None count = true
declared_otherwise (Some d) count = not (d.count == count)

abbrev pub not_declared : Declarations → Node → Bool
not_declared D (Atom p ts) = declared_otherwise (slice_index_or D p None) ts.count
not_declared D _ = false

-- rule 5: lo above hi; a future operator must have a hi, a past one need not
abbrev pub past_over : Interval → Bool
past_over i = elim i.hi [ None ↦ false | Some h ↦ ltb h i.lo ]

abbrev pub future_over : Interval → Bool
future_over i = elim i.hi [ None ↦ true | Some h ↦ ltb h i.lo ]

abbrev pub bad_interval : Node → Bool
bad_interval (Prev i b) = past_over i
bad_interval (Once i b) = past_over i
bad_interval (Hist i b) = past_over i
bad_interval (Since i l r) = past_over i
bad_interval (Next i b) = future_over i
bad_interval (Event i b) = future_over i
bad_interval (Always i b) = future_over i
bad_interval (Until i l r) = future_over i
bad_interval _ = false

-- rule 6: a node that is not the root is exactly once a child
abbrev pub parent_count : List Node → ℕ → ℕ
parent_count ns k = times k (flat_map children ns)

abbrev pub not_one_parent : List Node → ℕ → Bool
not_one_parent ns i = nat_lt (i + 1) (length ns) && not (parent_count ns i == 1)

-- rule 7: a variable that a lower node binds already
abbrev pub bound_by : List Node → NumberSet
bound_by [] = none
bound_by (x ∷ xs) = bindings x ∪ bound_by xs

abbrev pub bound_before : List Node → ℕ → Bool
bound_before ns i = meets (bindings (node_at ns i)) (bound_by (take i ns))

-- rule 8: a free variable at the root
abbrev pub free_at_root : List Node → Bool
free_at_root ns = not (empty (free (formula_at ns (root_of ns))))

-- a rule asked at a place: the refusal that it gives, and whether it is broken there
pub record Question : Type 0 where
  pub refusal : Refusal
  pub broken : Bool

abbrev pub ask : Cause → ℕ → Bool → Question
ask c i b = record { refusal = refusal_at c i; broken = b }

-- the refusal of the first rule that is broken
abbrev pub first : List Question → Option Refusal
first [] = None
first (q ∷ qs) = cond q.broken (Some q.refusal) (first qs)

-- what is asked of each node of a table, from the node i on
abbrev pub in_turn : (ℕ → List Question) → ℕ → List Node → List Question
in_turn f i [] = []
in_turn f i (x ∷ xs) = f i ++ in_turn f (i + 1) xs

-- what is asked of the node i by itself
abbrev pub node_questions : Declarations → ℕ → Node → List Question
node_questions D i x =
    ask OverLimit i (over_limit x)
    ∷ ask ChildNotBelow i (not_below i x)
    ∷ ask NotDeclared i (not_declared D x)
    ∷ ask BadInterval i (bad_interval x)
    ∷ []

abbrev pub of_node : Declarations → List Node → ℕ → List Question
of_node D ns i = node_questions D i (node_at ns i)

abbrev pub of_parents : List Node → ℕ → List Question
of_parents ns i = ask NotOneParent i (not_one_parent ns i) ∷ []

abbrev pub of_bindings : List Node → ℕ → List Question
of_bindings ns i = ask BoundBefore i (bound_before ns i) ∷ []

abbrev pub of_size : Declarations → List Node → List Question
of_size D ns = ask NodeCount 0 (wrong_count ns) ∷ ask OverLimit 0 (list_any declaration_over D) ∷ []

abbrev pub of_root : List Node → List Question
of_root ns = ask FreeAtRoot (root_of ns) (free_at_root ns) ∷ []

-- what is asked of the nodes together: rule 6 of each, then rule 7 of each, then rule 8
abbrev pub together : List Node → List Question
together ns = in_turn (of_parents ns) 0 ns ++ (in_turn (of_bindings ns) 0 ns ++ of_root ns)

-- what is asked of a table, in this order: rule 1, and rule 2 of the declarations, whose place is 0; rules 2 to 5 of
-- one node after the other; then the nodes together
abbrev pub form_questions : Declarations → List Node → List Question
form_questions D ns = of_size D ns ++ (in_turn (of_node D ns) 0 ns ++ together ns)
