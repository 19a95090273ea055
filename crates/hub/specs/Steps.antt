-- What each command does to the hub, and what it answers.
use Rattle.std.specs.Prelude.{◌≡◌, ℕ, ◌<◌, ◌≤◌, Bool, filter, List, [], ◌∷◌, ◌++◌, length, replicate, Some, None, vec_items, Option, slice_set}
use Rattle.std.specs.List.{range_with_len}
use Rattle.refusal.specs.Causes.{refusal_at}
use Rattle.refusal.specs.declared.Cause.TheVariants.{OverLimit}
use Rattle.policy.specs.declared.Policy.{Policy}
use Rattle.policy.specs.Checked.{nodes_of, declarations_of}
use Rattle.policy.specs.Modes.{cached}
use Rattle.policy.specs.Verdict.{refusal_of}
use Rattle.policy.specs.Wait.{wait}
use Rattle.script.specs.declared.Command.{Command}
use Rattle.script.specs.declared.Command.TheVariants as command
use Rattle.table.specs.declared.Declaration.{Declaration}
use Rattle.table.specs.declared.Node.{Node}
use Rattle.table.specs.declared.Table.{Table}
use Rattle.table.specs.Formula.{formula_at, root_of}
use Rattle.hub.specs.declared.answer.Answer.{Answer}
use Rattle.hub.specs.declared.answer.Answer.TheVariants as answer
use Rattle.hub.specs.declared.hub.Hub.{Hub}

-- the hub has an empty table; its policy is as it was
abbrev pub Empty : Option Table → Type 0
Empty None = ⊥
Empty (Some t) = (t.declarations ≡ replicate 64 None) × (vec_items t.nodes ≡ [])

pub record Begun (before : Hub) (a : Answer) (after : Hub) : Type 0 where
  pub says : a ≡ answer.EmptyTable
  pub empty : Empty after.table
  pub kept : after.policy ≡ before.policy

-- a predicate was declared, in place of an earlier declaration, or refused as over 63; with no table nothing was done
abbrev pub DeclaredIn : ℕ → Declaration → Option Table → Answer → Option Table → Type 0
DeclaredIn p d None a u = (a ≡ answer.NothingToDo) × (u ≡ None)
DeclaredIn p d (Some t) (answer.Predicate q) (Some u) = (p ≤ 63) × (q ≡ p) × (u.declarations ≡ slice_set t.declarations p (Some d)) × (u.nodes ≡ t.nodes)
DeclaredIn p d (Some t) (answer.Refused r) (Some u) = (63 < p) × (r ≡ refusal_at OverLimit 0) × (u.declarations ≡ t.declarations) × (u.nodes ≡ t.nodes)
DeclaredIn p d (Some t) a u = ⊥

pub record Declared (p : ℕ) (d : Declaration) (before : Hub) (a : Answer) (after : Hub) : Type 0 where
  pub declared : DeclaredIn p d before.table a after.table
  pub kept : after.policy ≡ before.policy

-- a node was appended, and its number is the count of nodes before it; with no table nothing was done
abbrev pub AppendedIn : Node → Option Table → Answer → Option Table → Type 0
AppendedIn n None a u = (a ≡ answer.NothingToDo) × (u ≡ None)
AppendedIn n (Some t) a None = ⊥
AppendedIn n (Some t) a (Some u) = (a ≡ answer.Node (length (vec_items t.nodes))) × (vec_items u.nodes ≡ vec_items t.nodes ++ (n ∷ [])) × (u.declarations ≡ t.declarations)

pub record Appended (n : Node) (before : Hub) (a : Answer) (after : Hub) : Type 0 where
  pub appended : AppendedIn n before.table a after.table
  pub kept : after.policy ≡ before.policy

-- whether a node of a policy keeps rows
abbrev pub keeps : Policy → ℕ → Bool
keeps p n = cached (declarations_of p) (formula_at (nodes_of p) n)

-- the nodes of a policy that keep rows, in order
abbrev pub cached_in : Policy → List ℕ
cached_in p = filter (keeps p) (range_with_len 0 (length (nodes_of p)))

-- a policy was made of the table: its wait and its cached nodes are told
pub record Told (t : Table) (seconds : ℕ) (numbers : List ℕ) (p : Policy) : Type 0 where
  pub accepted : refusal_of t.declarations (vec_items t.nodes) ≡ None
  pub nodes : nodes_of p ≡ vec_items t.nodes
  pub declarations : declarations_of p ≡ t.declarations
  pub waits : seconds ≡ wait (formula_at (nodes_of p) (root_of (nodes_of p)))
  pub caches : numbers ≡ cached_in p

-- the hub has a new policy where the table was accepted, and else the one from before
abbrev pub CheckedIn : Option Table → Answer → Option Policy → Option Policy → Type 0
CheckedIn None a before after = (a ≡ answer.NothingToDo) × (after ≡ before)
CheckedIn (Some t) (answer.Accepted w c) before (Some p) = Told t w (vec_items c) p
CheckedIn (Some t) (answer.Refused r) before after = (refusal_of t.declarations (vec_items t.nodes) ≡ Some r) × (after ≡ before)
CheckedIn (Some t) a before after = ⊥

pub record Checked (before : Hub) (a : Answer) (after : Hub) : Type 0 where
  pub checked : CheckedIn before.table a before.policy after.policy
  pub kept : after.table ≡ before.table

-- nothing was done
pub record Idle (before : Hub) (a : Answer) (after : Hub) : Type 0 where
  pub says : a ≡ answer.NothingToDo
  pub kept : after ≡ before

-- what a command does
abbrev pub Carried : Command → Hub → Answer → Hub → Type 0
Carried command.Table before a after = Begun before a after
Carried (command.Pred p d) before a after = Declared p d before a after
Carried (command.Node n) before a after = Appended n before a after
Carried command.Check before a after = Checked before a after
Carried c before a after = Idle before a after
