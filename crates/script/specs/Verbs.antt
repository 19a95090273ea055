-- The words that name a command.
use Rattle.std.specs.Prelude.{◌≡◌, ℕ, List, [], ◌∷◌, Some, codes, Option}
use Rattle.std.proofs.Common.{rules}
use Rattle.script.specs.Keywords.{spelled}
use Rattle.script.specs.declared.verbs.Verb.{Verb}
use Rattle.script.specs.declared.verbs.Verb.TheVariants.{Table, Pred, Node, Check, Journal, Keeper, Open, Close, Buffer, Draft, Add, Abandon, Commit, Late, Poll, Polls, Entry, Entries, Rows, Find, Rehearse, End}

-- how each verb is spelled
abbrev pub spelling : Verb → List ℕ
spelling Table = codes "table"
spelling Pred = codes "pred"
spelling Node = codes "node"
spelling Check = codes "check"
spelling Journal = codes "journal"
spelling Keeper = codes "keeper"
spelling Open = codes "open"
spelling Close = codes "close"
spelling Buffer = codes "buffer"
spelling Draft = codes "draft"
spelling Add = codes "add"
spelling Abandon = codes "abandon"
spelling Commit = codes "commit"
spelling Late = codes "late"
spelling Poll = codes "poll"
spelling Polls = codes "polls"
spelling Entry = codes "entry"
spelling Entries = codes "entries"
spelling Rows = codes "rows"
spelling Find = codes "find"
spelling Rehearse = codes "rehearse"
spelling End = codes "end"

-- every verb
abbrev pub verbs : List Verb
verbs = Table ∷ (Pred ∷ (Node ∷ (Check ∷ (Journal ∷ (Keeper ∷ (Open ∷ (Close ∷ (Buffer ∷ (Draft ∷ (Add ∷ (Abandon ∷ (Commit ∷ (Late ∷ (Poll ∷ (Polls ∷ (Entry ∷ (Entries ∷ (Rows ∷ (Find ∷ (Rehearse ∷ (End ∷ [])))))))))))))))))))))

-- the verb that a word names
abbrev pub verb : List ℕ → Option Verb
verb word = spelled spelling verbs word

-- each verb is named by its spelling
pub named : (v : Verb) → spelled spelling verbs (spelling v) ≡ Some v
unfolding spelled
named v = search rules
