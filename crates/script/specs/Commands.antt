-- The commands of a script, by the words of a line.
use Rattle.std.specs.Prelude.{ℕ, Bool, true, cond, List, [], ◌∷◌, is_some, Some, None, codes, Option, ◌==◌, slice_get}
use Rattle.std.specs.List.{list_all}
use Rattle.std.specs.Str.{bytes_eq}
use Rattle.script.specs.Facts.{values, fact, query}
use Rattle.script.specs.Kinds.{journal_kind, keeper_kind}
use Rattle.script.specs.Nodes.{node_in}
use Rattle.script.specs.Numbers.{number, wide, labelled}
use Rattle.script.specs.Reading.{and_then, alone, one, two, three}
use Rattle.script.specs.Verbs.{verb}
use Rattle.script.specs.Words.{words, optional}
use Rattle.script.specs.declared.command.Command.{Command}
use Rattle.script.specs.declared.command.Command.TheVariants as command
use Rattle.script.specs.declared.kinds.JournalKind.{JournalKind}
use Rattle.facts.specs.declared.Fact.{Fact}
use Rattle.table.specs.declared.arguments.Arguments.{Arguments}
use Rattle.script.specs.declared.verbs.Verb.{Verb}
use Rattle.script.specs.declared.verbs.Verb.TheVariants.{Table, Pred, Node, Check, Journal, Keeper, Open, Close, Buffer, Draft, Add, Abandon, Commit, Late, Poll, Polls, Entry, Entries, Rows, Find, Rehearse, End}

-- a line that is empty or begins with `#`
abbrev pub passed_over : List ℕ → Bool
passed_over [] = true
passed_over (b ∷ bs) = b == 35

-- one word that is a number of at most `most`
abbrev pub lone_number : ℕ → List (List ℕ) → Option ℕ
lone_number most words = and_then (one words) (number most)

-- P args=A given=G
abbrev pub pred : List (List ℕ) → Option Command
pred words =
    and_then (three words) (λ parts.
    and_then (number 63 parts.0) (λ predicate.
    and_then (labelled (codes "args=") 255 parts.1) (λ count.
    and_then (labelled (codes "given=") 255 parts.2) (λ mask.
    Some (command.Pred predicate (record { count = count; given = record { mask = mask } }))))))

-- a kind of journal, and its units
abbrev pub sized : List (List ℕ) → Option (JournalKind × ℕ)
sized words =
    and_then (two words) (λ parts.
    and_then (journal_kind parts.0) (λ k.
    and_then (number 18446744073709551615 parts.1) (λ units.
    Some (k, units))))

-- a kind of keeper
abbrev pub keeper : List (List ℕ) → Option Command
keeper words = and_then (one words) (λ word. and_then (keeper_kind word) (λ k. Some (command.Keeper k)))

-- S
abbrev pub draft : List (List ℕ) → Option Command
draft words = and_then (one words) (λ word. and_then (wide word) (λ stamp. Some (command.Draft stamp)))

-- FACT
abbrev pub add : List (List ℕ) → Option Command
add words = and_then (one words) (λ word. and_then (fact word) (λ f. Some (command.Add f)))

-- nothing, `joined`, `session`, or both in this order
abbrev pub layers : List (List ℕ) → Option Command
layers words =
    alone (command.Open (optional (codes "joined") words).0 (optional (codes "session") (optional (codes "joined") words).1).0)
    (optional (codes "session") (optional (codes "joined") words).1).1

-- whether each word is a fact
abbrev pub all_facts : List (List ℕ) → Bool
all_facts words = list_all (λ word. is_some (fact word)) words

-- nothing, or S FACT ..
abbrev pub commit : List (List ℕ) → Option Command
commit [] = Some command.Commit
commit (word ∷ words) = and_then (wide word) (λ stamp. cond (all_facts words) (Some (command.CommitFacts stamp)) None)

-- K FACT
abbrev pub late : List (List ℕ) → Option Command
late words =
    and_then (two words) (λ parts.
    and_then (number 18446744073709551615 parts.0) (λ position.
    and_then (fact parts.1) (λ f.
    Some (command.Late position f))))

-- nothing, or `after V,V,..`
abbrev pub after : List (List ℕ) → Option (Option (Arguments ℕ))
after [] = Some None
after (word ∷ words) = cond (bytes_eq word (codes "after")) (and_then (one words) (λ text. and_then (values text) (λ vs. Some (Some vs)))) None

-- K pP(X,X,..), and then perhaps `after V,V,..`
abbrev pub find_from : List ℕ → List (List ℕ) → Option Command
find_from place [] = None
find_from place (asked ∷ words) =
    and_then (number 18446744073709551615 place) (λ position.
    and_then (query asked) (λ q.
    and_then (after words) (λ vs.
    Some (command.Find position q vs))))

abbrev pub find : List (List ℕ) → Option Command
find [] = None
find (place ∷ words) = find_from place words

-- a command of this verb, from the words behind it
abbrev pub command_of : Verb → List (List ℕ) → Option Command
command_of Table words = alone command.Table words
command_of Pred words = pred words
command_of Node words = and_then (node_in words) (λ n. Some (command.Node n))
command_of Check words = alone command.Check words
command_of Journal words = and_then (sized words) (λ parts. Some (command.Journal parts.0 parts.1))
command_of Keeper words = keeper words
command_of Open words = layers words
command_of Close words = alone command.Close words
command_of Buffer words = and_then (lone_number 1000 words) (λ n. Some (command.Buffer n))
command_of Draft words = draft words
command_of Add words = add words
command_of Abandon words = alone command.Abandon words
command_of Commit words = commit words
command_of Late words = late words
command_of Poll words = alone command.Poll words
command_of Polls words = alone command.Polls words
command_of Entry words = and_then (lone_number 18446744073709551615 words) (λ n. Some (command.Entry n))
command_of Entries words = alone command.Entries words
command_of Rows words = and_then (lone_number 18446744073709551615 words) (λ n. Some (command.Rows n))
command_of Find words = find words
command_of Rehearse words = and_then (sized words) (λ parts. Some (command.Rehearse parts.0 parts.1))
command_of End words = alone command.End words

-- a command: its verb, and what belongs to it
abbrev pub command_in : List (List ℕ) → Option Command
command_in [] = None
command_in (word ∷ words) = and_then (verb word) (λ v. command_of v words)

-- the command that a line is
abbrev pub command_on : List ℕ → Option Command
command_on line = command_in (words line)

-- the fact at this index, from 0, of those behind the verb and the stamp
abbrev pub fact_in : List (List ℕ) → ℕ → Option Fact
fact_in [] index = None
fact_in (word ∷ []) index = None
fact_in (word ∷ (stamp ∷ facts)) index = and_then (slice_get facts index) fact

abbrev pub fact_on : List ℕ → ℕ → Option Fact
fact_on line index = fact_in (words line) index
