-- The closed list of refusals: each cause with its number, its layer and its words, and how a refusal is printed.
use Rattle.std.specs.Prelude.{ℕ, List, ◌++◌, codes, decimal}
use Rattle.refusal.specs.declared.Cause.{Cause}
use Rattle.refusal.specs.declared.Cause.TheVariants.{NodeCount, OverLimit, ChildNotBelow, NotDeclared, BadInterval, NotOneParent, BoundBefore, FreeAtRoot, NotSearchable, UnknownBelow, TooManyShown, BadFact, StampTooLow, NoRoom, MonitorFull, NotShown, BufferShort, NotKnown, ValueAbsent}
use Rattle.refusal.specs.declared.Layer.{Layer}
use Rattle.refusal.specs.declared.Layer.TheVariants.{Table, Mode, Monitor, Journal, Source}
use Rattle.refusal.specs.declared.Refusal.{Refusal}

-- the number of each cause
abbrev pub number_of : Cause → ℕ
number_of NodeCount = 1
number_of OverLimit = 2
number_of ChildNotBelow = 3
number_of NotDeclared = 4
number_of BadInterval = 5
number_of NotOneParent = 6
number_of BoundBefore = 7
number_of FreeAtRoot = 8
number_of NotSearchable = 9
number_of UnknownBelow = 10
number_of TooManyShown = 11
number_of BadFact = 12
number_of StampTooLow = 13
number_of NoRoom = 14
number_of MonitorFull = 15
number_of NotShown = 16
number_of BufferShort = 17
number_of NotKnown = 18
number_of ValueAbsent = 19

-- the layer that refuses for each cause
abbrev pub layer_of : Cause → Layer
layer_of NodeCount = Table
layer_of OverLimit = Table
layer_of ChildNotBelow = Table
layer_of NotDeclared = Table
layer_of BadInterval = Table
layer_of NotOneParent = Table
layer_of BoundBefore = Table
layer_of FreeAtRoot = Table
layer_of NotSearchable = Mode
layer_of UnknownBelow = Monitor
layer_of TooManyShown = Monitor
layer_of BadFact = Journal
layer_of StampTooLow = Journal
layer_of NoRoom = Journal
layer_of MonitorFull = Monitor
layer_of NotShown = Journal
layer_of BufferShort = Monitor
layer_of NotKnown = Source
layer_of ValueAbsent = Source

-- each layer's name, as it is printed
abbrev pub name_of : Layer → List ℕ
name_of Table = codes "table"
name_of Mode = codes "mode"
name_of Monitor = codes "monitor"
name_of Journal = codes "journal"
name_of Source = codes "source"

-- each cause in plain words
abbrev pub words_of : Cause → List ℕ
words_of NodeCount = codes "no nodes, or more than 32"
words_of OverLimit = codes "number over its limit, or given argument beyond the count"
words_of ChildNotBelow = codes "child not numbered below its parent"
words_of NotDeclared = codes "predicate not declared, or with another count"
words_of BadInterval = codes "lo above hi, or no hi on a future operator"
words_of NotOneParent = codes "not the root and not exactly once a child"
words_of BoundBefore = codes "variable bound already by a lower node"
words_of FreeAtRoot = codes "free variable at the root"
words_of NotSearchable = codes "not searchable"
words_of UnknownBelow = codes "declared predicate unknown below, or a needed argument not declared given"
words_of TooManyShown = codes "more than 4096 positions shown"
words_of BadFact = codes "fact with a predicate over 31 or more than 3 arguments"
words_of StampTooLow = codes "stamp below the least next stamp"
words_of NoRoom = codes "cost above the free units"
words_of MonitorFull = codes "4096 positions already"
words_of NotShown = codes "position not shown"
words_of BufferShort = codes "fact buffer full, or shorter than the draft"
words_of NotKnown = codes "predicate not known with this count"
words_of ValueAbsent = codes "needed value absent"

-- the refusal for a cause at a place
abbrev pub refusal_at : Cause → ℕ → Refusal
refusal_at c i = record { cause = c; place = i }

-- what a refusal prints: `refused 13 journal at 4 (stamp below the least next stamp)`
abbrev pub printed : Refusal → List ℕ
printed r =
    codes "refused " ++ (decimal (number_of r.cause) ++ (codes " " ++ (name_of (layer_of r.cause) ++ (codes " at " ++ (decimal r.place ++ (codes " (" ++ (words_of r.cause ++ codes ")")))))))
