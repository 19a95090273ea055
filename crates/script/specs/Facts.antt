-- How facts and questions are written.
use Rattle.std.specs.Prelude.{ℕ, cond, List, length, Some, None, codes, Option, ◌==◌}
use Rattle.table.specs.declared.arguments.Arguments.{Arguments}
use Rattle.facts.specs.declared.Fact.{Fact}
use Rattle.facts.specs.declared.Query.{Query}
use Rattle.script.specs.Items.{parted, listed}
use Rattle.script.specs.Numbers.{wide, wide_unless, labelled}
use Rattle.script.specs.Pieces.{pieces}
use Rattle.script.specs.Reading.{and_then, two}

-- one or more values, parted by commas
abbrev pub values : List ℕ → Option (Arguments ℕ)
values text = parted wide 0 text

-- what stands before the one `)` of a text, which ends it
abbrev pub closed : List ℕ → Option (List ℕ)
closed text = and_then (two (pieces 41 text)) (λ parts. cond (length parts.1 == 0) (Some parts.0) None)

-- `pP(..)`: the predicate, from 0 to 255, and what stands between the parentheses
abbrev pub applied : List ℕ → Option (ℕ × List ℕ)
applied word =
    and_then (two (pieces 40 word)) (λ parts.
    and_then (labelled (codes "p") 255 parts.0) (λ predicate.
    and_then (closed parts.1) (λ inside.
    Some (predicate, inside))))

-- `pP(V,V,..)` or `pP()`
abbrev pub fact : List ℕ → Option Fact
fact word =
    and_then (applied word) (λ parts.
    and_then (listed wide 0 parts.1) (λ values.
    Some (record { predicate = parts.0; values = values })))

-- a place of a question: `_`, or a value that is given
abbrev pub place : List ℕ → Option (Option ℕ)
place = wide_unless (codes "_")

-- `pP(X,X,..)` or `pP()`, each X a value or `_`
abbrev pub query : List ℕ → Option Query
query word =
    and_then (applied word) (λ parts.
    and_then (listed place None parts.1) (λ given.
    Some (record { predicate = parts.0; given = given })))
