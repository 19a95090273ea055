-- The arguments of a predicate, of any kind: how many there are, and the first three.
use Rattle.std.specs.Prelude.{◌+◌, cond, List, take, replicate, Some, None, Option, nat_lt, slice_set}
use Rattle.table.specs.declared.arguments.Arguments.{Arguments}

abbrev pub no_arguments : {T : Type 0} → T → Arguments T
no_arguments filler = record { count = 0; first = replicate 3 filler }

-- the arguments, of which at most three are kept
abbrev pub kept : {T : Type 0} → Arguments T → List T
kept arguments = take arguments.count arguments.first

-- one more behind these: the first three are kept, and at most 255 are counted
abbrev pub with_argument : {T : Type 0} → Arguments T → T → Option (Arguments T)
with_argument arguments argument =
    cond (nat_lt arguments.count 255) (Some (record { count = arguments.count + 1; first = slice_set arguments.first arguments.count argument })) None
