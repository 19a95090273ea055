-- Sets of numbers, by their characteristic functions. Of a set of variables or of arguments the numbers 0 to 7 count.
use Rattle.std.specs.Prelude.{ℕ, Bool, false, not, ◌&&◌, ◌||◌, ◌==◌, nat_lt}
use Rattle.std.specs.Int.{bit_at}
use Rattle.sets.specs.declared.SmallSet.{SmallSet}

infixl 40 ◌∪◌ ◌∩◌ ◌∖◌
infixl 20 ◌⊆◌
abbrev pub NumberSet : Type 0
NumberSet = ℕ → Bool

-- the numbers whose bits are set, the lowest bit for 0
unfoldable pub members : SmallSet → NumberSet
members s v = bit_at s.mask v == 1

unfoldable pub none : NumberSet
none v = false

unfoldable pub ◌∪◌ : NumberSet → NumberSet → NumberSet
◌∪◌ K L v = K v || L v

unfoldable pub ◌∩◌ : NumberSet → NumberSet → NumberSet
◌∩◌ K L v = K v && L v

-- the numbers of the first set that are not in the second
unfoldable pub ◌∖◌ : NumberSet → NumberSet → NumberSet
◌∖◌ K L v = K v && not (L v)

unfoldable pub single : ℕ → NumberSet
single n v = n == v

unfoldable pub below : ℕ → NumberSet
below n v = nat_lt v n

-- none of the numbers 0 to 7 is in the set
unfoldable pub empty : NumberSet → Bool
empty K = not (K 0 || (K 1 || (K 2 || (K 3 || (K 4 || (K 5 || (K 6 || K 7)))))))

abbrev pub ◌⊆◌ : NumberSet → NumberSet → Bool
K ⊆ L = empty (K ∖ L)

-- the sets have a number in common
abbrev pub meets : NumberSet → NumberSet → Bool
meets K L = not (empty (K ∩ L))
