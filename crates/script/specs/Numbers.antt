-- What a number is: one or more digits, with its decimal value up to a bound.
use Rattle.std.specs.Prelude.{ℕ, ◌+◌, ◌-◌, ◌*◌, Bool, true, false, cond, ◌&&◌, List, [], ◌∷◌, Some, None, Option, nat_le}
use Rattle.std.specs.Str.{bytes_eq}
use Rattle.script.specs.Reading.{and_then, behind}

-- a digit, from `0` to `9`
abbrev pub is_digit : ℕ → Bool
is_digit b = nat_le 48 b && nat_le b 57

-- whether each byte is a digit
abbrev pub digits : List ℕ → Bool
digits [] = true
digits (b ∷ bs) = is_digit b && digits bs

-- one or more digits
abbrev pub numeral : List ℕ → Bool
numeral [] = false
numeral (b ∷ bs) = digits (b ∷ bs)

-- the value of digits, behind those of the value n
abbrev pub value_on : ℕ → List ℕ → ℕ
value_on n [] = n
value_on n (b ∷ bs) = value_on (n * 10 + (b - 48)) bs

-- the decimal value of digits
abbrev pub value : List ℕ → ℕ
value word = value_on 0 word

-- a word that is a number of at most `most`
unfoldable pub number : ℕ → List ℕ → Option ℕ
number most word = cond (numeral word && nat_le (value word) most) (Some (value word)) None

-- a number that fits 32 bits: a value, a stamp or an end of an interval
abbrev pub wide : List ℕ → Option ℕ
wide word = number 4294967295 word

-- a number that fits 32 bits, or none where the word is `absent`
abbrev pub wide_unless : List ℕ → List ℕ → Option (Option ℕ)
wide_unless absent word = cond (bytes_eq word absent) (Some None) (and_then (wide word) (λ n. Some (Some n)))

-- one digit more behind the value n, up to `most`
abbrev pub one_more : ℕ → ℕ → ℕ → Option ℕ
one_more most n b = cond (is_digit b && nat_le (n * 10 + (b - 48)) most) (Some (n * 10 + (b - 48))) None

-- a number of at most `most` behind a label
abbrev pub labelled : List ℕ → ℕ → List ℕ → Option ℕ
labelled label most word = and_then (behind label word) (number most)
