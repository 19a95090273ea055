-- Reading a number digit by digit.
use Rattle.std.proofs.Common.{◌≡◌, ℕ, ◌+◌, ◌-◌, ◌*◌, ◌≤◌, Bool, true, false, cond, ◌&&◌, leb, List, [], ◌∷◌, length, Some, None, Option, refl, arith, leb-false, leb-true}
use borrow.Author.Tests.{lt-leb}
use Rattle.std.specs.Prelude.{IfSome}
use Rattle.std.proofs.lemmas.Grind.{common_steps}
use Rattle.script.specs.Numbers.{is_digit, digits, numeral, value_on, value, number, one_more}
use Rattle.script.specs.Reading.{and_then, try_fold}

-- more digits make no smaller value
grows : (n : ℕ) (word : List ℕ) → n ≤ value_on n word
grows n [] = omega arith
grows n (b ∷ bs) = omega (arith, grows (n * 10 + (b - 48)) bs)

-- one digit: it is read if it is one and the value stays at most `most`, and so do the digits behind it
digit_more : (d t e u : Bool) (m v : ℕ) (rest : ℕ → Option ℕ) → (t ≡ true → rest m ≡ cond (e && u) (Some v) None) → (t ≡ false → u ≡ false)
    → and_then (cond (d && t) (Some m) None) rest ≡ cond ((d && e) && u) (Some v) None
digit_more true true e u m v rest behind over = behind refl
digit_more true false true u m v rest behind over = rw (over refl) refl
digit_more true false false u m v rest behind over = refl
digit_more false t e u m v rest behind over = refl

-- what the digits of a word make behind the value n
on_from : (most n : ℕ) (word : List ℕ) → n ≤ most → try_fold (one_more most) n word ≡ cond (digits word && leb (value_on n word) most) (Some (value_on n word)) None
on_from most n [] h = grind (arith, common_steps)
on_from most n (b ∷ bs) h =
    let m = n * 10 + (b - 48) in
    digit_more (is_digit b) (leb m most) (digits bs) (leb (value_on m bs) most) m (value_on m bs) (λ k. try_fold (one_more most) k bs)
    (λ fits. on_from most m bs (leb-true m most fits))
    (λ over. lt-leb (value_on m bs) most (omega (arith, leb-false m most over, grows m bs)))

pub of_digits : (most : ℕ) (word : List ℕ) → ¬ (length word ≡ 0) → try_fold (one_more most) 0 word ≡ number most word
unfolding number
of_digits most [] h = absurd (h refl)
of_digits most (b ∷ bs) h = on_from most 0 (b ∷ bs) (omega arith)

pub none_of_none : (most : ℕ) (word : List ℕ) → length word ≡ 0 → None ≡ number most word
unfolding number
none_of_none most [] h = refl
none_of_none most (b ∷ bs) h = absurd (omega (arith, h))

within : (d t : Bool) (most n : ℕ) → (t ≡ true → n ≤ most) → IfSome (cond (d && t) (Some n) None) (λ m. m ≤ most)
within true true most n h = h refl
within true false most n h = tt
within false t most n h = tt

pub bounded : (most : ℕ) (word : List ℕ) → IfSome (number most word) (λ n. n ≤ most)
unfolding number
bounded most word = within (numeral word) (leb (value word) most) most (value word) (leb-true (value word) most)
