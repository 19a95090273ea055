-- Lists of three, what is cut off them, and the order of arguments.
use Rattle.std.proofs.Common.{◌≡◌, ℕ, zero, suc, ◌+◌, ◌<◌, ◌≤◌, min, Bool, ◌&&◌, List, [], ◌∷◌, ◌++◌, length, get_or, take, drop, Some, None, Ok, Err, Option, Result, sym, refl, ap, ◌∙◌, inl, inr, arith, take_all}
use Rattle.std.specs.List.{list_all, zip, range_with_len, position, position_from}
use Rattle.std.proofs.lemmas.Iterator.Adapters.{position_from-zero}
use Rattle.refusal.specs.declared.Refusal.{Refusal}
use Rattle.std.proofs.lemmas.Bool.{cases_lt, cases_Bool}
use Rattle.refusal.specs.Causes.{refusal_at}
use Rattle.refusal.specs.declared.Cause.{Cause}
use Rattle.refusal.specs.declared.Cause.TheVariants.{ValueAbsent}
use Rattle.sets.specs.Sets.{NumberSet}
use Rattle.facts.specs.Facts.{given, missing}
use Rattle.facts.specs.Tuples.{three, padded, allows, agrees}

pub take_min : {X : Type 0} (n m : ℕ) (xs : List X) → length xs ≡ m → take (min n m) xs ≡ take n xs
take_min {X} n m xs e = elim (cases_lt n m) [
  | inl l ↦ ap (λ (k : ℕ). take k xs) (omega arith)
  | inr l ↦ ap (λ (k : ℕ). take k xs) (let d : min n m ≡ m = omega arith in d) ∙ take_all m xs (omega (arith, e)) ∙ sym (take_all n xs (omega (arith, e)))
]

-- what is given, place by place
pub agrees_pairs : (gs : List (Option ℕ)) (vs : List ℕ) → list_all (λ p. allows p.0 p.1) (zip gs vs) ≡ agrees gs vs
agrees_pairs [] vs = refl
agrees_pairs (g ∷ gs) [] = refl
agrees_pairs (g ∷ gs) (v ∷ vs) = ap (λ (b : Bool). allows g v && b) (agrees_pairs gs vs)

-- refused for a cause at an index, where there is one
abbrev pub refused : Cause → Option ℕ → Result (Unit {0}) Refusal
refused c None = Ok tt
refused c (Some i) = Err (refusal_at c i)

-- what must be given, place by place
refused_from : (K : NumberSet) (i : ℕ) (gs : List (Option ℕ)) → refused ValueAbsent (position_from (λ p. missing K p.0 p.1) i (zip (range_with_len i (length gs)) gs)) ≡ given K i gs
refused_from K i [] = refl
refused_from K i (g ∷ gs) = elim (cases_Bool (missing K i g)) [ inl o ↦ rw o refl | inr o ↦ rw o (refused_from K (i + 1) gs) ]

pub refused_first : (K : NumberSet) (gs : List (Option ℕ)) → refused ValueAbsent (position (λ p. missing K p.0 p.1) (zip (range_with_len 0 (length gs)) gs)) ≡ given K 0 gs
refused_first K gs = ap (refused ValueAbsent) (position_from-zero (λ (p : ℕ × Option ℕ). missing K p.0 p.1) (zip (range_with_len 0 (length gs)) gs)) ∙ refused_from K 0 gs

-- a list of three
pub of_three : {X : Type 0} (d : X) (xs : List X) → length xs ≡ 3 → xs ≡ get_or xs 0 d ∷ get_or xs 1 d ∷ get_or xs 2 d ∷ []
of_three d (a ∷ b ∷ c ∷ []) e = refl
of_three d (a ∷ b ∷ c ∷ x ∷ xs) e = absurd (omega (arith, e))
of_three d (a ∷ b ∷ []) e = absurd (omega (arith, e))
of_three d (a ∷ []) e = absurd (omega (arith, e))
of_three d [] e = absurd (omega (arith, e))

-- up to three values, and what is left of a tuple of 0 behind them
pub padded_front : (vs : List ℕ) → length vs ≤ 3 → vs ++ drop (length vs) (0 ∷ 0 ∷ 0 ∷ []) ≡ padded vs
padded_front [] h = refl
padded_front (a ∷ []) h = refl
padded_front (a ∷ b ∷ []) h = refl
padded_front (a ∷ b ∷ c ∷ []) h = refl
padded_front (a ∷ b ∷ c ∷ d ∷ vs) h = absurd (omega (arith, h))

-- as many arguments as there should be
pub three_taken : (n : ℕ) (vs : List ℕ) → n < 4 → length (take n (three vs)) ≡ n
three_taken zero vs h = refl
three_taken (suc zero) vs h = refl
three_taken (suc (suc zero)) vs h = refl
three_taken (suc (suc (suc zero))) vs h = refl
three_taken (suc (suc (suc (suc n)))) vs h = absurd (omega arith)
