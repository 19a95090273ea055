-- A byte as a set of the numbers 0 to 7: what its bits say after each operation.
use Rattle.std.proofs.Common.{◌≡◌, ℕ, ◌-◌, ◌*◌, ◌%◌, ◌^◌, ◌<◌, ◌≤◌, min, max, Bool, false, not, ◌&&◌, ◌||◌, eqb, ltb, sym, refl, ap, ◌∙◌, inl, inr, arith, w8}
use Rattle.std.specs.Int.{bit_at}
use lib.Bits.{bit_and, bit_or}
use Rattle.std.proofs.lemmas.Bool.{eq-eqb, ne_eqb, lt-ltb, le-ltb, cases_lt, cases_eq, agree_below_at}
use Rattle.std.proofs.lemmas.Bool.Decides.{nat_tests}
use Rattle.std.proofs.lemmas.Nat.{pow_below}
use Rattle.std.proofs.lemmas.Nat.Bits.{bit_at-zero, bit_at_and, bit_at_or, bit_at_not, bit_at_above, bit_at_ones, bit_at_ones_above, bit_at-pow_same, bit_at-pow_other}
use Rattle.sets.specs.declared.SmallSet.{SmallSet}
use Rattle.sets.specs.Sets.{NumberSet, members, none, ◌∪◌, ◌∩◌, ◌∖◌, single, below, empty}

abbrev has : ℕ → ℕ → Bool
has m v = eqb (bit_at m v) 1

abbrev set : ℕ → SmallSet
set m = record { mask = m }

-- equal members make equal sets
pub same : {K L : NumberSet} → ((v : ℕ) → K v ≡ L v) → K ≡ L
same h = λ i v. h v i

test : (m n v : ℕ) → bit_at m v ≡ n → has m v ≡ eqb n 1
test m n v e = ap (λ b. eqb b 1) e

either : (x y : ℕ) → x < 2 → y < 2 → eqb (max x y) 1 ≡ (eqb x 1 || eqb y 1)
either x y p q = grind (arith, nat_tests)

both : (x y : ℕ) → x < 2 → y < 2 → eqb (min x y) 1 ≡ (eqb x 1 && eqb y 1)
both x y p q = grind (arith, nat_tests)

less : (x y : ℕ) → x < 2 → y < 2 → eqb (min x (1 - y)) 1 ≡ (eqb x 1 && not (eqb y 1))
less x y p q = grind (arith, nat_tests)

pub union : (a b : ℕ) → members (set (bit_or a b)) ≡ members (set a) ∪ members (set b)
unfolding members ◌∪◌
union a b = same (λ v. test (bit_or a b) _ v (bit_at_or a b v) ∙ either (bit_at a v) (bit_at b v) (omega arith) (omega arith))

pub intersection : (a b : ℕ) → members (set (bit_and a b)) ≡ members (set a) ∩ members (set b)
unfolding members ◌∩◌
intersection a b = same (λ v. test (bit_and a b) _ v (bit_at_and a b v) ∙ both (bit_at a v) (bit_at b v) (omega arith) (omega arith))

-- a byte has no number past 7
pub beyond : (m v : ℕ) → m < 256 → 8 ≤ v → members (set m) v ≡ false
unfolding members
beyond m v h k = test m 0 v (bit_at_above m 8 v h k)

pub within : (m v : ℕ) → has m v ≡ members (set m) v
unfolding members
within m v = refl

zero_min : (x y : ℕ) → x ≡ 0 → min x y ≡ 0
zero_min x y e = omega arith

minus_at : (a b v : ℕ) → a < 256 → b < 256 → has (bit_and a (255 - b)) v ≡ (has a v && not (has b v))
minus_at a b v h k = elim (cases_lt v 8) [
  | inl l ↦ test (bit_and a (255 - b)) _ v (bit_at_and a (255 - b) v ∙ ap (min (bit_at a v)) (bit_at_not w8 b v k l)) ∙ less (bit_at a v) (bit_at b v) (omega arith) (omega arith)
  | inr g ↦
      let z = bit_at_above a 8 v h g in
      test (bit_and a (255 - b)) 0 v (bit_at_and a (255 - b) v ∙ zero_min _ _ z) ∙ sym (ap (λ n. eqb n 1 && not (has b v)) z)
]

pub minus : (a b : ℕ) → a < 256 → b < 256 → members (set (bit_and a (255 - b))) ≡ members (set a) ∖ members (set b)
unfolding members ◌∖◌
minus a b h k = same (λ v. minus_at a b v h k)

pub of_none : members (set 0) ≡ none
unfolding members none
of_none = same (λ v. test 0 0 v (bit_at-zero v))

-- a power of two has the one number
shifted : (n : ℕ) → n < 8 → 1 * 2 ^ n % 256 ≡ 2 ^ n
shifted n h = omega (arith, pow_below n 8 h)

pub one : (n : ℕ) → n < 8 → members (set (1 * 2 ^ n % 256)) ≡ single n
unfolding members single
one n h = rw (shifted n h) (same (λ v. elim (cases_eq v n) [
  | inl e ↦ test (2 ^ n) 1 v (rw e (bit_at-pow_same n)) ∙ sym (eq-eqb n v (sym e))
  | inr d ↦ test (2 ^ n) 0 v (bit_at-pow_other n v d) ∙ sym (ne_eqb n v (λ e. d (sym e)))
]))

-- a number one below it has those before
ones : (n v : ℕ) → has (2 ^ n - 1) v ≡ ltb v n
ones n v = elim (cases_lt v n) [
  | inl l ↦ test (2 ^ n - 1) 1 v (bit_at_ones n v l) ∙ sym (lt-ltb v n l)
  | inr g ↦ test (2 ^ n - 1) 0 v (bit_at_ones_above n v g) ∙ sym (le-ltb v n g)
]

pub first : (n : ℕ) → n < 8 → members (set (1 * 2 ^ n % 256 - 1)) ≡ below n
unfolding members below
first n h = rw (shifted n h) (same (ones n))

pub full : members (set 255) ≡ below 8
unfolding members below
full = same (ones 8)

pub nothing : (m : ℕ) → m < 256 → eqb m 0 ≡ empty (members (set m))
unfolding members empty
nothing m h =
    agree_below_at (λ m. eqb m 0) (λ m. not (has m 0 || (has m 1 || (has m 2 || (has m 3 || (has m 4 || (has m 5 || (has m 6 || has m 7)))))))) 256 m refl h

-- what each operation of a set says
pub ruleset masks = (union, intersection, minus, of_none, one, first, full, nothing, beyond, within)
