-- Whole bytes are the encoding of their items.
use Rattle.std.proofs.Common.{◌≡◌, ℕ, zero, suc, ◌+◌, ◌*◌, ◌/◌, ◌%◌, ◌<◌, ◌≤◌, Bool, true, false, cond, eqb, List, [], ◌∷◌, ◌++◌, length, drop, sym, refl, ap, ◌∙◌, append_assoc, mul-suc, arith, length-drop}
use Rattle.std.specs.List.{flat_map, AllByRecursion}
use Rattle.std.proofs.ByRecursion.{All-drop}
use Rattle.std.proofs.lemmas.List.{drop-drop}
use Rattle.std.proofs.lemmas.Bool.{and_parts, eqb-true}
use Rattle.packed.specs.Format.{mark, fact, le, num, nums, encode_item, encode, headed, more, item_at, items, whole, Canonical}
use Rattle.packed.specs.Digits.{length_nums}
use Rattle.packed.specs.Coding.{whole_skip}

omega_eq : (W k : ℕ) → W + W * k ≡ W * suc k
omega_eq W k = omega (arith, mul-suc W k)

le_num : (w : ℕ) (bs : List ℕ) → AllByRecursion (λ b. b < 256) bs → w ≤ length bs → le w (num w bs) ++ drop w bs ≡ bs
unfolding le num
le_num zero bs a h = refl
le_num (suc w) [] a h = absurd (omega arith)
le_num (suc w) (b ∷ bs) (a, r) h =
    let n = num w bs in
    let m : (b + 256 * n) % 256 ≡ b = omega arith in
    let d : (b + 256 * n) / 256 ≡ n = omega arith in
    rw (m, d) (ap (λ (l : List ℕ). b ∷ l) (le_num w bs r (omega arith)))

les_nums : (W k : ℕ) (bs : List ℕ) → AllByRecursion (λ b. b < 256) bs → W * k ≤ length bs → flat_map (le W) (nums W k bs) ++ drop (W * k) bs ≡ bs
unfolding nums
les_nums W zero bs a h = let e : W * 0 ≡ 0 = omega arith in rw e refl
les_nums W (suc k) bs a h =
    let s = mul-suc W k in
    let r = les_nums W k (drop W bs) (All-drop (λ b. b < 256) W bs a) (omega (arith, length-drop W bs)) in
    let e : drop (W * k) (drop W bs) ≡ drop (W * suc k) bs = drop-drop (W * k) W bs ∙ ap (λ (j : ℕ). drop j bs) (omega_eq W k) in
    append_assoc (le W (num W bs)) (flat_map (le W) (nums W k (drop W bs))) (drop (W * suc k) bs)
    ∙ ap (λ (l : List ℕ). le W (num W bs) ++ (flat_map (le W) (nums W k (drop W bs)) ++ l)) (sym e)
    ∙ ap (λ (l : List ℕ). le W (num W bs) ++ l) r
    ∙ le_num W bs a (omega arith)

-- the bytes of one item, and what follows them
module _ (W b : ℕ) (bs : List ℕ) (a : AllByRecursion (λ b. b < 256) bs) where
  one : (t : Bool) → eqb b 255 ≡ t → headed b ≡ true → cond t 4 (2 + W * (b / 32)) ≤ length bs
      → encode_item W (cond t (mark (num 4 bs)) (fact (b % 32) (num 2 bs) (nums W (b / 32) (drop 2 bs)))) ++ drop (cond t 4 (2 + W * (b / 32))) bs ≡ b ∷ bs
  one true e h l = ap (λ (n : ℕ). n ∷ (le 4 (num 4 bs) ++ drop 4 bs)) (sym (eqb-true b 255 e)) ∙ ap (λ (t : List ℕ). b ∷ t) (le_num 4 bs a l)
  one false e h l =
      let k = b / 32 in
      let head : b % 32 + 32 * length (nums W k (drop 2 bs)) ≡ b = omega (arith, length_nums W k (drop 2 bs)) in
      let d : drop (2 + W * k) bs ≡ drop (W * k) (drop 2 bs) = sym (drop-drop (W * k) 2 bs) in
      let vs = flat_map (le W) (nums W k (drop 2 bs)) in
      ap (λ (n : ℕ). n ∷ ((le 2 (num 2 bs) ++ vs) ++ drop (2 + W * k) bs)) head
      ∙ ap (λ (t : List ℕ). b ∷ t) (append_assoc (le 2 (num 2 bs)) vs (drop (2 + W * k) bs)
      ∙ ap (λ (t : List ℕ). le 2 (num 2 bs) ++ (vs ++ t)) d
      ∙ ap (λ (t : List ℕ). le 2 (num 2 bs) ++ t) (les_nums W k (drop 2 bs) (All-drop (λ b. b < 256) 2 bs a) (omega (arith, length-drop 2 bs)))
      ∙ le_num 2 bs a (omega arith))

  pub item_is : headed b ≡ true → more W b ≤ length bs → encode_item W (item_at W b bs) ++ drop (more W b) bs ≡ b ∷ bs
  item_is h l = one (eqb b 255) refl h l

from : (W n k : ℕ) (bs : List ℕ) → length bs ≤ n → AllByRecursion (λ b. b < 256) bs → whole W k bs ≡ true → encode W (items W k bs) ≡ drop k bs
unfolding whole items
from W n zero [] m a h = refl
from W n (suc k) [] m a h = refl
from W zero zero (b ∷ bs) m a h = absurd (omega arith)
from W zero (suc k) (b ∷ bs) m a h = absurd (omega arith)
from W (suc n) (suc k) (b ∷ bs) m (a, r) h = from W n k bs (omega arith) r h
from W (suc n) zero (b ∷ bs) m (a, r) h =
    let p = and_parts (headed b) (whole W (more W b) bs) h in
    ap (λ (l : List ℕ). encode_item W (item_at W b bs) ++ l) (from W n (more W b) bs (omega arith) r p.1)
    ∙ item_is W b bs r p.0 (whole_skip W (more W b) bs p.1).0

pub canonical : Canonical
canonical W bs a h = from W (length bs) 0 bs (omega arith) a h
