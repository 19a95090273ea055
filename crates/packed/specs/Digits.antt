use Rattle.std.specs.Prelude.{◌≡◌, ℕ, zero, suc, ◌+◌, ◌*◌, ◌/◌, ◌^◌, ◌<◌, ◌≤◌, List, [], ◌∷◌, ◌++◌, length, drop, refl}
use Rattle.std.proofs.Common.{ap, ◌∙◌, append_assoc, arith, pow-suc, mul-suc, length-append, length-drop}
use Rattle.std.specs.List.{flat_map, AllByRecursion}
use Rattle.std.proofs.lemmas.List.{drop_at, drop-append-le}
use Rattle.packed.specs.Format.{le, num, nums}

pub length_le : (w n : ℕ) → length (le w n) ≡ w
unfolding le
length_le zero n = refl
length_le (suc w) n = ap suc (length_le w (n / 256))

pub length_les : (W : ℕ) (vs : List ℕ) → length (flat_map (le W) vs) ≡ W * length vs
length_les W [] = omega arith
length_les W (v ∷ vs) = length-append (le W v) (flat_map (le W) vs) ∙ omega (arith, length_le W v, length_les W vs, mul-suc W (length vs))

pub num_le : (w n : ℕ) (bs : List ℕ) → n < 256 ^ w → num w (le w n ++ bs) ≡ n
unfolding le num
num_le zero n bs h = omega arith
num_le (suc w) n bs h =
    let l : n / 256 < 256 ^ w = omega (arith, pow-suc 256 w) in
    omega (arith, num_le w (n / 256) bs l)

pub num_front : (w : ℕ) (xs ys : List ℕ) → w ≤ length xs → num w (xs ++ ys) ≡ num w xs
unfolding num
num_front zero xs ys h = refl
num_front (suc w) [] ys h = omega arith
num_front (suc w) (x ∷ xs) ys h = ap (λ (n : ℕ). x + 256 * n) (num_front w xs ys (omega arith))

pub nums_les : (W : ℕ) (vs bs : List ℕ) → AllByRecursion (λ v. v < 256 ^ W) vs → nums W (length vs) (flat_map (le W) vs ++ bs) ≡ vs
unfolding nums
nums_les W [] bs h = refl
nums_les W (v ∷ vs) bs (h, hs) =
    rw (append_assoc (le W v) (flat_map (le W) vs) bs, num_le W v (flat_map (le W) vs ++ bs) h, drop_at (le W v) (flat_map (le W) vs ++ bs) W (length_le W v))
    (ap (λ (l : List ℕ). v ∷ l) (nums_les W vs bs hs))

pub nums_front : (W k : ℕ) (xs ys : List ℕ) → W * k ≤ length xs → nums W k (xs ++ ys) ≡ nums W k xs
unfolding nums
nums_front W zero xs ys h = refl
nums_front W (suc k) xs ys h =
    let a : W ≤ length xs = omega (arith, mul-suc W k) in
    let l : W * k ≤ length (drop W xs) = omega (arith, mul-suc W k, length-drop W xs) in
    rw (num_front W xs ys a, drop-append-le W xs ys a) (ap (λ (t : List ℕ). num W xs ∷ t) (nums_front W k (drop W xs) ys l))

pub length_nums : (W k : ℕ) (bs : List ℕ) → length (nums W k bs) ≡ k
unfolding nums
length_nums W zero bs = refl
length_nums W (suc k) bs = ap suc (length_nums W k (drop W bs))
