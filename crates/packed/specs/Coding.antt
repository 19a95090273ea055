use Rattle.std.specs.Prelude.{◌≡◌, ℕ, zero, suc, ◌+◌, ◌*◌, ◌/◌, ◌%◌, ◌^◌, ◌<◌, ◌≤◌, Bool, true, false, cond, ◌||◌, List, [], ◌∷◌, ◌++◌, length, drop, ◌==◌, nat_eq, nat_lt, refl}
use Rattle.std.proofs.Common.{sym, ap, ◌∙◌, append_assoc, append-nil, arith, length-append, length-drop}
use Rattle.std.specs.List.{flat_map, AllByRecursion}
use Rattle.std.proofs.lemmas.List.{drop_at, drop-append-le}
use Rattle.std.proofs.lemmas.Bool.{and_parts, and_from, or_right, ne_eqb, lt-ltb, false≢true}
use Rattle.packed.specs.Format.{Item, mark, fact, le, num, nums, encode_item, encode, Good, more, item_at, items, whole, items_of, Whole, Puts, RoundTrip}
use Rattle.packed.specs.Digits.{length_le, length_les, num_le, num_front, nums_les, nums_front}

pub items_skip : (W k : ℕ) (bs : List ℕ) → items W k bs ≡ items W 0 (drop k bs)
unfolding items
items_skip W zero bs = refl
items_skip W (suc k) [] = refl
items_skip W (suc k) (b ∷ bs) = items_skip W k bs

pub whole_skip : (W k : ℕ) (bs : List ℕ) → whole W k bs ≡ true → (k ≤ length bs) × (whole W 0 (drop k bs) ≡ true)
unfolding whole
whole_skip W zero bs h = (omega arith, h)
whole_skip W (suc k) [] h = absurd (false≢true h)
whole_skip W (suc k) (b ∷ bs) h = let r = whole_skip W k bs h in (omega (arith, r.0), r.1)

front : (W b : ℕ) (bs ys : List ℕ) (t : Bool) → cond t 4 (2 + W * (b / 32)) ≤ length bs
    → cond t (mark (num 4 (bs ++ ys))) (fact (b % 32) (num 2 (bs ++ ys)) (nums W (b / 32) (drop 2 (bs ++ ys))))
    ≡ cond t (mark (num 4 bs)) (fact (b % 32) (num 2 bs) (nums W (b / 32) (drop 2 bs)))
front W b bs ys true h = ap mark (num_front 4 bs ys h)
front W b bs ys false h =
    let a : 2 ≤ length bs = omega arith in
    let l : W * (b / 32) ≤ length (drop 2 bs) = omega (arith, length-drop 2 bs) in
    rw (num_front 2 bs ys a, drop-append-le 2 bs ys a, nums_front W (b / 32) (drop 2 bs) ys l) refl

pub item_front : (W b : ℕ) (bs ys : List ℕ) → more W b ≤ length bs → item_at W b (bs ++ ys) ≡ item_at W b bs
item_front W b bs ys h = front W b bs ys (b == 255) h

pub whole_append : (W k : ℕ) (xs ys : List ℕ) → whole W k xs ≡ true → whole W k (xs ++ ys) ≡ whole W 0 ys
unfolding whole
whole_append W zero [] ys h = refl
whole_append W (suc k) [] ys h = absurd (false≢true h)
whole_append W zero (b ∷ bs) ys h =
    let p = and_parts (b == 255 || nat_lt b 128) (whole W (more W b) bs) h in
    rw p.0 (whole_append W (more W b) bs ys p.1)
whole_append W (suc k) (b ∷ bs) ys h = whole_append W k bs ys h

pub items_append : (W k : ℕ) (xs ys : List ℕ) → whole W k xs ≡ true → items W k (xs ++ ys) ≡ items W k xs ++ items W 0 ys
unfolding whole items
items_append W zero [] ys h = refl
items_append W (suc k) [] ys h = absurd (false≢true h)
items_append W zero (b ∷ bs) ys h =
    let p = and_parts (b == 255 || nat_lt b 128) (whole W (more W b) bs) h in
    rw (item_front W b bs ys (whole_skip W (more W b) bs p.1).0) (ap (λ (l : List Item). item_at W b bs ∷ l) (items_append W (more W b) bs ys p.1))
items_append W (suc k) (b ∷ bs) ys h = items_append W k bs ys h

whole_exact : (W : ℕ) (bs : List ℕ) → whole W (length bs) bs ≡ true
unfolding whole
whole_exact W [] = refl
whole_exact W (b ∷ bs) = whole_exact W bs

items_exact : (W : ℕ) (bs : List ℕ) → items W (length bs) bs ≡ []
unfolding items
items_exact W [] = refl
items_exact W (b ∷ bs) = items_exact W bs

-- one item, written and read
whole_head : (W b : ℕ) (bs : List ℕ) → (b == 255 || nat_lt b 128) ≡ true → length bs ≡ more W b → whole W 0 (b ∷ bs) ≡ true
unfolding whole
whole_head W b bs h e = and_from (b == 255 || nat_lt b 128) (whole W (more W b) bs) h (ap (λ (k : ℕ). whole W k bs) (sym e) ∙ whole_exact W bs)

items_head : (W b : ℕ) (bs : List ℕ) → length bs ≡ more W b → items W 0 (b ∷ bs) ≡ item_at W b bs ∷ []
unfolding items
items_head W b bs e = ap (λ (l : List Item). item_at W b bs ∷ l) (ap (λ (k : ℕ). items W k bs) (sym e) ∙ items_exact W bs)

num_le_nil : (w n : ℕ) → n < 256 ^ w → num w (le w n) ≡ n
num_le_nil w n h = ap (num w) (sym (append-nil (le w n))) ∙ num_le w n [] h

nums_les_nil : (W : ℕ) (vs : List ℕ) → AllByRecursion (λ v. v < 256 ^ W) vs → nums W (length vs) (flat_map (le W) vs) ≡ vs
nums_les_nil W vs h = ap (nums W (length vs)) (sym (append-nil (flat_map (le W) vs))) ∙ nums_les W vs [] h

more_fact : (W b n : ℕ) → (b == 255) ≡ false → b / 32 ≡ n → more W b ≡ 2 + W * n
more_fact W b n e d = rw e (ap (λ (k : ℕ). 2 + W * k) d)

item_fact : (W b n : ℕ) (bs : List ℕ) → (b == 255) ≡ false → b / 32 ≡ n → item_at W b bs ≡ fact (b % 32) (num 2 bs) (nums W n (drop 2 bs))
item_fact W b n bs e d = rw e (ap (λ (k : ℕ). fact (b % 32) (num 2 bs) (nums W k (drop 2 bs))) d)

pub whole_item : (W : ℕ) (x : Item) → Good W x → Whole W (encode_item W x)
whole_item W (mark s) g = whole_head W 255 (le 4 s) refl (length_le 4 s)
whole_item W (fact q p vs) (a, b, c, d) =
    let h = q + 32 * length vs in
    let ne : nat_eq h 255 ≡ false = ne_eqb h 255 (λ e. omega arith) in
    whole_head W h (le 2 p ++ flat_map (le W) vs) (or_right (h == 255) (nat_lt h 128) (lt-ltb h 128 (omega arith)))
    (length-append (le 2 p) (flat_map (le W) vs) ∙ omega (arith, length_le 2 p, length_les W vs, more_fact W h (length vs) ne (omega arith)))

pub items_item : (W : ℕ) (x : Item) → Good W x → items_of W (encode_item W x) ≡ x ∷ []
items_item W (mark s) g = items_head W 255 (le 4 s) (length_le 4 s) ∙ ap (λ (n : ℕ). mark n ∷ []) (num_le_nil 4 s g)
items_item W (fact q p vs) (a, b, c, d) =
    let h = q + 32 * length vs in
    let bs = le 2 p ++ flat_map (le W) vs in
    let ne : nat_eq h 255 ≡ false = ne_eqb h 255 (λ e. omega arith) in
    let dv : h / 32 ≡ length vs = omega arith in
    let md : h % 32 ≡ q = omega arith in
    items_head W h bs (length-append (le 2 p) (flat_map (le W) vs) ∙ omega (arith, length_le 2 p, length_les W vs, more_fact W h (length vs) ne dv))
    ∙ ap (λ (x : Item). x ∷ []) (item_fact W h (length vs) bs ne dv
    ∙ rw (md, num_le 2 p (flat_map (le W) vs) b, drop_at (le 2 p) (flat_map (le W) vs) 2 (length_le 2 p), nums_les_nil W vs d) refl)

pub whole_encode : (W : ℕ) (xs : List Item) → AllByRecursion (Good W) xs → Whole W (encode W xs)
unfolding whole
whole_encode W [] g = refl
whole_encode W (x ∷ xs) (g, gs) = whole_append W 0 (encode_item W x) (encode W xs) (whole_item W x g) ∙ whole_encode W xs gs

pub items_encode : (W : ℕ) (xs : List Item) → AllByRecursion (Good W) xs → items_of W (encode W xs) ≡ xs
unfolding items
items_encode W [] g = refl
items_encode W (x ∷ xs) (g, gs) =
    items_append W 0 (encode_item W x) (encode W xs) (whole_item W x g)
    ∙ rw (items_item W x g) (ap (λ (l : List Item). x ∷ l) (items_encode W xs gs))

pub round_trip : RoundTrip
round_trip W xs g = rw (whole_encode W xs g, items_encode W xs g) refl

encode_append : (W : ℕ) (xs ys : List Item) → encode W (xs ++ ys) ≡ encode W xs ++ encode W ys
encode_append W [] ys = refl
encode_append W (x ∷ xs) ys = ap (λ (l : List ℕ). encode_item W x ++ l) (encode_append W xs ys) ∙ sym (append_assoc (encode_item W x) (encode W xs) (encode W ys))

-- one item more
pub put_item : (W : ℕ) (was now : List ℕ) (x : Item) → Whole W was → Good W x → now ≡ was ++ encode_item W x → Puts W was now (x ∷ [])
put_item W was now x h g e = record {
  bytes = e ∙ ap (λ (l : List ℕ). was ++ l) (sym (append-nil (encode_item W x)));
  whole = ap (whole W 0) e ∙ whole_append W 0 was (encode_item W x) h ∙ whole_item W x g;
  items = ap (items_of W) e ∙ items_append W 0 was (encode_item W x) h ∙ ap (λ (l : List Item). items_of W was ++ l) (items_item W x g);
}

-- some items and then others
pub puts_both : (W : ℕ) (was mid now : List ℕ) (xs ys : List Item) → Puts W was mid xs → Puts W mid now ys → Puts W was now (xs ++ ys)
puts_both W was mid now xs ys a b = record {
  bytes = b.bytes ∙ ap (λ (l : List ℕ). l ++ encode W ys) a.bytes ∙ append_assoc was (encode W xs) (encode W ys) ∙ ap (λ (l : List ℕ). was ++ l) (sym (encode_append W xs ys));
  whole = b.whole;
  items = b.items ∙ ap (λ (l : List Item). l ++ ys) a.items ∙ append_assoc (items_of W was) xs ys;
}

-- bytes that encode their items still do
pub puts_encoded : (W : ℕ) (was now : List ℕ) (xs : List Item) → encode W (items_of W was) ≡ was → Puts W was now xs → encode W (items_of W now) ≡ now
puts_encoded W was now xs e a = ap (encode W) a.items ∙ encode_append W (items_of W was) xs ∙ ap (λ (l : List ℕ). l ++ encode W xs) e ∙ sym a.bytes
