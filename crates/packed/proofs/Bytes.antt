-- The library's words for numbers in bytes, and the item that begins some bytes.
use Rattle.std.proofs.Common.{◌≡◌, ℕ, zero, suc, ◌+◌, ◌*◌, ◌/◌, ◌%◌, ◌≤◌, true, List, [], ◌∷◌, length, get_or, take, drop, map, sym, refl, ap, ◌∙◌, subst, arith, length-drop, length-take, take-append-drop}
use Rattle.std.specs.Int.{to_le_bytes, from_le_bytes, w16, w32}
use Rattle.std.specs.Simd.{first_chunks}
use Rattle.std.proofs.lemmas.Bool.{and_parts, eq-eqb, ne_eqb}
use Rattle.table.specs.declared.Arguments.{Arguments}
use Rattle.packed.specs.declared.reading.Entry.{Entry}
use Rattle.packed.specs.declared.reading.Entry.TheVariants.{Mark, Noted}
use Rattle.packed.specs.Meaning.{width, entry_of, entries_of, values_read}
use Rattle.facts.specs.Tuples.{padded}
use Rattle.packed.specs.Format.{le, num, nums, headed, more, item_at, items, whole, items_of, Whole}
use Rattle.packed.specs.Coding.{items_skip, whole_skip, item_front}

pub le_two : (n : ℕ) → to_le_bytes w16 n ≡ le 2 n
unfolding le
le_two n = refl

pub le_four : (n : ℕ) → to_le_bytes w32 n ≡ le 4 n
unfolding le
le_four n =
    let a : n / 65536 % 256 ≡ n / 256 / 256 % 256 = omega arith in
    let b : n / 16777216 % 256 ≡ n / 256 / 256 / 256 % 256 = omega arith in
    cc (a, b)

pub num_two : (bs : List ℕ) → 2 ≤ length bs → from_le_bytes w16 (take 2 bs) ≡ num 2 bs
unfolding num
num_two [] h = absurd (omega arith)
num_two (a ∷ []) h = absurd (omega arith)
num_two (a ∷ b ∷ bs) h = omega arith

pub num_four : (bs : List ℕ) → 4 ≤ length bs → from_le_bytes w32 (take 4 bs) ≡ num 4 bs
unfolding num
num_four [] h = absurd (omega arith)
num_four (a ∷ []) h = absurd (omega arith)
num_four (a ∷ b ∷ []) h = absurd (omega arith)
num_four (a ∷ b ∷ c ∷ []) h = absurd (omega arith)
num_four (a ∷ b ∷ c ∷ d ∷ bs) h = omega arith

pub nums_four : (k : ℕ) (bs : List ℕ) → 4 * k ≤ length bs → map (from_le_bytes w32) (first_chunks 4 k bs) ≡ nums 4 k bs
unfolding nums
nums_four zero bs h = refl
nums_four (suc k) bs h = rw (num_four bs (omega arith)) (ap (λ l. num 4 bs ∷ l) (nums_four k (drop 4 bs) (omega (arith, length-drop 4 bs))))

-- three values of a list that is not longer, and 0 behind them
pub padded_by : (vs : List ℕ) → length vs ≤ 3 → get_or vs 0 0 ∷ get_or vs 1 0 ∷ get_or vs 2 0 ∷ [] ≡ padded vs
padded_by [] h = refl
padded_by (a ∷ []) h = refl
padded_by (a ∷ b ∷ []) h = refl
padded_by (a ∷ b ∷ c ∷ []) h = refl
padded_by (a ∷ b ∷ c ∷ d ∷ vs) h = absurd (omega arith)

pub values_are : (n a b c : ℕ) (vs : List ℕ) → length vs ≤ 3 → n ≡ length vs → a ≡ get_or vs 0 0 → b ≡ get_or vs 1 0 → c ≡ get_or vs 2 0
    → record { count = n; first = a ∷ b ∷ c ∷ [] } ≡ values_read vs
values_are n a b c vs l e x y z = rw (e, x, y, z, padded_by vs l) refl

-- the item that begins whole bytes
pub record Begins (W b : ℕ) (bs : List ℕ) : Type 0 where
  pub head : headed b ≡ true
  pub within : more W b ≤ length bs
  pub rest : Whole W (drop (more W b) bs)
  pub first : items_of W (b ∷ bs) ≡ item_at W b (take (more W b) bs) ∷ items_of W (drop (more W b) bs)

pub begins : (W b : ℕ) (all bs : List ℕ) → all ≡ b ∷ bs → Whole W all → Begins W b bs
unfolding whole items
begins W b all bs e h =
    let w : Whole W (b ∷ bs) = subst (Whole W) e h in
    let m = more W b in
    let p = and_parts (headed b) (whole W m bs) w in
    let s = whole_skip W m bs p.1 in
    let front : item_at W b bs ≡ item_at W b (take m bs) =
    ap (item_at W b) (sym (take-append-drop m bs)) ∙ item_front W b (take m bs) (drop m bs) (omega (arith, length-take m bs, s.0)) in
    record { head = p.0; within = s.0; rest = s.1; first = ap (λ x. x ∷ items W m bs) front ∙ ap (λ l. item_at W b (take m bs) ∷ l) (items_skip W m bs) }

-- a head and its body, as they are read
pub read_mark : (b n : ℕ) (bs : List ℕ) → b ≡ 255 → length bs ≡ more width b → n ≡ from_le_bytes w32 (take 4 bs) → Mark n ≡ entry_of (item_at width b bs)
read_mark b n bs h l e =
    let t = eq-eqb b 255 h in
    let long : length bs ≡ 4 = rw t at l in
    rw t (ap Mark (e ∙ num_four bs (omega arith)))

pub read_fact : (b p : ℕ) (bs : List ℕ) (vs : Arguments ℕ) → (b ≡ 255 → ⊥) → length bs ≡ more width b → p ≡ from_le_bytes w16 (take 2 bs)
    → vs ≡ values_read (nums 4 (length (drop 2 bs) / 4) (drop 2 bs))
    → Noted p (record { predicate = b % 32; values = vs }) ≡ entry_of (item_at width b bs)
read_fact b p bs vs ne l e f =
    let t = ne_eqb b 255 ne in
    let long : length bs ≡ 2 + 4 * (b / 32) = rw t at l in
    let k : length (drop 2 bs) / 4 ≡ b / 32 = omega (arith, length-drop 2 bs) in
    rw (t, f, k, e, num_two bs (omega arith)) refl

-- no bytes write no items
pub none_left : (bs : List ℕ) → length bs ≡ 0 → entries_of bs ≡ []
unfolding items
none_left [] h = refl
none_left (b ∷ bs) h = absurd (omega arith)

-- the entry that was read first, and those of the bytes behind it
pub first_entry : (b m : ℕ) (all bs body rest : List ℕ) (x : Entry) → all ≡ b ∷ bs → Whole width all → m ≡ more width b → body ≡ take m bs → rest ≡ drop m bs
    → x ≡ entry_of (item_at width b body) → entries_of all ≡ x ∷ entries_of rest
first_entry b m all bs body rest x e w k front back is =
    ap entries_of e ∙ ap (map entry_of) (begins width b all bs e w).first ∙ rw (is, front, back, k) refl
