-- The packed format over the width W of a value: a mark is the byte 255 and the stamp in four bytes; a fact is one byte,
-- predicate and 32 times the count, then the position in two bytes and each value in W bytes. The low byte comes first.
use Rattle.std.specs.Prelude.{◌≡◌, ℕ, zero, suc, ◌+◌, ◌*◌, ◌/◌, ◌%◌, ◌^◌, ◌<◌, ◌≤◌, Bool, true, false, cond, ◌&&◌, ◌||◌, List, [], ◌∷◌, ◌++◌, length, drop, Some, None, Option, ◌==◌, nat_lt}
use Rattle.std.specs.List.{flat_map, AllByRecursion}

-- what the bytes write one after the other: the mark of a stamp, or a fact of a predicate at a position with its arguments
pub data Item : Type 0 where
  mark : ℕ → Item
  fact : ℕ → ℕ → List ℕ → Item

-- a number in w bytes
unfoldable pub le : ℕ → ℕ → List ℕ
le zero n = []
le (suc w) n = n % 256 ∷ le w (n / 256)

-- the number that the first w bytes write
unfoldable pub num : ℕ → List ℕ → ℕ
num zero bs = 0
num (suc w) [] = 0
num (suc w) (b ∷ bs) = b + 256 * num w bs

-- k numbers of w bytes
unfoldable pub nums : ℕ → ℕ → List ℕ → List ℕ
nums w zero bs = []
nums w (suc k) bs = num w bs ∷ nums w k (drop w bs)

-- one item in bytes
abbrev pub encode_item : ℕ → Item → List ℕ
encode_item W (mark s) = 255 ∷ le 4 s
encode_item W (fact q p vs) = (q + 32 * length vs) ∷ (le 2 p ++ flat_map (le W) vs)

-- items in bytes
abbrev pub encode : ℕ → List Item → List ℕ
encode W xs = flat_map (encode_item W) xs

-- what the format can write
abbrev pub Good : ℕ → Item → Type 0
Good W (mark s) = s < 256 ^ 4
Good W (fact q p vs) = (q < 32) × (p < 256 ^ 2) × (length vs ≤ 3) × AllByRecursion (λ v. v < 256 ^ W) vs

-- a byte that heads an item
abbrev pub headed : ℕ → Bool
headed b = b == 255 || nat_lt b 128

-- how many bytes follow the head b
abbrev pub more : ℕ → ℕ → ℕ
more W b = cond (b == 255) 4 (2 + W * (b / 32))

-- the item of the head b and what follows it
abbrev pub item_at : ℕ → ℕ → List ℕ → Item
item_at W b bs = cond (b == 255) (mark (num 4 bs)) (fact (b % 32) (num 2 bs) (nums W (b / 32) (drop 2 bs)))

-- the items of the bytes past the first k
unfoldable pub items : ℕ → ℕ → List ℕ → List Item
items W k [] = []
items W zero (b ∷ bs) = item_at W b bs ∷ items W (more W b) bs
items W (suc k) (b ∷ bs) = items W k bs

-- past the first k, the bytes are whole items
unfoldable pub whole : ℕ → ℕ → List ℕ → Bool
whole W zero [] = true
whole W (suc k) [] = false
whole W zero (b ∷ bs) = headed b && whole W (more W b) bs
whole W (suc k) (b ∷ bs) = whole W k bs

-- the items that the bytes write
abbrev pub items_of : ℕ → List ℕ → List Item
items_of W bs = items W 0 bs

-- the bytes are whole items
abbrev pub Whole : ℕ → List ℕ → Type 0
Whole W bs = whole W 0 bs ≡ true

-- the items, where the bytes are whole items
abbrev pub decode : ℕ → List ℕ → Option (List Item)
decode W bs = cond (whole W 0 bs) (Some (items_of W bs)) None

-- items were appended, to the bytes and to what they read as
pub record Puts (W : ℕ) (was now : List ℕ) (xs : List Item) : Type 0 where
  pub bytes : now ≡ was ++ encode W xs
  pub whole : Whole W now
  pub items : items_of W now ≡ items_of W was ++ xs

-- what is written is read again
abbrev pub RoundTrip : Type 0
RoundTrip = (W : ℕ) (xs : List Item) → AllByRecursion (Good W) xs → decode W (encode W xs) ≡ Some xs

-- whole bytes are the encoding of their items
abbrev pub Canonical : Type 0
Canonical = (W : ℕ) (bs : List ℕ) → AllByRecursion (λ b. b < 256) bs → Whole W bs → encode W (items_of W bs) ≡ bs
