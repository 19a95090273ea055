-- How the rows of one node stand among all rows, and what a change of them leaves.
use Rattle.std.proofs.Common.{◌≡◌, ℕ, zero, suc, ◌+◌, ◌-◌, ◌<◌, ◌≤◌, List, [], ◌∷◌, ◌++◌, length, get_or, take, drop, set, sum_by, Some, None, Option, sym, refl, ap, ◌∙◌, arith, length-append, length-set, length-drop, length-take-le, take-take, drop-drop, take_all, take_at, drop_at, append_assoc, add-one, take-add, take-append-drop}
use lib.Seq.{take-paste, paste, set-get_or}
use Rattle.std.specs.Option.{option_map}
use Rattle.std.proofs.lemmas.List.{take-append-le, drop-append-le, drop-take, set-append_left, set-append_right}
use Rattle.std.proofs.lemmas.List.Sums.{sum_by-cons, sum_by_more, sum_by-take-le}
use Rattle.summary.specs.declared.row.Row.{Row}
use Rattle.summary.specs.Kept.{rows_of, total, added}
use Rattle.summary.specs.Layout.{size, count_of, before, laid}

pub length_laid : (cs : List (Option ℕ)) (rs : List Row) → length (laid cs rs) ≡ length cs
length_laid [] rs = refl
length_laid (c ∷ cs) rs = ap suc (length_laid cs (drop (size c) rs))

-- the rows of the node n
pub laid_at : (cs : List (Option ℕ)) (rs : List Row) (n : ℕ) → get_or (laid cs rs) n (Some []) ≡ option_map (λ k. take k (drop (before n cs) rs)) (count_of cs n)
laid_at [] rs n = refl
laid_at (c ∷ cs) rs zero = refl
laid_at (c ∷ cs) rs (suc n) =
    laid_at cs (drop (size c) rs) n
    ∙ ap (λ (l : List Row). option_map (λ k. take k l) (count_of cs n)) (drop-drop (before n cs) (size c) rs ∙ ap (λ (b : ℕ). drop b rs) (sym (sum_by-cons size c (take n cs))))

-- rows that are moved down over others, and the end cut off
pub cut_is : (b k n : ℕ) (rs : List Row) → n ≡ length rs → b + k ≤ n → take (n - k) (paste rs b (drop (b + k) rs) (n - (b + k))) ≡ take b rs ++ drop (b + k) rs
cut_is b k n rs e h =
    let w : n - k ≡ b + (n - (b + k)) = omega arith in
    ap (λ (m : ℕ). take m (paste rs b (drop (b + k) rs) (n - (b + k)))) w
    ∙ take-paste rs b (drop (b + k) rs) (n - (b + k)) (omega arith) (omega (arith, length-drop (b + k) rs))
    ∙ ap (λ (l : List Row). take b rs ++ l) (take_all (n - (b + k)) (drop (b + k) rs) (omega (arith, length-drop (b + k) rs)))

-- the rows of n lie within all rows
pub within : (cs : List (Option ℕ)) (n : ℕ) → n < length cs → before n cs + size (count_of cs n) ≤ sum_by size cs
within cs n h = omega (arith, sum_by_more size cs n (Some 0) h, sum_by-take-le size cs (n + 1))

-- k rows from the place b on, changed to `new`
module _ (after rs new : List Row) (b k : ℕ) (is : after ≡ take b rs ++ (new ++ drop (b + k) rs)) (fits : b + k ≤ length rs) where
  long : length (take b rs) ≡ b
  long = length-take-le b rs (omega arith)

  -- the rows of a node before them are the same
  ahead : (d : Option ℕ) → size d ≤ b → option_map (λ j. take j after) d ≡ option_map (λ j. take j rs) d
  ahead None h = refl
  ahead (Some j) h = ap Some (ap (take j) is ∙ take-append-le j (take b rs) (new ++ drop (b + k) rs) (omega (arith, long)) ∙ take-take j b rs h)

  -- what is left of them behind such a node
  behind : (j a : ℕ) → b ≡ j + a → drop j after ≡ take a (drop j rs) ++ (new ++ drop (a + k) (drop j rs))
  behind j a e =
      ap (drop j) is ∙ drop-append-le j (take b rs) (new ++ drop (b + k) rs) (omega (arith, long))
      ∙ ap (λ (m : ℕ). drop j (take m rs) ++ (new ++ drop (m + k) rs)) e
      ∙ (λ i. drop-take j a rs i ++ (new ++ whole i))
    where
      whole : drop (j + a + k) rs ≡ drop (a + k) (drop j rs)
      whole = ap (λ (m : ℕ). drop m rs) (let q : j + a + k ≡ j + (a + k) = omega arith in q) ∙ sym (drop-drop (a + k) j rs)

  -- the changed ones, where they stand in front
  changed : b ≡ 0 → (c : Option ℕ) → length new ≡ size c → option_map (λ j. take j after) c ≡ option_map (λ _. new) c
  changed z None e = refl
  changed z (Some j) e = ap Some (ap (take j) (is ∙ ap (λ (m : ℕ). take m rs ++ (new ++ drop (b + k) rs)) z) ∙ take_at new (drop (b + k) rs) j e)

  rest : b ≡ 0 → (c : Option ℕ) → length new ≡ size c → drop (size c) after ≡ drop k rs
  rest z c e = ap (drop (size c)) (is ∙ ap (λ (m : ℕ). take m rs ++ (new ++ drop (b + k) rs)) z) ∙ drop_at new (drop (b + k) rs) (size c) e ∙ ap (λ (m : ℕ). drop m rs) (let q : b + k ≡ k = omega (arith, z) in q)

-- the rows of n, changed to `new`
pub laid_set : (cs : List (Option ℕ)) (n : ℕ) (c : Option ℕ) (rs new after : List Row) (b k : ℕ) → n < length cs → b ≡ before n cs → k ≡ size (count_of cs n) → b + k ≤ length rs
    → after ≡ take b rs ++ (new ++ drop (b + k) rs) → length new ≡ size c → laid (set cs n c) after ≡ set (laid cs rs) n (option_map (λ _. new) c)
laid_set [] n c rs new after b k l p q f is e = absurd (omega arith)
laid_set (d ∷ cs) zero c rs new after b k l p q f is e =
    λ i. changed after rs new b k is f p c e i ∷ laid cs ((rest after rs new b k is f p c e ∙ ap (λ (m : ℕ). drop m rs) q) i)
laid_set (d ∷ cs) (suc n) c rs new after b k l p q f is e =
    let s : b ≡ size d + before n cs = p ∙ sum_by-cons size d (take n cs) in
    λ i. ahead after rs new b k is f d (omega (arith, s)) i
    ∷ laid_set cs n c (drop (size d) rs) new (drop (size d) after) (before n cs) k (omega arith) refl q (omega (arith, s, length-drop (size d) rs)) (behind after rs new b k is f (size d) (before n cs) s) e i

-- the rows of n, where it is not lost
abbrev pub rows_at : List (Option ℕ) → List Row → ℕ → ℕ → List Row
rows_at cs rs n k = take k (drop (before n cs) rs)

-- how many rows a node has, and all nodes below n
pub size_laid : (cs : List (Option ℕ)) (rs : List Row) (n : ℕ) → before n cs + size (count_of cs n) ≤ length rs → length (rows_of (get_or (laid cs rs) n (Some []))) ≡ size (count_of cs n)
size_laid cs rs n f = ap (λ (o : Option (List Row)). length (rows_of o)) (laid_at cs rs n) ∙ at (count_of cs n) f
  where
    at : (c : Option ℕ) → before n cs + size c ≤ length rs → length (rows_of (option_map (rows_at cs rs n) c)) ≡ size c
    at None g = refl
    at (Some k) g = length-take-le k (drop (before n cs) rs) (omega (arith, length-drop (before n cs) rs))

pub total_laid : (cs : List (Option ℕ)) (rs : List Row) → sum_by size cs ≤ length rs → (n : ℕ) → n ≤ length cs → total n (λ m. get_or (laid cs rs) m (Some [])) ≡ before n cs
total_laid cs rs f zero h = refl
total_laid cs rs f (suc n) h =
    let up = within cs n (omega arith) in
    omega (arith, total_laid cs rs f n (omega arith), size_laid cs rs n (omega (arith, up, f)), sum_by_more size cs n (Some 0) (omega arith), ap (λ (m : ℕ). before m cs) (add-one n))

-- one row of the node n more, none, or one of them changed
module _ (cs : List (Option ℕ)) (n k : ℕ) (rs : List Row) (lies : n < length cs) (is : count_of cs n ≡ Some k) (fits : before n cs + k ≤ length rs) where
  held : get_or (laid cs rs) n (Some []) ≡ Some (rows_at cs rs n k)
  held = laid_at cs rs n ∙ ap (option_map (rows_at cs rs n)) is

  mine_long : length (rows_at cs rs n k) ≡ k
  mine_long = length-take-le k (drop (before n cs) rs) (omega (arith, length-drop (before n cs) rs))

  counted : k ≡ size (count_of cs n)
  counted = sym (ap size is)

  pub lost : laid (set cs n None) (take (before n cs) rs ++ drop (before n cs + k) rs) ≡ set (laid cs rs) n None
  lost = laid_set cs n None rs [] _ (before n cs) k lies refl counted fits refl refl

  pub kept : (r : Row) → laid (set cs n (Some (k + 1))) (take (before n cs + k) rs ++ (r ∷ drop (before n cs + k) rs)) ≡ set (laid cs rs) n (added (get_or (laid cs rs) n (Some [])) r)
  kept r =
      laid_set cs n (Some (k + 1)) rs (rows_at cs rs n k ++ (r ∷ [])) _ (before n cs) k lies refl counted fits
      (ap (λ (l : List Row). l ++ (r ∷ drop (before n cs + k) rs)) (take-add (before n cs) k rs) ∙ simp append_assoc)
      (omega (arith, length-append (rows_at cs rs n k) (r ∷ []), mine_long))
      ∙ ap (λ (o : Option (List Row)). set (laid cs rs) n (added o r)) (sym held)

  parts : rs ≡ take (before n cs) rs ++ (rows_at cs rs n k ++ drop (before n cs + k) rs)
  parts = sym (take-append-drop (before n cs) rs)
      ∙ ap (λ (l : List Row). take (before n cs) rs ++ l) (sym (take-append-drop k (drop (before n cs) rs)) ∙ ap (λ (l : List Row). rows_at cs rs n k ++ l) (drop-drop k (before n cs) rs))

  set_mine : (i : ℕ) → i < k → (r : Row) → set rs (before n cs + i) r ≡ take (before n cs) rs ++ (set (rows_at cs rs n k) i r ++ drop (before n cs + k) rs)
  set_mine i h r =
      ap (λ (l : List Row). set l (before n cs + i) r) parts
      ∙ set-append_right (take (before n cs) rs) (rows_at cs rs n k ++ drop (before n cs + k) rs) (before n cs) (before n cs + i) r (length-take-le (before n cs) rs (omega arith)) (omega arith)
      ∙ ap (λ (m : ℕ). take (before n cs) rs ++ set (rows_at cs rs n k ++ drop (before n cs + k) rs) m r) (let e : before n cs + i - before n cs ≡ i = omega arith in e)
      ∙ ap (λ (l : List Row). take (before n cs) rs ++ l) (set-append_left (rows_at cs rs n k) (drop (before n cs + k) rs) i r (omega (arith, mine_long)))

  pub changed_at : (i : ℕ) → i < k → (r : Row) → laid cs (set rs (before n cs + i) r) ≡ set (laid cs rs) n (Some (set (rows_at cs rs n k) i r))
  changed_at i h r =
      ap (λ (c : List (Option ℕ)). laid c (set rs (before n cs + i) r)) (sym (ap (set cs n) (sym is) ∙ set-get_or cs n (Some 0)))
      ∙ laid_set cs n (Some k) rs (set (rows_at cs rs n k) i r) _ (before n cs) k lies refl counted fits (set_mine i h r) (length-set (rows_at cs rs n k) i r ∙ mine_long)
