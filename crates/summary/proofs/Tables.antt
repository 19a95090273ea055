-- What the ghost fields of a table say of its nodes.
use Rattle.std.proofs.Common.{◌≡◌, ℕ, ◌+◌, ◌-◌, ◌<◌, ◌≤◌, Bool, true, false, ltb, List, [], ◌∷◌, ◌++◌, take, length, length-append, get_or, get_or-drop, get_or-take, length-take-le, length-drop, set, replicate, drop, sum_by, Some, None, Option, vec_len, sym, refl, ap, ◌∙◌, inl, inr, arith, take_all, get_or-set_same, get_or-set_other}
use lib.ListN.{get_or-eq_default}
use lib.Seq.{paste}
use Rattle.std.specs.Option.{option_map}
use Rattle.std.specs.List.{slice_get}
use Rattle.std.specs.Bool.{then_some}
use Rattle.std.proofs.lemmas.Bool.{cases_lt, ltb-true, ltb-false}
use Rattle.std.proofs.lemmas.Option.{slice_get-get_or, slice_get_past}
use Rattle.std.proofs.lemmas.List.{set_past}
use Rattle.std.proofs.lemmas.List.Sums.{sum_by-take-le, sum_by-set}
use Rattle.summary.specs.declared.row.Row.{Row}
use Rattle.summary.specs.declared.row_table.RowTable.{RowTable}
use Rattle.summary.specs.Kept.{rows_of, total, no_row, Elsewhere, Tabled, Lengthened, longer, raised}
use Rattle.summary.specs.Layout.{size, count_of, before, laid, place_of}
use Rattle.summary.specs.Held.{held_by}
use Rattle.summary.proofs.Declining.{same_all}
use Rattle.summary.proofs.Laid.{laid_at, within, size_laid, total_laid, length_laid, rows_at, cut_is, kept, lost, changed_at}

module _ (t : RowTable) where
  pub long : vec_len t.rows ≡ length t.rows.items
  long = t.rows.ok.0

  -- the rows of a node lie within all rows
  pub inside : (n : ℕ) → before n t.counts + size (count_of t.counts n) ≤ vec_len t.rows
  inside n = elim (cases_lt n (length t.counts)) [
    | inl l ↦ omega (arith, within t.counts n l, t.counted)
    | inr l ↦ omega (arith, ap size (get_or-eq_default t.counts (Some 0) l), sum_by-take-le size t.counts n, t.counted)
  ]

  pub held_at : (n : ℕ) → held_by t n ≡ option_map (rows_at t.counts t.rows.items n) (count_of t.counts n)
  held_at n = laid_at t.counts t.rows.items n

  pub count_is : (n : ℕ) → length (rows_of (held_by t n)) ≡ size (count_of t.counts n)
  count_is n = size_laid t.counts t.rows.items n (omega (arith, inside n, long))

  -- a node that has a row exists, and the row stands among all rows
  pub exists : (n i : ℕ) → i < size (count_of t.counts n) → n < 32
  exists n i h = elim (cases_lt n (length t.counts)) [
    | inl l ↦ omega (arith, l, t.sized)
    | inr l ↦ absurd (omega (arith, h, ap size (get_or-eq_default t.counts (Some 0) l)))
  ]

  pub fits : (n i : ℕ) → i < size (count_of t.counts n) → before n t.counts + i < vec_len t.rows
  fits n i h = omega (arith, inside n)

  pub total_is : total 32 (held_by t) ≡ vec_len t.rows
  total_is = total_laid t.counts t.rows.items (omega (arith, t.counted, long)) 32 (omega (arith, t.sized)) ∙ ap (sum_by size) (take_all 32 t.counts (omega (arith, t.sized))) ∙ sym t.counted

  -- one node's rows changed
  edited : (n : ℕ) (o : Option (List Row)) (L : List (Option (List Row))) → n < length t.counts → L ≡ set (laid t.counts t.rows.items) n o
      → Elsewhere n (held_by t) (λ m. get_or L m (Some [])) × (get_or L n (Some []) ≡ o)
  edited n o L l e = (
    λ m ne. ap (λ (M : List (Option (List Row))). get_or M m (Some [])) e ∙ get_or-set_other (laid t.counts t.rows.items) n m o (Some []) ne,
    ap (λ (M : List (Option (List Row))). get_or M n (Some [])) e ∙ get_or-set_same (laid t.counts t.rows.items) n o (Some []) (omega (arith, l, length_laid t.counts t.rows.items)),
  )

  -- a row that is offered to a lost node
  pub refused : (n : ℕ) (r : Row) → count_of t.counts n ≡ None → Tabled (held_by t) n r (held_by t)
  refused n r e =
      let h : held_by t n ≡ None = held_at n ∙ ap (option_map (rows_at t.counts t.rows.items n)) e in
      record { others = λ _ _. refl; kept = λ _ _. rw h refl; lost = λ _ _. h; beyond = λ _. refl }

  -- a row that is offered to a node that has k rows
  module _ (n k : ℕ) (r : Row) (lies : n < 32) (is : count_of t.counts n ≡ Some k) where
    here : before n t.counts + k ≤ length t.rows.items
    here = omega (arith, inside n, ap size is, long)

    -- what is left once the rows behind the node's have moved down over them, and the end is cut off
    pub cut : (start len : ℕ) (moved rs : List Row) → start ≡ before n t.counts → len ≡ length t.rows.items
        → moved ≡ paste t.rows.items start (drop (start + k) t.rows.items) (len - (start + k)) → rs ≡ take (len - k) moved
        → rs ≡ take (before n t.counts) t.rows.items ++ drop (before n t.counts + k) t.rows.items
    cut start len moved rs s l m e =
        e ∙ ap (take (len - k)) (m ∙ ap (λ (b : ℕ). paste t.rows.items b (drop (b + k) t.rows.items) (len - (b + k))) s)
        ∙ cut_is (before n t.counts) k len t.rows.items l (omega (arith, l, here))

    pub taken : (rs : List Row) → rs ≡ take (before n t.counts + k) t.rows.items ++ (r ∷ drop (before n t.counts + k) t.rows.items) → vec_len t.rows < 512
        → Tabled (held_by t) n r (λ m. get_or (laid (set t.counts n (Some (k + 1))) rs) m (Some []))
    taken rs e few =
        let lies' : n < length t.counts = omega (arith, lies, t.sized) in
        let p = edited n _ _ lies' (ap (laid (set t.counts n (Some (k + 1)))) e ∙ kept t.counts n k t.rows.items lies' is here r) in
        record { others = p.0; kept = λ _ _. p.1; lost = λ _ full. absurd (omega (arith, full, few, total_is)); beyond = λ h. absurd (omega (arith, h, lies)) }

    pub declined : (rs : List Row) → rs ≡ take (before n t.counts) t.rows.items ++ drop (before n t.counts + k) t.rows.items → 512 ≤ vec_len t.rows
        → Tabled (held_by t) n r (λ m. get_or (laid (set t.counts n None) rs) m (Some []))
    declined rs e full =
        let lies' : n < length t.counts = omega (arith, lies, t.sized) in
        let p = edited n _ _ lies' (ap (laid (set t.counts n None)) e ∙ lost t.counts n k t.rows.items lies' is here) in
        record { others = p.0; kept = λ _ few. absurd (omega (arith, full, few, total_is)); lost = λ _ _. p.1; beyond = λ h. absurd (omega (arith, h, lies)) }

    -- the counts and the rows after it is declined
    pub fewer : (rs : List Row) → rs ≡ take (before n t.counts) t.rows.items ++ drop (before n t.counts + k) t.rows.items → (length rs ≡ sum_by size (set t.counts n None)) × (length rs ≤ 512)
    fewer rs e =
        let cut : length rs + k ≡ vec_len t.rows = omega (
          arith,
          ap length e,
          length-append (take (before n t.counts) t.rows.items) (drop (before n t.counts + k) t.rows.items),
          length-take-le (before n t.counts) t.rows.items (omega (arith, here)),
          length-drop (before n t.counts + k) t.rows.items,
          here,
          long,
        ) in
        let sums = sum_by-set size t.counts n None (Some 0) (omega (arith, lies, t.sized)) in
        (omega (arith, cut, sums, ap size is, t.counted), omega (arith, cut, t.few))

-- a table without rows
pub none_held : (rs : List Row) (n : ℕ) → get_or (laid (replicate 32 (Some 0)) rs) n (Some []) ≡ Some []
none_held rs n = same_all 32 n (Some [])

-- what a place that was found says, and one that was not
then_some_yes : (b : Bool) (x y : ℕ) → then_some b x ≡ Some y → (b ≡ true) × (y ≡ x)
then_some_yes true x y e = (refl, cc)
then_some_yes false x y e = absurd cc

then_some_no : (b : Bool) (x : ℕ) → then_some b x ≡ None → b ≡ false
then_some_no true x e = absurd cc
then_some_no false x e = refl

pub placed_at : (cs : List (Option ℕ)) (n i at : ℕ) → place_of cs n i ≡ Some at → (i < size (count_of cs n)) × (at ≡ before n cs + i)
placed_at cs n i at e = let p = then_some_yes (ltb i (size (count_of cs n))) (before n cs + i) at e in (ltb-true i (size (count_of cs n)) p.0, p.1)

pub unplaced : (cs : List (Option ℕ)) (n i : ℕ) → place_of cs n i ≡ None → size (count_of cs n) ≤ i
unplaced cs n i e = omega (arith, ltb-false i (size (count_of cs n)) (then_some_no (ltb i (size (count_of cs n))) (before n cs + i) e))

count_some : (c : Option ℕ) (i : ℕ) → i < size c → c ≡ Some (size c)
count_some None i h = absurd (omega arith)
count_some (Some k) i h = refl

-- the rows of a node that has one
pub rows_some : (t : RowTable) (n i : ℕ) → i < size (count_of t.counts n) → held_by t n ≡ Some (rows_at t.counts t.rows.items n (size (count_of t.counts n)))
rows_some t n i l = held_at t n ∙ ap (option_map (rows_at t.counts t.rows.items n)) (count_some (count_of t.counts n) i l)

-- a row that is read, by its place
pub row_some : (t : RowTable) (n i at : ℕ) (x : Row) → place_of t.counts n i ≡ Some at → x ≡ get_or t.rows.items at x → Some x ≡ slice_get (rows_of (held_by t n)) i
row_some t n i at x e r =
    let p = placed_at t.counts n i at e in
    let k = size (count_of t.counts n) in
    let b = before n t.counts in
    let within : b + k ≤ length t.rows.items = omega (arith, inside t n, long t) in
    ap Some (r ∙ ap (λ (m : ℕ). get_or t.rows.items m x) p.1 ∙ sym (get_or-drop b t.rows.items i x) ∙ sym (get_or-take k (drop b t.rows.items) i x p.0))
    ∙ sym (slice_get-get_or (rows_at t.counts t.rows.items n k) i x (omega (arith, p.0, length-take-le k (drop b t.rows.items) (omega (arith, length-drop b t.rows.items)))))
    ∙ ap (λ (o : Option (List Row)). slice_get (rows_of o) i) (sym (rows_some t n i p.0))

pub row_none : (t : RowTable) (n i : ℕ) → place_of t.counts n i ≡ None → None ≡ slice_get (rows_of (held_by t n)) i
row_none t n i e = sym (slice_get_past (rows_of (held_by t n)) i (omega (arith, count_is t n, unplaced t.counts n i e)))

-- a row that is raised, at its place, and none
pub raised_held : (t : RowTable) (n i at : ℕ) → place_of t.counts n i ≡ Some at
    → Lengthened (held_by t) n i (λ m. get_or (laid t.counts (set t.rows.items at (raised (get_or t.rows.items at no_row)))) m (Some []))
raised_held t n i at e =
    let p = placed_at t.counts n i at e in
    let k = size (count_of t.counts n) in
    let b = before n t.counts in
    let rs = t.rows.items in
    let w = raised (get_or rs at no_row) in
    let lies : n < length t.counts = omega (arith, exists t n i p.0, t.sized) in
    let q : laid t.counts (set rs at w) ≡ set (laid t.counts rs) n (Some (set (rows_at t.counts rs n k) i w)) =
    ap (λ (m : ℕ). laid t.counts (set rs m w)) p.1 ∙ changed_at t.counts n k rs lies (count_some (count_of t.counts n) i p.0) (omega (arith, inside t n, long t)) i p.0 w in
    let read : get_or rs at no_row ≡ get_or (rows_at t.counts rs n k) i no_row =
    ap (λ (m : ℕ). get_or rs m no_row) p.1 ∙ sym (get_or-drop b rs i no_row) ∙ sym (get_or-take k (drop b rs) i no_row p.0) in
    let d = edited t n _ _ lies q in record {
      others = d.0;
      here = d.1 ∙ ap (λ (r : Row). Some (set (rows_at t.counts rs n k) i (raised r))) read ∙ ap (λ (o : Option (List Row)). longer o i) (sym (rows_some t n i p.0));
    }

longer_past : (o : Option (List Row)) (i : ℕ) → length (rows_of o) ≤ i → o ≡ longer o i
longer_past None i h = refl
longer_past (Some rs) i h = ap Some (sym (set_past rs i (raised (get_or rs i no_row)) h))

pub none_raised : (t : RowTable) (n i : ℕ) → place_of t.counts n i ≡ None → Lengthened (held_by t) n i (held_by t)
none_raised t n i e = record {
  others = λ _ _. refl;
  here = longer_past (held_by t n) i (omega (arith, count_is t n, unplaced t.counts n i e));
}
