-- Sorted records: where the records of a position lie.
use Rattle.std.proofs.Common.{◌≡◌, ℕ, ◌+◌, ◌-◌, ◌<◌, ◌≤◌, Bool, true, false, eqb, ltb, leb, ltb-false, List, [], ◌∷◌, ◌++◌, length, get_or, take, drop, filter, All, insert, sym, refl, ap, append-nil, ◌∙◌, arith, take-append-drop, length-append, length-drop, length-take}
use Rattle.std.specs.List.Sorted.{IsPartitionPoint}
use Rattle.std.proofs.lemmas.Bool.{eq-eqb, ne_eqb, ltb-true, leb-true, leb-false}
use Rattle.std.proofs.lemmas.List.{get_or-take, get_or-drop, append_assoc, map-append, take_more, length-map}
use Rattle.std.proofs.lemmas.List.Elements.{All-head, All-tail, All-append, All-weaker, All-map, filter-append}
use Rattle.std.proofs.lemmas.List.Sorted.{IsNonDecreasingBy-insert}
use Rattle.std.proofs.lemmas.List.Sums.{prefix_len_is}
use Rattle.facts.specs.declared.Fact.{Fact}
use Rattle.record_table.specs.declared.record.Record.{Record}
use Rattle.record_table.specs.Records.{Placed, Sorted, record_at, records_at, with_record}

filter_all : {X : Type 0} (p : X → Bool) (xs : List X) → All (λ x. p x ≡ true) xs → filter p xs ≡ xs
filter_all p [] h = refl
filter_all p (x ∷ xs) h = rw (All-head (λ y. p y ≡ true) x xs h) (ap (λ l. x ∷ l) (filter_all p xs (All-tail (λ y. p y ≡ true) x xs h)))

filter_none : {X : Type 0} (p : X → Bool) (xs : List X) → All (λ x. p x ≡ false) xs → filter p xs ≡ []
filter_none p [] h = refl
filter_none p (x ∷ xs) h = rw (All-head (λ y. p y ≡ false) x xs h) (filter_none p xs (All-tail (λ y. p y ≡ false) x xs h))

-- i records lie before a position, and j more at it
pub at_between : (p : ℕ) (rs from : List Record) (i j : ℕ) → from ≡ drop i rs
    → IsPartitionPoint (λ (r : Record). ltb r.position p ≡ true) (λ r. ltb r.position p ≡ false) rs i
    → IsPartitionPoint (λ (r : Record). leb r.position p ≡ true) (λ r. leb r.position p ≡ false) from j
    → take j from ≡ filter (λ (r : Record). eqb p r.position) rs
at_between p rs from i j is before upto =
    let here : Record → Bool = λ r. eqb p r.position in
    let at : (k : ℕ) (d : Record) → get_or from k d ≡ get_or rs (i + k) d = λ k d. ap (λ l. get_or l k d) is ∙ get_or-drop i rs k d in
    let long : length from ≡ length rs - i = ap (λ l. length l) is ∙ length-drop i rs in
    let a : filter here (take i rs) ≡ [] = filter_none here (take i rs) (λ k d t.
    let l : k < i = omega (arith, length-take i rs) in
    rw (get_or-take i rs k d l) (ne_eqb _ _ (λ e. omega (arith, e, ltb-true _ _ (before.0 k d (omega arith) l))))) in
    let b : filter here (take j from) ≡ take j from = filter_all here (take j from) (λ k d t.
    let l : (k < j) × (i + k < length rs) = (omega (arith, length-take j from), omega (arith, length-take j from)) in
    let low = ltb-false _ _ (before.1 (i + k) d (omega arith) l.1) in
    let high = leb-true _ _ (rw (at k d) at (upto.0 k d (omega arith) l.0)) in
    rw (get_or-take j from k d l.0, at k d) (eq-eqb _ _ (omega arith))) in
    let c : filter here (drop j from) ≡ [] = filter_none here (drop j from) (λ k d t.
    let l : j + k < length from = omega (arith, length-drop j from) in
    rw (get_or-drop j from k d) (ne_eqb _ _ (λ e. omega (arith, e, leb-false _ _ (upto.1 (j + k) d (omega arith) l))))) in
    sym (ap (filter here) (sym (take-append-drop i rs)) ∙ filter-append here (take i rs) (drop i rs) ∙ ap (λ l. filter here (take i rs) ++ filter here l) (sym is) ∙ ap (λ l. l ++ filter here from) a
    ∙ ap (filter here) (sym (take-append-drop j from)) ∙ filter-append here (take j from) (drop j from) ∙ ap (λ l. filter here (take j from) ++ l) c
    ∙ append-nil (filter here (take j from)) ∙ b)

-- i records lie before a position or at it
pub inserted : (k : ℕ) (x : Fact) (rs : List Record) (i : ℕ) → i ≤ length rs → Sorted rs
    → IsPartitionPoint (λ (r : Record). leb r.position k ≡ true) (λ r. leb r.position k ≡ false) rs i
    → Sorted (insert rs i (record_at k x)) × (insert rs i (record_at k x) ≡ with_record rs k x)
inserted k x rs i l up upto = (
  IsNonDecreasingBy-insert (λ (r : Record). r.position) rs i (record_at k x) up l
      (λ j d h. leb-true _ _ (upto.0 j d (omega arith) h)) (λ j d a b. omega (arith, leb-false _ _ (upto.1 j d a b))),
  ap (λ n. insert rs n (record_at k x)) (sym (prefix_len_is (λ (r : Record). leb r.position k) rs i (record_at k x) l
      (λ j h. upto.0 j (record_at k x) (omega arith) h) (λ h. upto.1 i (record_at k x) (omega arith) h))),
)

pub placed_append : (k m n : ℕ) (rs : List Record) (xs : List Fact) → Placed rs m → m ≤ n → k < n → Placed (rs ++ records_at k xs) n
placed_append k m n rs xs b h l =
    let P : Record → Type 0 = λ r. r.position < n in
    All-append P rs (records_at k xs) (All-weaker (λ (r : Record). r.position < m) P (λ r i. omega arith) rs b) (All-map P (record_at k) xs (λ i d t. l))

pub length_behind : (k : ℕ) (rs : List Record) (xs : List Fact) → length (rs ++ records_at k xs) ≡ length rs + length xs
length_behind k rs xs = omega (arith, length-append rs (records_at k xs), length-map xs (record_at k))

-- one record more of a run of facts
pub records_more : (k i : ℕ) (rs : List Record) (xs : List Fact) (x : Fact) → i < length xs → x ≡ get_or xs i x
    → (rs ++ records_at k (take i xs)) ++ record_at k x ∷ [] ≡ rs ++ records_at k (take (i + 1) xs)
records_more k i rs xs x h e =
    append_assoc rs (records_at k (take i xs)) (record_at k x ∷ [])
    ∙ ap (λ l. rs ++ l) (sym (map-append (record_at k) (take i xs) (x ∷ [])) ∙ ap (records_at k) (ap (λ y. take i xs ++ y ∷ []) e ∙ sym (take_more xs i x h)))
