-- A scan of the bytes finds the least tuple.
use Rattle.std.proofs.Common.{◌≡◌, ℕ, zero, suc, ◌/◌, ◌%◌, ◌<◌, Bool, true, false, cond, ◌&&◌, ◌||◌, eqb, ltb, List, [], ◌∷◌, length, take, drop, map, filter_map, None, Ok, fold, Option, sym, refl, ap, ◌∙◌, inl, inr, arith}
use Rattle.std.proofs.lemmas.Bool.{and_parts, and_from, or_cases, ltb-true, lt-ltb, both_ways, cases_Bool}
use Rattle.facts.specs.declared.Fact.{Fact}
use Rattle.facts.specs.declared.Query.{Query}
use Rattle.facts.specs.Facts.{Found, allowed}
use Rattle.facts.specs.Scan.{better}
use Rattle.facts.specs.Tuples.{same, three, padded, is_fact, among}
use Rattle.journal.proofs.Facts.{scan_found}
use Rattle.packed.specs.Format.{Item, mark, fact, num, nums, headed, more, item_at, items, whole, items_of, Whole}
use Rattle.packed.specs.Meaning.{width, fact_read, entry_of, fact_in, stamp_in, stamps, facts_at, held, bytes_facts}
use Rattle.packed.specs.Digits.{length_nums}
use Rattle.packed.specs.Growth.{same_long}

-- what is read of each item gives what the items mean
pub stamps_read : (xs : List Item) → filter_map stamp_in (map entry_of xs) ≡ stamps xs
stamps_read [] = refl
stamps_read (mark s ∷ xs) = ap (λ l. s ∷ l) (stamps_read xs)
stamps_read (fact q p vs ∷ xs) = stamps_read xs

pub facts_found : (p : ℕ) (xs : List Item) → filter_map (fact_in p) (map entry_of xs) ≡ facts_at p xs
facts_found p [] = refl
facts_found p (mark s ∷ xs) = facts_found p xs
facts_found p (fact q n vs ∷ xs) = elim (cases_Bool (eqb p n)) [
  | inl t ↦ rw t (ap (λ l. fact_read q vs ∷ l) (facts_found p xs))
  | inr f ↦ rw f (facts_found p xs)
]

-- no fact has more than three arguments
small : List Item → Bool
small [] = true
small (mark s ∷ xs) = small xs
small (fact q p vs ∷ xs) = ltb (length vs) 4 && small xs

small_fact : (W b : ℕ) (bs : List ℕ) (xs : List Item) (t : Bool) → eqb b 255 ≡ t → headed b ≡ true → small xs ≡ true
    → small (cond t (mark (num 4 bs)) (fact (b % 32) (num 2 bs) (nums W (b / 32) (drop 2 bs))) ∷ xs) ≡ true
unfolding small
small_fact W b bs xs true e h k = k
small_fact W b bs xs false e h k =
    and_from _ _ (lt-ltb (length (nums W (b / 32) (drop 2 bs))) 4 (elim (or_cases (eqb b 255) (ltb b 128) h) [
      | inl t ↦ absurd (both_ways (eqb b 255) e t)
      | inr l ↦ omega (arith, length_nums W (b / 32) (drop 2 bs), ltb-true b 128 l)
    ])) k

small_item : (W b : ℕ) (bs : List ℕ) (xs : List Item) → headed b ≡ true → small xs ≡ true → small (item_at W b bs ∷ xs) ≡ true
small_item W b bs xs h k = small_fact W b bs xs (eqb b 255) refl h k

small_items : (W k : ℕ) (bs : List ℕ) → whole W k bs ≡ true → small (items W k bs) ≡ true
unfolding whole items small
small_items W zero [] h = refl
small_items W (suc k) [] h = refl
small_items W (suc k) (b ∷ bs) h = small_items W k bs h
small_items W zero (b ∷ bs) h =
    let p = and_parts (headed b) (whole W (more W b) bs) h in
    small_item W b bs (items W (more W b) bs) p.0 (small_items W (more W b) bs p.1)

-- the arguments of a fact that was read
read_arguments : (vs : List ℕ) → length vs < 4 → take (length vs) (three (padded vs)) ≡ vs
read_arguments [] h = refl
read_arguments (x ∷ []) h = refl
read_arguments (x ∷ y ∷ []) h = refl
read_arguments (x ∷ y ∷ z ∷ []) h = refl
read_arguments (x ∷ y ∷ z ∷ u ∷ vs) h = absurd (omega arith)

is_read : (q r : ℕ) (ws vs : List ℕ) → length ws < 4 → (eqb r q && same ws vs) ≡ is_fact q vs (fact_read r ws)
is_read q r ws vs h =
    ap (λ (b : Bool). eqb r q && b) (same_long ws vs ∙ ap (λ (l : List ℕ). eqb (length ws) (length vs) && same l vs) (sym (read_arguments ws h)))

choice : (q : ℕ) (vs : List ℕ) (x : Fact) (xs : List Fact) (t b : Bool) → b ≡ among q vs xs → ((t && is_fact q vs x) || b) ≡ among q vs (cond t (x ∷ xs) xs)
choice q vs x xs true b e = ap (λ (c : Bool). is_fact q vs x || c) e
choice q vs x xs false b e = e

held_among : (xs : List Item) (p q : ℕ) (vs : List ℕ) → small xs ≡ true → held xs p q vs ≡ among q vs (facts_at p xs)
unfolding small
held_among [] p q vs h = refl
held_among (mark s ∷ xs) p q vs h = held_among xs p q vs h
held_among (fact r n ws ∷ xs) p q vs h =
    let z = and_parts (ltb (length ws) 4) (small xs) h in
    ap (λ (b : Bool). (eqb p n && b) || held xs p q vs) (is_read q r ws vs (ltb-true (length ws) 4 z.0))
    ∙ choice q vs (fact_read r ws) (facts_at p xs) (eqb p n) (held xs p q vs) (held_among xs p q vs z.1)

pub found : (bs : List ℕ) → Whole width bs → (p : ℕ) (q : Query) (a r : Option (List ℕ)) → allowed (bytes_facts bs) q ≡ Ok tt → r ≡ fold (better q a) None (facts_at p (items_of width bs)) → Found (bytes_facts bs) p q a (Ok r)
found bs w p q a r h e = scan_found (bytes_facts bs) p q a (facts_at p (items_of width bs)) r refl (λ vs. held_among (items_of width bs) p q.predicate vs (small_items width 0 bs w)) h e
