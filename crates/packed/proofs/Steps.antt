-- What is written, and how long it is.
use Rattle.std.proofs.Common.{◌≡◌, ℕ, ◌+◌, ◌*◌, ◌^◌, ◌<◌, ◌≤◌, min, true, List, [], ◌∷◌, ◌++◌, length, get_or, take, sym, refl, Result, Ok, Err, ap, ◌∙◌, inl, inr, append_assoc, arith, length-append}
use Rattle.std.specs.Int.{to_le_bytes, w16, w32}
use Rattle.std.specs.Result.{result_and}
use Rattle.refusal.specs.declared.Refusal.{Refusal}
use Rattle.std.specs.List.{flat_map, AllByRecursion}
use Rattle.std.proofs.lemmas.List.{take_more, flat_map_more}
use Rattle.std.proofs.lemmas.Bool.{and_parts, ltb-true, lt-ltb, le-ltb, cases_lt}
use Rattle.facts.specs.declared.Fact.{Fact}
use Rattle.facts.specs.Tuples.{arguments, recordable}
use Rattle.facts.proofs.Tuples.{three_taken}
use Rattle.journal.specs.declared.Standing.{Standing}
use Rattle.journal.specs.Trace.{sound_from, affordable, allowed_position, allowed_commit}
use Rattle.reserved.specs.Room.{Room, holding}
use Rattle.packed.specs.Format.{Item, mark, le, encode_item, Good, Whole}
use Rattle.packed.specs.Meaning.{width, written, fact_cost, Put}
use Rattle.packed.specs.Coding.{put_item}
use Rattle.packed.specs.Digits.{length_le, length_les}
use Rattle.packed.proofs.Bytes.{le_two, le_four}

put_one : (i j : Room ℕ) (x : Item) (n : ℕ) → Whole width i.items → Good width x → j ≡ holding i (i.items ++ encode_item width x) → length (encode_item width x) ≡ n → Put i j (x ∷ []) n
put_one i j x n w g e l =
    let now : j.items ≡ i.items ++ encode_item width x = ap (λ r. r.items) e in
    record {
      puts = put_item width i.items j.items x w g now;
      len = ap (λ b. length b) now ∙ length-append i.items (encode_item width x) ∙ ap (λ k. length i.items + k) l;
      limit = ap (λ r. r.limit) e;
      block = ap (λ r. r.block) e;
    }

pub mark_put : (i a j : Room ℕ) (s : ℕ) (bs : List ℕ) → Whole width i.items → s < 256 ^ 4
    → a ≡ holding i (i.items ++ 255 ∷ []) → bs ≡ to_le_bytes w32 s → j ≡ holding a (a.items ++ bs) → Put i j (mark s ∷ []) 5
mark_put i a j s bs w g ea eb ej =
    put_one i j (mark s) 5 w g
    (ej ∙ ap (λ (r : Room ℕ). holding r (r.items ++ bs)) ea ∙ ap (λ l. holding i l) (append_assoc i.items (255 ∷ []) bs ∙ ap (λ l. i.items ++ 255 ∷ l) (eb ∙ le_four s)))
    (omega (arith, length_le 4 s))

-- one value more
pub values_more : (i v : ℕ) (old now then vs bs : List ℕ) → i < length vs → v ≡ get_or vs i v → now ≡ old ++ flat_map (le width) (take i vs)
    → bs ≡ to_le_bytes w32 v → then ≡ now ++ bs → then ≡ old ++ flat_map (le width) (take (i + 1) vs)
values_more i v old now then vs bs h e inv eb put =
    let more : take (i + 1) vs ≡ take i vs ++ v ∷ [] = take_more vs i v h ∙ ap (λ (y : ℕ). take i vs ++ y ∷ []) (sym e) in
    put ∙ ap (λ l. now ++ l) (eb ∙ le_four v) ∙ ap (λ l. l ++ le width v) inv ∙ flat_map_more (le width) old (take i vs) v ∙ ap (λ l. old ++ flat_map (le width) l) (sym more)

pub fact_put : (i a b j : Room ℕ) (p : ℕ) (x : Fact) (bs vs : List ℕ) → Whole width i.items → recordable x ≡ true → p < 256 ^ 2
    → AllByRecursion (λ v. v < 256 ^ width) vs → a ≡ holding i (i.items ++ (x.predicate + 32 * x.values.count) ∷ []) → bs ≡ to_le_bytes w16 p
    → b ≡ holding a (a.items ++ bs) → vs ≡ arguments x → j ≡ holding b (b.items ++ flat_map (le width) vs)
    → Put i j (written p x ∷ []) (fact_cost x.values.count)
fact_put i a b j p x bs vs w r q f ea es eb ev ej =
    let s = and_parts _ _ r in
    let few : x.values.count < 4 = ltb-true _ _ s.1 in
    let small : x.predicate < 32 = ltb-true _ _ s.0 in
    let n : length (arguments x) ≡ x.values.count = three_taken x.values.count x.values.first few in
    let head = x.predicate + 32 * x.values.count in
    let front = i.items ++ head ∷ [] in
    put_one i j (written p x) (fact_cost x.values.count) w (small, q, omega arith, rw (sym ev) f)
    (rw (ej, eb, ea, es, ev, le_two p, n, append_assoc i.items (head ∷ []) (le 2 p), append_assoc i.items (head ∷ le 2 p) (flat_map (le width) (arguments x))) refl)
    (omega (arith, length-append (le 2 p) (flat_map (le width) (arguments x)), length_le 2 p, length_les width (arguments x), n))

through : (r q p : Result (Unit {0}) Refusal) → result_and (result_and r q) p ≡ result_and r (result_and q p)
through (Ok x) q p = refl
through (Err e) q p = refl

-- what a commit costs is asked last
pub asked_last : (w : Standing) (s : ℕ) (xs : List Fact) (c : ℕ) → result_and (allowed_position w s xs) (affordable w c) ≡ allowed_commit w s xs c
asked_last w s xs c = through (sound_from 0 xs) _ _

-- counting a cost up to the free units tells whether the free units cover it
pub capped : (w : Standing) (f c m : ℕ) → w.free ≡ f → f + 5 ≤ m → affordable w (min (min c f + 5) m) ≡ affordable w (5 + c)
capped w f c m e h = elim (cases_lt w.free (5 + c)) [
  | inl l ↦ rw (lt-ltb w.free (5 + c) l, lt-ltb w.free (min (min c f + 5) m) (omega arith)) refl
  | inr l ↦ rw (le-ltb w.free (5 + c) l, le-ltb w.free (min (min c f + 5) m) (omega arith)) refl
]
