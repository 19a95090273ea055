-- What further records add to the meaning, and what they cost.
use Rattle.std.specs.Prelude.{◌≡◌, ℕ, ◌<◌, ◌≤◌, Bool, true, false, cond, ◌&&◌, ◌||◌, List, [], ◌∷◌, ◌++◌, length, take, drop, ◌==◌, nat_le, refl}
use Rattle.std.proofs.Common.{sym, ap, ◌∙◌, inl, inr, arith, take-append-drop}
use Rattle.std.specs.List.{prefix_len}
use Rattle.std.proofs.Math.Bool.{or-false}
use Rattle.std.proofs.lemmas.Bool.{ne_eqb, cases_Bool}
use Rattle.std.proofs.lemmas.List.{map-append}
use Rattle.std.proofs.lemmas.List.Elements.{All-head, All-tail, filter-append}
use Rattle.facts.specs.declared.Fact.{Fact}
use Rattle.facts.specs.Tuples.{among}
use Rattle.facts.proofs.Scans.{among_append}
use Rattle.journal.specs.Trace.{Added, costs}
use Rattle.record_table.specs.declared.record.Record.{Record}
use Rattle.record_table.specs.Records.{Placed, records_at, facts_at, recorded, with_record}

-- each fact costs one unit
pub costs_length : (xs : List Fact) → costs (λ _. 1) xs ≡ length xs
costs_length [] = refl
costs_length (x ∷ xs) = let rest : costs (λ _. 1) xs ≡ length xs = costs_length xs in omega arith

facts_append : (p : ℕ) (rs ss : List Record) → facts_at p (rs ++ ss) ≡ facts_at p rs ++ facts_at p ss
facts_append p rs ss = simp (filter-append, map-append)

facts_here : (p k : ℕ) (xs : List Fact) → facts_at p (records_at k xs) ≡ cond (p == k) xs []
facts_here p k [] = elim (cases_Bool (p == k)) [ inl e ↦ rw e | inr e ↦ rw e ]
facts_here p k (x ∷ xs) = elim (cases_Bool (p == k)) [
  | inl e ↦ rw e (ap (λ (l : List Fact). x ∷ l) (facts_here p k xs ∙ ap (λ (b : Bool). cond b xs []) e))
  | inr e ↦ rw e (facts_here p k xs ∙ ap (λ (b : Bool). cond b xs []) e)
]

module _ (p q k : ℕ) (vs : List ℕ) where
  here : (xs : List Fact) → among q vs (facts_at p (records_at k xs)) ≡ (p == k && among q vs xs)
  here xs = ap (among q vs) (facts_here p k xs) ∙ elim (p == k) as (λ b. among q vs (cond b xs []) ≡ (b && among q vs xs)) [ true ↦ refl | false ↦ refl ]

  both : (rs ss : List Record) → among q vs (facts_at p (rs ++ ss)) ≡ (among q vs (facts_at p rs) || among q vs (facts_at p ss))
  both rs ss = ap (among q vs) (facts_append p rs ss) ∙ among_append q vs (facts_at p rs) (facts_at p ss)

  swap : (a b c : Bool) → (a || (b || c)) ≡ ((a || c) || b)
  swap true b c = refl
  swap false true true = refl
  swap false true false = refl
  swap false false c = sym (or-false c)

  among_behind : (rs : List Record) (xs : List Fact) → among q vs (facts_at p (rs ++ records_at k xs)) ≡ (among q vs (facts_at p rs) || (p == k && among q vs xs))
  among_behind rs xs = both rs (records_at k xs) ∙ ap (λ (b : Bool). among q vs (facts_at p rs) || b) (here xs)

  among_inside : (i : ℕ) (rs : List Record) (xs : List Fact)
      → among q vs (facts_at p (take i rs ++ (records_at k xs ++ drop i rs))) ≡ (among q vs (facts_at p rs) || (p == k && among q vs xs))
  among_inside i rs xs =
      both (take i rs) (records_at k xs ++ drop i rs)
      ∙ ap (λ (b : Bool). among q vs (facts_at p (take i rs)) || b) (both (records_at k xs) (drop i rs) ∙ ap (λ (b : Bool). b || among q vs (facts_at p (drop i rs))) (here xs))
      ∙ swap (among q vs (facts_at p (take i rs))) (p == k && among q vs xs) (among q vs (facts_at p (drop i rs)))
      ∙ ap (λ (b : Bool). b || (p == k && among q vs xs)) (sym (both (take i rs) (drop i rs)) ∙ ap (λ (l : List Record). among q vs (facts_at p l)) (take-append-drop i rs))

pub added_behind : (k : ℕ) (rs : List Record) (xs : List Fact) → Added (recorded rs) (recorded (rs ++ records_at k xs)) k xs
added_behind k rs xs = record { needs = λ q n. refl; holds = λ p q vs. among_behind p q k vs rs xs }

pub added_inside : (k : ℕ) (rs : List Record) (x : Fact) → Added (recorded rs) (recorded (with_record rs k x)) k (x ∷ [])
added_inside k rs x = record {
  needs = λ q n. refl;
  holds = λ p q vs. among_inside p q k vs (prefix_len (λ r. nat_le r.position k) rs) rs (x ∷ []);
}

-- no facts at a position that is not shown
pub none_unshown : (rs : List Record) (n p q : ℕ) (vs : List ℕ) → Placed rs n → n ≤ p → among q vs (facts_at p rs) ≡ false
none_unshown [] n p q vs b h = refl
none_unshown (r ∷ rs) n p q vs b h =
    let l = All-head (λ s. s.position < n) r rs b in
    rw (ne_eqb p r.position (λ e. omega (arith, e, l))) (none_unshown rs n p q vs (All-tail (λ s. s.position < n) r rs b) h)
