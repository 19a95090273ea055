-- The facts of a commit, one by one, and what a scan of facts finds.
use Rattle.std.proofs.Common.{◌≡◌, ℕ, ◌+◌, ◌<◌, Bool, true, false, cond, ◌&&◌, eqb, ltb, List, length, is_ok, not, inl, inr, Some, None, Ok, fold, Option, [], ◌∷◌, sym, refl, ap, ◌∙◌, subst}
use Rattle.std.specs.List.{position, position_from}
use Rattle.std.proofs.lemmas.Iterator.Adapters.{position_from-zero}
use Rattle.refusal.specs.declared.Cause.TheVariants.{BadFact}
use Rattle.std.proofs.lemmas.Bool.{ltb-true, false≢true, cases_Bool}
use Rattle.sets.specs.Sets.{none}
use Rattle.facts.specs.declared.Fact.{Fact}
use Rattle.facts.specs.declared.Query.{Query}
use Rattle.facts.specs.Facts.{Facts, Least, answerable, allowed, wanted, Found}
use Rattle.facts.specs.Scan.{better}
use Rattle.facts.specs.Tuples.{among, fits, recordable}
use Rattle.facts.proofs.Tuples.{refused}
use Rattle.facts.proofs.Scans.{like, asked, scanned}
use Rattle.journal.specs.Trace.{own, own_needs, sound_from}

-- the first fact that no journal takes
refused_from : (i : ℕ) (xs : List Fact) → refused BadFact (position_from (λ x. not (recordable x)) i xs) ≡ sound_from i xs
refused_from i [] = refl
refused_from i (x ∷ xs) = elim (cases_Bool (recordable x)) [ inl o ↦ rw o (refused_from (i + 1) xs) | inr o ↦ rw o refl ]

pub refused_first : (xs : List Fact) → refused BadFact (position (λ x. not (recordable x)) xs) ≡ sound_from 0 xs
refused_first xs = ap (refused BadFact) (position_from-zero (λ x. not (recordable x)) xs) ∙ refused_from 0 xs

-- a query that a journal answers has at most three arguments
few_asked : (q : Query) (t u : Bool) → answerable (cond (t && u) (Some none) None) q ≡ Ok tt → u ≡ true
few_asked q true true h = refl
few_asked q true false h = absurd (false≢true (ap is_ok h))
few_asked q false u h = absurd (false≢true (ap is_ok h))

-- where a journal's facts at a position are these, a scan of them finds what find answers
pub scan_found : (f : Facts) (p : ℕ) (q : Query) (a : Option (List ℕ)) (xs : List Fact) (r : Option (List ℕ))
    → f.needs q.predicate q.given.count ≡ own_needs q.predicate q.given.count → ((vs : List ℕ) → f.holds p q.predicate vs ≡ among q.predicate vs xs)
    → allowed f q ≡ Ok tt → r ≡ fold (better q a) None xs → Found f p q a (Ok r)
scan_found f p q a xs r n e h b =
    let own_needs : answerable (own_needs q.predicate q.given.count) q ≡ Ok tt = subst (λ K. answerable K q ≡ Ok tt) n h in
    let few : q.given.count < 4 = ltb-true q.given.count 4 (few_asked q (own q.predicate) (ltb q.given.count 4) own_needs) in
    record {
      cases = (
        h,
        like (asked q a few xs) (wanted f p q a) (λ vs. ap (λ (t : Bool). eqb (length vs) q.given.count && (t && fits q a vs)) (e vs)) r
            (subst (Least (asked q a few xs)) (sym b) (scanned q a few xs)),
      );
    }
