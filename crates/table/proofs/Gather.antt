-- The variables of terms, gathered one by one.
use Rattle.std.proofs.Common.{◌≡◌, ℕ, ◌+◌, ◌<◌, Bool, false, List, [], ◌∷◌, ◌++◌, length, get_or, take, length-take, sym, refl, ap, ◌∙◌, arith}
use Rattle.std.proofs.lemmas.List.{take_more}
use Rattle.sets.specs.Sets.{NumberSet, none, ◌∪◌}
use Rattle.sets.proofs.Unions.{union_assoc, union_none, none_union}
use Rattle.table.specs.declared.node.Term.{Term}
use Rattle.table.specs.declared.node.Term.TheVariants.{Variable, Constant}
use Rattle.table.specs.Formula.{variable_in, variables_at}

variables_append : (G : NumberSet) (a : ℕ) (ts us : List Term) → variables_at G a (ts ++ us) ≡ variables_at G a ts ∪ variables_at G (a + length ts) us
variables_append G a [] us = ap (λ (b : ℕ). variables_at G b us) (omega arith) ∙ sym (none_union (variables_at G (a + 0) us))
variables_append G a (t ∷ ts) us =
    ap (λ (K : NumberSet). variable_in (G a) t ∪ K) (variables_append G (a + 1) ts us ∙ ap (λ (b : ℕ). variables_at G (a + 1) ts ∪ variables_at G b us) (omega arith))
    ∙ sym (union_assoc (variable_in (G a) t) (variables_at G (a + 1) ts) (variables_at G (a + length (t ∷ ts)) us))

pub gather_more : (G : NumberSet) (ts : List Term) (i : ℕ) (d : Term) → i < length ts → variables_at G 0 (take (i + 1) ts) ≡ variables_at G 0 (take i ts) ∪ variable_in (G i) (get_or ts i d)
gather_more G ts i d h =
    ap (variables_at G 0) (take_more ts i d h) ∙ variables_append G 0 (take i ts) (get_or ts i d ∷ [])
    ∙ ap (λ (b : ℕ). variables_at G 0 (take i ts) ∪ variables_at G b (get_or ts i d ∷ [])) (omega (arith, length-take i ts))
    ∙ ap (λ (K : NumberSet). variables_at G 0 (take i ts) ∪ K) (union_none (variable_in (G i) (get_or ts i d)))

-- a term that is not wanted gives no variable
unwanted : (wanted : Bool) (t : Term) → wanted ≡ false → variable_in wanted t ≡ none
unwanted wanted (Variable v) e = ap (λ (b : Bool). variable_in b (Variable v)) e
unwanted wanted (Constant c) e = refl

pub gather_none : (G : NumberSet) (ts : List Term) (i : ℕ) → i < length ts → G i ≡ false → variables_at G 0 (take (i + 1) ts) ≡ variables_at G 0 (take i ts)
gather_none G ts i h e =
    gather_more G ts i (Variable 0) h
    ∙ ap (λ (K : NumberSet). variables_at G 0 (take i ts) ∪ K) (unwanted (G i) (get_or ts i (Variable 0)) e)
    ∙ union_none (variables_at G 0 (take i ts))

pub ruleset gathers = (gather_more, gather_none)
