-- What is left of the facts to write, as the loops' invariants say it.
use Rattle.std.specs.Prelude.{◌≡◌, ℕ, ◌+◌, ◌≤◌, Bool, true, false, cond, List, [], ◌∷◌, ◌++◌, is_ok, Ok, Err, Result, refl}
use Rattle.std.proofs.Common.{sym, ap, subst, ◌∙◌, append_assoc, append-nil, arith}
use Rattle.std.proofs.lemmas.Bool.{false≢true}
use Rattle.refusal.specs.Causes.{refusal_at}
use Rattle.refusal.specs.declared.Cause.TheVariants.{BadFact}
use Rattle.refusal.specs.declared.Refusal.{Refusal}
use Rattle.facts.specs.declared.Fact.{Fact}
use Rattle.facts.specs.Tuples.{recordable}
use Rattle.journal.specs.Trace.{costs, sound_from}
use Rattle.packed.specs.Format.{Item, encode, encode_item, items_of, Whole, Puts}
use Rattle.packed.specs.Meaning.{width, written, all_written, fact_cost}

-- what was written and the facts from i on that are left to write give the whole
pub record Left (p i : ℕ) (was now : List ℕ) (m n : ℕ) (all rest : List Fact) : Type 0 where
  pub sound : sound_from i rest ≡ Ok tt
  pub bytes : now ++ encode width (all_written p rest) ≡ was ++ encode width (all_written p all)
  pub whole : Whole width now
  pub items : items_of width now ++ all_written p rest ≡ items_of width was ++ all_written p all
  pub len : n + costs fact_cost rest ≡ m + costs fact_cost all

pub sound_parts : (b : Bool) (r : Result (Unit {0}) Refusal) (e : Refusal) → cond b r (Err e) ≡ Ok tt → (b ≡ true) × (r ≡ Ok tt)
sound_parts true r e h = (refl, h)
sound_parts false r e h = absurd (false≢true (ap is_ok h))

module _ (p i : ℕ) (was now then : List ℕ) (m n k : ℕ) (all xs rest : List Fact) (x : Fact) (at : xs ≡ x ∷ rest) (l : Left p i was now m n all xs) where
  here : Left p i was now m n all (x ∷ rest)
  here = subst (λ (r : List Fact). Left p i was now m n all r) at l

  parts : (recordable x ≡ true) × (sound_from (i + 1) rest ≡ Ok tt)
  parts = sound_parts (recordable x) (sound_from (i + 1) rest) (refusal_at BadFact i) here.sound

  pub left_first : (recordable x ≡ true) × (n + fact_cost x.values.count ≤ m + costs fact_cost all)
  left_first = (parts.0, omega (arith, here.len))

  pub left_next : Puts width now then (written p x ∷ []) → k ≡ n + fact_cost x.values.count → Left p (i + 1) was then m k all rest
  left_next e z = record {
    sound = parts.1;
    bytes = ap (λ (b : List ℕ). b ++ encode width (all_written p rest)) e.bytes ∙ append_assoc now (encode width (written p x ∷ [])) (encode width (all_written p rest))
        ∙ ap (λ (b : List ℕ). now ++ (b ++ encode width (all_written p rest))) (append-nil (encode_item width (written p x))) ∙ here.bytes;
    whole = e.whole;
    items = ap (λ (b : List Item). b ++ all_written p rest) e.items ∙ append_assoc (items_of width now) (written p x ∷ []) (all_written p rest) ∙ here.items;
    len = omega (arith, z, here.len);
  }

pub left_done : (p i : ℕ) (was now : List ℕ) (m n : ℕ) (all rest : List Fact) → rest ≡ [] → Left p i was now m n all rest
    → Puts width was now (all_written p all) × (n ≡ m + costs fact_cost all)
left_done p i was now m n all rest e l =
    let d = subst (λ (r : List Fact). Left p i was now m n all r) e l in
    (record { bytes = sym (append-nil now) ∙ d.bytes; whole = d.whole; items = sym (append-nil (items_of width now)) ∙ d.items }, omega (arith, d.len))
