-- A table is accepted exactly if it meets no refusal.
use Rattle.std.proofs.Common.{◌≡◌, ℕ, true, List, is_none, is_ok, Some, None, Ok, Err, Decides, Option, Result, sym, refl, ap, ◌∙◌}
use Rattle.std.specs.Option.{option_or}
use Rattle.refusal.specs.declared.Refusal.{Refusal}
use Rattle.table.specs.declared.node.Node.{Node}
use Rattle.sets.specs.Sets.{none}
use Rattle.table.specs.Formula.{formula_at, root_of}
use Rattle.table.specs.Form.{Declarations, first, form_questions}
use Rattle.table.proofs.Questions.{refused_unless_formed}
use Rattle.policy.specs.declared.modes.Mode.TheVariants.{Search}
use Rattle.policy.specs.Modes.{walk}
use Rattle.policy.specs.Verdict.{of_walk, refusal_of, Accepted, RefusedUnlessAccepted}
use Rattle.policy.proofs.Walked.{walk_tells}

neither : (a b : Option Refusal) → option_or a b ≡ None → (a ≡ None) × (b ≡ None)
neither None b e = (refl, e)
neither (Some x) b e = cc

walk_ok : (w : Result (Unit {0}) ℕ) → of_walk w ≡ None → is_ok w ≡ true
walk_ok (Ok _) e = refl
walk_ok (Err n) e = cc

ok_walk : (w : Result (Unit {0}) ℕ) → is_ok w ≡ true → of_walk w ≡ None
ok_walk (Ok _) e = refl
ok_walk (Err n) e = cc

module _ (D : Declarations) (ns : List Node) where
  abbrev root_walk : Result (Unit {0}) ℕ
  root_walk = walk Search D (formula_at ns (root_of ns)) none

  unrefused : Accepted D ns → refusal_of D ns ≡ None
  unrefused a =
      ap (λ (o : Option Refusal). option_or o (of_walk root_walk)) ((refused_unless_formed D ns).0 a.formed)
      ∙ ok_walk root_walk (walk_tells Search D (formula_at ns (root_of ns)) none ∙ a.moded)

  accepted : refusal_of D ns ≡ None → Accepted D ns
  accepted e = record {
    formed = (refused_unless_formed D ns).1 (neither (first (form_questions D ns)) _ e).0;
    moded = sym (walk_tells Search D (formula_at ns (root_of ns)) none) ∙ walk_ok root_walk (neither (first (form_questions D ns)) _ e).1;
  }

  -- what is refused or not decides it
  pub decided : (o : Option Refusal) → o ≡ refusal_of D ns → Decides (is_none o) (Accepted D ns)
  decided None e = (λ _. accepted (sym e), λ _. refl)
  decided (Some x) e = (λ b. cc, λ a. let n = e ∙ unrefused a in cc)

pub refused_unless_accepted : RefusedUnlessAccepted
refused_unless_accepted D ns = (unrefused D ns, accepted D ns)
