-- What `try_fold` makes of the items that an iterator gives.
use Rattle.std.proofs.Common.{◌≡◌, List, [], ◌∷◌, Some, None, Option, sym, ap, ◌∙◌, subst}
use Rattle.std.specs.Iterator.{AlwaysYields, TryFoldTurn, TryFoldsItems, YieldsThen}
use Rattle.std.specs.Fn.{Called}
use Rattle.std.specs.List.{FoldsTo}
use Rattle.std.specs.ControlFlow.{continue_value}
use Rattle.std.specs.Option.{MatchOption}
use Rattle.std.specs.declared.ops.ControlFlow.{ControlFlow}
use Rattle.std.specs.declared.ops.ControlFlow.TheVariants.{Continue, Break}
use Rattle.std.proofs.lemmas.Iterator.{YieldsList}
use denote.Param.Members.{Mut}
use Rattle.script.specs.Reading.{and_then, try_fold}

module _ {S A B T F : Type 0} (E : Type 0) (steps : S → Option A → S → Type 0) (view : A → T) (g : Mut F (B × (A × Unit {0})) (Option B)) (f : F) (turn : B → T → Option B)
    (acts : (b : B) (x : A) (r : Option B) (q : F) → Called g f (b, (x, tt)) r q → (q ≡ f) × (r ≡ turn b (view x))) where
  abbrev branches : Option B → ControlFlow E B → Type 0
  branches s r = s ≡ continue_value r

  folded : (s u : S) (xs : List A) (o : Option A) (all : List T) (init a : B) (j : F) (r : Option B)
      → AlwaysYields steps view s all → YieldsThen steps s xs o u → FoldsTo (TryFoldTurn g branches) (f, init) xs (j, a)
      → MatchOption o (branches r (Continue a)) (λ x. (v : Option B) × (h : F) × (e : E) × Called g j (a, (x, tt)) v h × branches v (Break e) × (r ≡ None))
      → r ≡ try_fold turn init all
  folded s u [] None [] init a j r yields run turns last = last ∙ ap (λ (q : F × B). Some q.1) (sym turns)
  folded s u [] None (t ∷ ts) init a j r yields run turns last = absurd (yields.0 u (subst (λ z. steps z None u) (sym run.1) run.2))
  folded s u [] (Some x) [] init a j r yields run turns last = absurd (yields x u (subst (λ z. steps z (Some x) u) (sym run.1) run.2))
  folded s u [] (Some x) (t ∷ ts) init a j r yields run turns last =
      let same = (yields.1 x u (subst (λ z. steps z (Some x) u) (sym run.1) run.2)).0 in
      let call = acts init x last.0 last.1 (subst (λ (q : F × B). Called g q.0 (q.1, (x, tt)) last.0 last.1) (sym turns) last.3) in
      let broke : turn init t ≡ None = ap (turn init) (sym same) ∙ (sym call.1 ∙ last.4) in
      last.5 ∙ sym (ap (λ o. and_then o (λ b. try_fold turn b ts)) broke)
  folded s u (x ∷ xs) o [] init a j r yields run turns last = absurd (yields x run.1.0 run.1.1)
  folded s u (x ∷ xs) o (t ∷ ts) init a j r yields run turns last =
      let next = yields.1 x run.1.0 run.1.1 in
      let call = acts init x turns.1.0 turns.0.0 turns.1.1 in
      let went : turn init t ≡ Some turns.0.1 = ap (turn init) (sym next.0) ∙ (sym call.1 ∙ turns.1.2) in
      folded run.1.0 u xs o ts turns.0.1 a j r next.1 (run.0, run.1.2, run.2) (subst (λ h. FoldsTo (TryFoldTurn g branches) (h, turns.0.1) xs (j, a)) call.0 turns.2) last
      ∙ sym (ap (λ v. and_then v (λ b. try_fold turn b ts)) went)

-- the same of what a call of `try_fold` ensures
pub try_fold_is : {S A B T F E : Type 0} {steps : S → Option A → S → Type 0} {view : A → T} {g : Mut F (B × (A × Unit {0})) (Option B)} {f : F} {s : S} {init : B} {all : List T} (u : S) (turn : B → T → Option B) (r : Option B)
    → TryFoldsItems steps g (λ (v : Option B) (c : ControlFlow E B). v ≡ continue_value c) (λ _ v. v ≡ None) s f init r u
    → YieldsList steps view s all
    → ((b : B) (x : A) (v : Option B) (q : F) → Called g f (b, (x, tt)) v q → (q ≡ f) × (v ≡ turn b (view x)))
    → r ≡ try_fold turn init all
try_fold_is {steps = steps} {view = view} {g = g} {f = f} {s = s} {init = init} {all = all} u turn r ran yields acts =
    folded _ steps view g f turn acts s u ran.0 ran.1 all init ran.3 ran.2 r yields.runs ran.4 ran.5 ran.6
