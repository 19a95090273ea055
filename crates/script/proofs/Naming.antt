-- A word names the value that it spells, where the values are spelled apart.
use Rattle.std.proofs.Common.{◌≡◌, ℕ, true, false, cond, List, [], ◌∷◌, Some, Option, refl, ap, ◌∙◌, sym}
use Rattle.std.proofs.lemmas.Slice.Eq.{bytes_eq-Decides}
use Rattle.std.specs.List.{find}
use Rattle.std.specs.Str.{bytes_eq}
use Rattle.script.specs.Keywords.{spelled, Names}

module _ {X : Type 0} (spelling : X → List ℕ) (word : List ℕ) where
  spells : (xs : List X) (x : X) → spelled spelling xs word ≡ Some x → word ≡ spelling x
  unfolding spelled
  spells [] x e = cc
  spells (y ∷ ys) x e =
      elim (bytes_eq word (spelling y)) as (λ t. (t ≡ true → word ≡ spelling y) → cond t (Some y) (find (λ z. bytes_eq word (spelling z)) ys) ≡ Some x → word ≡ spelling x) [
        | true ↦ λ same h. same refl ∙ ap spelling (cc)
        | false ↦ λ same h. spells ys x h
      ] (bytes_eq-Decides word (spelling y)).0 e

  pub names : (xs : List X) (r : Option X) → ((x : X) → spelled spelling xs (spelling x) ≡ Some x) → r ≡ spelled spelling xs word → Names spelling word r
  names xs r named e = record {
    spelled_so = λ x w. e ∙ (ap (spelled spelling xs) w ∙ named x);
    spells_it = λ x w. spells xs x (sym e ∙ w);
  }
