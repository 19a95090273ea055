-- Numbers behind spaces, one more at a time.
use Rattle.std.proofs.Common.{◌≡◌, ℕ, ◌+◌, ◌<◌, List, [], ◌∷◌, ◌++◌, length, get_or, take, decimal, sym, ap, ◌∙◌}
use Rattle.std.proofs.lemmas.List.{append-nil, append_assoc, take_more}
use Rattle.hub.specs.Answers.{spaced}

pushed : (ns : List ℕ) (n : ℕ) → spaced ns ++ (32 ∷ decimal n) ≡ spaced (ns ++ (n ∷ []))
pushed [] n = sym (append-nil (32 ∷ decimal n))
pushed (m ∷ ms) n = append_assoc (32 ∷ decimal m) (spaced ms) (32 ∷ decimal n) ∙ ap (λ (l : List ℕ). (32 ∷ decimal m) ++ l) (pushed ms n)

pub one_more : (ns : List ℕ) (i : ℕ) → i < length ns → spaced (take i ns) ++ (32 ∷ decimal (get_or ns i 0)) ≡ spaced (take (i + 1) ns)
one_more ns i h = pushed (take i ns) (get_or ns i 0) ∙ ap spaced (sym (take_more ns i 0 h))
