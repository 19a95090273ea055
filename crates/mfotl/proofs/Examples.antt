-- The worked examples, by one law.
use Rattle.std.proofs.Common.{◌≡◌, ℕ, Bool, true, false, not, ◌&&◌, List, [], ◌∷◌, get_or, Decides, refl}
use Rattle.std.specs.List.{AllByRecursion}
use Rattle.std.proofs.lemmas.Bool.{and_parts, false≢true}
use Rattle.mfotl.proofs.Evaluation.{quantifierless, evaluated}
use Rattle.mfotl.specs.Examples.{Example, Says, Correct, examples, ExamplesStand}
use Rattle.mfotl.proofs.Trying.{tried}

same : Bool → Bool → Bool
same true b = b
same false b = not b

says : {P : Type 0} (t b : Bool) → same b t ≡ true → Decides t P → Says b P
unfolding same
says true true h d = d.0 refl
says true false h d = absurd (false≢true h)
says false true h d = absurd (false≢true h)
says false false h d = λ x. false≢true (d.1 x)

test : Example → Bool
test x = quantifierless x.formula && same x.verdict (evaluated x.facts x.stamps (λ v. get_or x.values v 0) x.formula x.position)

correct : (x : Example) → test x ≡ true → Correct x
unfolding test
correct x h =
    let η : ℕ → ℕ = λ v. get_or x.values v 0 in
    let p = and_parts (quantifierless x.formula) (same x.verdict (evaluated x.facts x.stamps η x.formula x.position)) h in
    says (evaluated x.facts x.stamps η x.formula x.position) x.verdict p.1 (tried x.facts x.stamps η x.formula p.0 x.position)

tests : List Example → Bool
tests [] = true
tests (x ∷ xs) = test x && tests xs

all_correct : (xs : List Example) → tests xs ≡ true → AllByRecursion Correct xs
unfolding tests
all_correct [] h = tt
all_correct (x ∷ xs) h = let p = and_parts (test x) (tests xs) h in (correct x p.0, all_correct xs p.1)

pub stand : ExamplesStand
unfolding tests test same
stand = all_correct examples refl
