-- The laws of unions.
use Rattle.std.proofs.Common.{◌≡◌, refl}
use mathlib.Core.Bool.{or_assoc, or-false}
use Rattle.sets.specs.Sets.{NumberSet, none, ◌∪◌}
use Rattle.sets.proofs.Masks.{same}

pub union_assoc : (K L M : NumberSet) → (K ∪ L) ∪ M ≡ K ∪ (L ∪ M)
unfolding ◌∪◌
union_assoc K L M = same (λ v. or_assoc (K v) (L v) (M v))

pub union_none : (K : NumberSet) → K ∪ none ≡ K
unfolding ◌∪◌ none
union_none K = same (λ v. or-false (K v))

pub none_union : (K : NumberSet) → none ∪ K ≡ K
unfolding ◌∪◌ none
none_union K = same (λ v. refl)
