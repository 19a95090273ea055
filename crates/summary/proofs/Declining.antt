-- A decliner without marks, and a read of a mark.
use Rattle.std.proofs.Common.{◌≡◌, ℕ, zero, suc, Bool, false, cond, [], get_or, replicate, Some, None, refl, ap}
use Rattle.summary.specs.Layout.{declined}

-- a list of the same element has it everywhere, where it is also what stands for none
pub same_all : {X : Type 0} (k n : ℕ) (x : X) → get_or (replicate k x) n x ≡ x
same_all zero n x = refl
same_all (suc k) zero x = refl
same_all (suc k) (suc n) x = same_all k n x

pub none_lost : (n : ℕ) → declined (replicate 32 false) n ≡ Some []
none_lost n = ap (λ (b : Bool). cond b None (Some [])) (same_all 32 n false)
