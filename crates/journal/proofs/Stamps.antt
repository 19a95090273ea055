-- Stamps that rise strictly.
use Rattle.std.proofs.Common.{◌≡◌, ℕ, zero, suc, ◌+◌, ◌<◌, ◌≤◌, true, leb, List, [], ◌∷◌, ◌++◌, length, get_or, arith}
use Rattle.std.proofs.lemmas.Bool.{leb-true, le-leb, and_parts, and_from}
use Rattle.journal.specs.Trace.{rising}

rising_over : (low end : ℕ) (ss : List ℕ) → rising low ss end ≡ true → low ≤ end
rising_over low end [] r = leb-true low end r
rising_over low end (s ∷ ss) r =
    let a = and_parts (leb low s) (rising (s + 1) ss end) r in
    let first : low ≤ s = leb-true low s a.0 in
    let rest : s + 1 ≤ end = rising_over (s + 1) end ss a.1 in
    omega arith

rising_from : (low end : ℕ) (ss : List ℕ) (p : ℕ) → rising low ss end ≡ true → p < length ss → low ≤ get_or ss p 0
rising_from low end [] p r h = absurd (omega arith)
rising_from low end (s ∷ ss) zero r h = leb-true low s (and_parts (leb low s) (rising (s + 1) ss end) r).0
rising_from low end (s ∷ ss) (suc p) r h =
    let a = and_parts (leb low s) (rising (s + 1) ss end) r in
    let first : low ≤ s = leb-true low s a.0 in
    let rest : s + 1 ≤ get_or ss p 0 = rising_from (s + 1) end ss p a.1 (omega arith) in
    omega arith

pub rising_below : (low end : ℕ) (ss : List ℕ) (p : ℕ) → rising low ss end ≡ true → p < length ss → get_or ss p 0 < end
rising_below low end [] p r h = absurd (omega arith)
rising_below low end (s ∷ ss) zero r h =
    let rest : s + 1 ≤ end = rising_over (s + 1) end ss (and_parts (leb low s) (rising (s + 1) ss end) r).1 in omega arith
rising_below low end (s ∷ ss) (suc p) r h = rising_below (s + 1) end ss p (and_parts (leb low s) (rising (s + 1) ss end) r).1 (omega arith)

pub rising_at : (low end : ℕ) (ss : List ℕ) (p q : ℕ) → rising low ss end ≡ true → p < q → q < length ss → get_or ss p 0 < get_or ss q 0
rising_at low end [] p q r h l = absurd (omega arith)
rising_at low end (s ∷ ss) p zero r h l = absurd (omega arith)
rising_at low end (s ∷ ss) zero (suc q) r h l =
    let rest : s + 1 ≤ get_or ss q 0 = rising_from (s + 1) end ss q (and_parts (leb low s) (rising (s + 1) ss end) r).1 (omega arith) in omega arith
rising_at low end (s ∷ ss) (suc p) (suc q) r h l = rising_at (s + 1) end ss p q (and_parts (leb low s) (rising (s + 1) ss end) r).1 (omega arith) (omega arith)

pub rising_more : (low end : ℕ) (ss : List ℕ) (s : ℕ) → rising low ss end ≡ true → end ≤ s → rising low (ss ++ (s ∷ [])) (s + 1) ≡ true
rising_more low end [] s r h =
    let l : low ≤ end = leb-true low end r in
    and_from (leb low s) (leb (s + 1) (s + 1)) (le-leb low s (omega arith)) (le-leb (s + 1) (s + 1) (omega arith))
rising_more low end (t ∷ ss) s r h =
    let a = and_parts (leb low t) (rising (t + 1) ss end) r in
    and_from (leb low t) (rising (t + 1) (ss ++ (s ∷ [])) (s + 1)) a.0 (rising_more (t + 1) end ss s a.1 h)
