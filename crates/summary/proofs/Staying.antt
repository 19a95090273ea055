-- Facts at positions that are not shown change no rows.
use Rattle.std.proofs.Common.{append-nil, ◌≡◌, ℕ, ◌+◌, ◌<◌, List, [], length, sym, arith}
use Rattle.table.specs.Formula.{Formula}
use Rattle.policy.specs.Wait.{wait}
use Rattle.facts.specs.Facts.{Facts}
use Rattle.mfotl.specs.Laws.{WellFormed, Rises, Equivalent}
use Rattle.mfotl.specs.Truth.{Valuation, Truth}
use Rattle.mfotl.proofs.Settling.{same_truth}
use Rattle.mfotl.proofs.Lists.{all_map}
use Rattle.summary.specs.declared.row.Row.{Row}
use Rattle.summary.specs.Rows.{Summary, prevs, onces, sinces, source, Sound, valued, Lasts, IsRow}
use Rattle.summary.specs.Growth.{Past, RowsStay}

module _ (f g : Facts) (τ : List ℕ) (rise : Rises τ) (same : (k q : ℕ) (vs : List ℕ) → k < length τ → g.holds k q vs ≡ f.holds k q vs) where
  stays_true : (φ : Formula) → WellFormed φ → wait φ ≡ 0 → (η : Valuation) (i : ℕ) → i < length τ → Equivalent (Truth f τ φ η i) (Truth g τ φ η i)
  stays_true φ w z η i l = same_truth f g τ τ [] (sym (append-nil τ)) same rise rise φ w z η i l

  still_lasts : (s : Summary) → Sound s → Past s → (η : Valuation) (k e : ℕ) → Lasts f τ s η k e → Lasts g τ s η k e
  still_lasts (prevs I b) w p η k e h = h
  still_lasts (onces I b) w p η k e h = h
  still_lasts (sinces I x y) w p η k e (a, b, c, d) = (
    a,
    b,
    λ j u v. (stays_true x w.staying p.staying η j (omega (arith, v, b))).0 (c j u v),
    λ u t. d u ((stays_true x w.staying p.staying η (e + 1) u).1 t),
  )

  still_row : (s : Summary) → Sound s → Past s → (r : Row) → IsRow f τ s r → IsRow g τ s r
  still_row s w p r i = record {
    values = i.values;
    shown = i.shown;
    begins = (stays_true (source s) w.beginning p.beginning (valued r.values) r.first i.shown).0 i.begins;
    lasts = still_lasts s w p (valued r.values) r.first r.last i.lasts;
  }

pub stayed : RowsStay
stayed f g τ s rise w p same rows list = record {
  each = all_map (IsRow f τ s) (IsRow g τ s) (still_row f g τ rise same s w p) rows list.each;
  sorted = list.sorted;
  all = λ vs k v l t. list.all vs k v l ((stays_true f g τ rise same (source s) w.beginning p.beginning (valued vs) k l).1 t);
}
