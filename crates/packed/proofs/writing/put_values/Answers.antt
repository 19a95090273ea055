use Rattle.std.proofs.Common.{◌≡◌, ◌++◌, length, List, ℕ, ap, ◌∙◌, arith, take_all, rules, length-append}
use Rattle.std.specs.List.{flat_map}
use Rattle.packed.specs.Format.{le}
use Rattle.packed.specs.Meaning.{width}
use Rattle.packed.proofs.Steps.{values_more}
use Rattle.packed.proofs.writing.put_values.Goals as goal

pub loop-value-preserved : goal.loop-value-preserved
loop-value-preserved c =
    let now : c.extend_from_slice.new.self.items ≡ c.loop-value.bytes.items ++ c.to_le_bytes.result = ap (λ r. r.items) c.extend_from_slice.ensures in
    let four : length c.to_le_bytes.result ≡ 4 = ap (λ (l : List ℕ). length l) c.to_le_bytes.ensures in
    record {
      items = values_more c.loop-value.value-index _ c.args.bytes.now.items c.loop-value.bytes.items _ c.args.values.now _ c.loop-value-test.true (search rules) c.loop-value.invariant.items c.to_le_bytes.ensures now;
      len = omega (arith, ap (λ (l : List ℕ). length l) now, length-append c.loop-value.bytes.items c.to_le_bytes.result, four);
      limit = ap (λ r. r.limit) c.extend_from_slice.ensures ∙ c.loop-value.invariant.limit;
      block = ap (λ r. r.block) c.extend_from_slice.ensures ∙ c.loop-value.invariant.block;
    }

pub returns-clause-bytes : goal.returns-clause-bytes
returns-clause-bytes c =
    let items = c.loop-value.invariant.items ∙ ap (λ (l : List ℕ). c.args.bytes.now.items ++ flat_map (le width) l) (take_all _ _ c.loop-value-test.false) in
    let w = c.loop-value.invariant in
    λ i. record { items = items i; limit = w.limit i; block = w.block i }
