use Rattle.std.proofs.Common.{◌≡◌, ◌/◌, List, ℕ, length, map, get_or, sym, ap, ◌∙◌, arith}
use Rattle.std.specs.Int.{from_le_bytes, w32}
use Rattle.packed.specs.Format.{nums}
use Rattle.packed.specs.Digits.{length_nums}
use Rattle.packed.proofs.Bytes.{nums_four, values_are}
use Rattle.packed.proofs.reading.read_values.Goals as goal

pub returns : goal.returns
returns c =
    let bs = c.args.bytes.now in
    let k = length bs / 4 in
    let words = c.as_chunks.result.0.now in
    let ns : map (from_le_bytes w32) words ≡ nums 4 k bs = ap (map (from_le_bytes w32)) c.as_chunks.ensures.front ∙ nums_four k bs (omega arith) in
    let at : (i : ℕ) → get_or (map (from_le_bytes w32) words) i 0 ≡ get_or (nums 4 k bs) i 0 = λ i. ap (λ (l : List ℕ). get_or l i 0) ns in
    values_are _ _ _ _ (nums 4 k bs) (omega (arith, length_nums 4 k bs)) (c.as_chunks.ensures.front_len ∙ sym (length_nums 4 k bs)) (c.value_at.ensures ∙ at 0) (c.value_at-2.ensures ∙ at 1) (c.value_at-3.ensures ∙ at 2)
