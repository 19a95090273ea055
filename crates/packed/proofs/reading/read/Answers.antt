use Rattle.std.proofs.Common.{◌≡◌, ◌/◌, length, take, drop, rules}
use Rattle.std.specs.Int.{from_le_bytes, w16, w32}
use Rattle.packed.specs.Format.{nums}
use Rattle.packed.specs.Meaning.{values_read}
use Rattle.packed.proofs.Bytes.{read_mark, read_fact}
use Rattle.packed.proofs.reading.read.Goals as goal

pub returns-then-head-eq-HEAD : goal.returns-then-head-eq-HEAD
returns-then-head-eq-HEAD c =
    let bs = c.args.body.now in
    let e : c.from_le_bytes.result ≡ from_le_bytes w32 (take 4 bs) = search rules in
    read_mark c.args.head _ bs c.if-head-eq-HEAD.true c.requires.body e

pub returns-else-head-eq-HEAD : goal.returns-else-head-eq-HEAD
returns-else-head-eq-HEAD c =
    let bs = c.args.body.now in
    let e : c.from_le_bytes-else-head-eq-HEAD.result ≡ from_le_bytes w16 (take 2 bs) = search rules in
    let f : c.read_values.result ≡ values_read (nums 4 (length (drop 2 bs) / 4) (drop 2 bs)) = search rules in
    read_fact c.args.head _ bs _ c.if-head-eq-HEAD.false c.requires.body e f
