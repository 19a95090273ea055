use Rattle.std.proofs.Common.{List, length, ap, arith, rules}
use Rattle.packed.specs.Meaning.{width}
use Rattle.packed.specs.declared.reading.Entry.{Entry}
use Rattle.packed.proofs.Bytes.{begins, first_entry, none_left}
use Rattle.packed.proofs.reading.EntriesIterator.next.Goals as goal

pub returns-in_err-head-clause-steps : goal.returns-in_err-head-clause-steps
returns-in_err-head-clause-steps c =
    let none = none_left c.args.self.now.bytes.now c.in_err-head.ensures.cases in
    rw c.from_residual.ensures (none, none)

pub split_at-requires : goal.split_at-requires
split_at-requires c = omega (arith, (begins width _ _ _ c.in_ok-head.ensures.cases.0 c.args.self.now.whole).within, c.body_size.ensures)

pub read-entry-requires-clause-head : goal.read-entry-requires-clause-head
read-entry-requires-clause-head c = (begins width _ _ _ c.in_ok-head.ensures.cases.0 c.args.self.now.whole).head

pub invariant_of-self : goal.invariant_of-self
invariant_of-self c = record { whole = rw (c.split_at.ensures.back, c.body_size.ensures) (begins width _ _ _ c.in_ok-head.ensures.cases.0 c.args.self.now.whole).rest }

pub returns-clause-steps : goal.returns-clause-steps
returns-clause-steps c =
    first_entry _ _ _ _ _ _ _ c.in_ok-head.ensures.cases.0 c.args.self.now.whole c.body_size.ensures c.split_at.ensures.front c.split_at.ensures.back c.read-entry.ensures

pub returns-clause-goes : goal.returns-clause-goes
returns-clause-goes c =
    let step = first_entry _ _ _ _ _ _ _ c.in_ok-head.ensures.cases.0 c.args.self.now.whole c.body_size.ensures c.split_at.ensures.front c.split_at.ensures.back c.read-entry.ensures in
    let shorter = ap (λ (l : List Entry). length l) step in search rules
