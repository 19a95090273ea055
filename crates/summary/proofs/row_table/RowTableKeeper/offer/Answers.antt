use Rattle.std.proofs.Common.{◌∙◌, arith, rules}
use Rattle.std.proofs.lemmas.Grind.{common_steps}
use Rattle.summary.proofs.Tables.{refused, cut, taken, declined, fewer}
use Rattle.summary.proofs.row_table.RowTableKeeper.offer.Goals as goal

pub returns-in_default : goal.returns-in_default
returns-in_default c = refused c.args.self.now c.args.node c.args.row (grind (arith, common_steps))

pub returns-then-fits : goal.returns-then-fits
returns-then-fits c =
    taken c.args.self.now c.args.node c.in-Some-Some.count c.args.row (grind (arith, common_steps)) (grind (arith, common_steps)) c.insert.new.self.items (search rules) (search rules)

pub invariant_of-self-else-fits : goal.invariant_of-self-else-fits
invariant_of-self-else-fits c =
    let t = c.args.self.now in
    let rows = c.truncate.new.self in
    let left = cut t c.args.node c.in-Some-Some.count c.args.row (grind (arith, common_steps)) (grind (arith, common_steps)) _ _ _ rows.items
    c.start_of-start.ensures (c.len-len.ensures ∙ t.rows.ok.0) c.copy_within.ensures.items c.truncate.ensures.items in
    let p = fewer t c.args.node c.in-Some-Some.count c.args.row (grind (arith, common_steps)) (grind (arith, common_steps)) rows.items left in
    record { sized = search rules; counted = rows.ok.0 ∙ p.0; few = omega (arith, rows.ok.0, p.1); reserved = search rules }

pub returns-else-fits : goal.returns-else-fits
returns-else-fits c =
    let t = c.args.self.now in
    let left = cut t c.args.node c.in-Some-Some.count c.args.row (grind (arith, common_steps)) (grind (arith, common_steps)) _ _ _ c.truncate.new.self.items
    c.start_of-start.ensures (c.len-len.ensures ∙ t.rows.ok.0) c.copy_within.ensures.items c.truncate.ensures.items in
    declined t c.args.node c.in-Some-Some.count c.args.row (grind (arith, common_steps)) (grind (arith, common_steps)) c.truncate.new.self.items left (search rules)
