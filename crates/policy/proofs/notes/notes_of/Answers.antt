use Rattle.std.proofs.Common.{ℕ, ◌+◌, ◌*◌, ◌≤◌, sym, ap, ◌∙◌, arith}
use Rattle.std.proofs.lemmas.List.{length-set}
use Rattle.table.specs.Formula.{formulas}
use Rattle.table.proofs.Loops.{fill_more}
use Rattle.table.proofs.Unrolled.{unrolled}
use Rattle.policy.specs.declared.notes.Note.{Note}
use Rattle.policy.specs.Notes.{Noted, blank}
use Rattle.policy.specs.Wait.{wait}
use Rattle.policy.proofs.notes.notes_of.Goals as goal

pub loop-n-preserved : goal.loop-n-preserved
loop-n-preserved c =
    let o = c.args.outline in
    let ns = o.nodes.now in
    let n = c.loop-n.n in
    let so_far = c.loop-n.invariant in
    let h = c.loop-n-test.true in
    record {
      noted = fill_more (Noted o.declarations.now ns) c.loop-n.notes blank _ n (omega arith) so_far.noted (record {
        variables = c.free_of.ensures;
        waits = c.wait_of.ensures.is (formulas ns) (λ j l. (so_far.noted j l).waits) ∙ ap wait (sym (unrolled ns n h (o.outlined.descends n h)));
        rows = c.is_cached.ensures;
        link = c.parent_of.ensures;
      });
      bounded = fill_more (λ (j : ℕ) (x : Note). x.wait ≤ (n + 1) * 4294967295) c.loop-n.notes blank _ n (omega arith) (λ j l. omega (arith, so_far.bounded j l)) c.wait_of.ensures.bound;
      size = length-set c.loop-n.notes n _ ∙ so_far.size;
    }
