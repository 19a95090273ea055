use Rattle.table.proofs.Unrolled.{unrolled}
use Rattle.table.proofs.form.formulas_stand.Goals as goal

pub returns : goal.returns
returns c = λ D ns f n h. unrolled ns n h (f.descends n h)
