use Rattle.table.proofs.Questions.{refused_unless_formed}
use Rattle.table.proofs.form.form_rules_stand.Goals as goal

pub returns : goal.returns
returns c = refused_unless_formed
