use Rattle.std.proofs.Common.{rules}
use Rattle.packed.proofs.Finding.{found}
use Rattle.packed.proofs.source.PackedFactSource.find.Goals as goal

pub returns : goal.returns
returns c = found c.args.self.now.items.bytes.items c.args.self.now.items.whole c.args.position c.args.query.now c.args.after _ (search rules) c.least_at.ensures
