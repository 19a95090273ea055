use Rattle.std.proofs.Common.{rules}
use Rattle.std.proofs.lemmas.Iterator.{YieldsList-from_slice}
use Rattle.std.proofs.lemmas.Iterator.Search.{find_from_yields_List}
use Rattle.std.specs.Str.{bytes_eq}
use Rattle.script.specs.Keywords.{spelled}
use Rattle.script.proofs.Naming.{names}
use Rattle.script.proofs.keywords.Keyword.read.Goals as goal

pub returns : goal.returns
unfolding spelled
returns g c =
    let e = find_from_yields_List (λ x. bytes_eq c.args.word.now (g.Self.Keyword.spelling x)) _ _ c.find.result c.find.ensures.ran (YieldsList-from_slice g.Self.Keyword.all cc) (λ x b q k. search rules) in
    record { value = cc; names = names _ _ g.Self.Keyword.all _ g.met.Self.Keyword.named cc }
