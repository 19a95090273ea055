use Rattle.std.proofs.lemmas.Iterator.Consumers.{YieldsList-from_first}
use Rattle.script.specs.Nodes.{term}
use Rattle.script.specs.Words.{words_left}
use Rattle.script.proofs.nodes.terms.Goals as goal

pub returns : goal.returns
returns c = c.arguments.ensures _ term (YieldsList-from_first (λ word. word.now) words_left {s = c.args.words} (words_left c.args.words) cc).runs (λ word x read. read)
