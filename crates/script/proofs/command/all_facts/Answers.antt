use Rattle.std.proofs.Common.{rules}
use Rattle.std.specs.Prelude.{is_some}
use Rattle.std.proofs.lemmas.Iterator.Consumers.{YieldsList-from_first}
use Rattle.std.proofs.lemmas.Iterator.Search.{all_from_yields_List}
use Rattle.script.specs.Facts.{fact}
use Rattle.script.specs.Words.{words_left}
use Rattle.script.proofs.command.all_facts.Goals as goal

pub returns : goal.returns
returns c = all_from_yields_List (λ word. is_some (fact word)) c.all.new.self _ c.all.result c.all.ensures.ran (YieldsList-from_first (λ word. word.now) words_left (words_left c.args.words) cc) (λ x b q k. search rules)
