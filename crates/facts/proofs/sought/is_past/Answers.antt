use Rattle.std.proofs.Common.{rules}
use Rattle.facts.proofs.Orders.{less_before}
use Rattle.facts.proofs.sought.is_past.Goals as goal

pub returns : goal.returns
returns c = search (rules, less_before)
