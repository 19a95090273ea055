use Rattle.policy.specs.Checked.{nodes_of, declarations_of}
use Rattle.policy.proofs.Parents.{linked}
use Rattle.policy.proofs.checked.Policy.stands.Goals as goal

pub returns : goal.returns
returns c =
    let p = c.args.self.now in
    record { accepted = p.accepted; linked = linked (declarations_of p) (nodes_of p) p.accepted.formed }
