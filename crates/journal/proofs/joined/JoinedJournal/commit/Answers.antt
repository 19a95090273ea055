use Rattle.std.proofs.Common.{refl, ap}
use Rattle.journal.specs.LayersLemmas.{commit_beside, commit_merged}
use Rattle.journal.proofs.joined.JoinedJournal.commit.Goals as goal

pub returns : goal.returns
returns g c =
    let below = c.commit.ensures.does in
    record {
      does = record {
        answer = below.answer;
        taken = commit_merged g.J.FactSource.facts g.J.Journal.trace c.args.self.now.lower c.commit.new.self (g.S.FactSource.facts c.args.self.now.second) c.args.stamp c.args.facts.now c.commit.result below;
        refused = λ o. ap (λ l. record { lower = l; second = c.args.self.now.second }) (below.refused o);
      };
      keeps = (c.commit.ensures.keeps, refl, commit_beside g.J.FactSource.facts g.J.Journal.trace c.args.self.now.lower c.commit.new.self c.args.stamp c.args.facts.now c.commit.result below);
    }
