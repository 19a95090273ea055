use Rattle.std.proofs.lemmas.Result.{err_from_is_err_and}
use Rattle.journal.proofs.Twices.{after_first, first_refused}
use Rattle.journal.proofs.two.commit_two.Goals as goal

pub returns : goal.returns
returns g c = record {
  does = after_first g.J.FactSource.facts g.J.Journal.trace c.args.journal.now c.commit.new.self c.commit-2.new.self c.args.first c.args.facts.now c.args.second c.args.more.now c.commit-2.result
      c.ranges.second.fits c.in_ok-commit.ensures.does c.commit-2.ensures.does;
  keeps = g.met.J.Journal.along c.args.journal.now c.commit.new.self c.commit-2.new.self c.commit.ensures.keeps c.commit-2.ensures.keeps;
}

pub returns-in_err-commit : goal.returns-in_err-commit
returns-in_err-commit g c =
    let p = err_from_is_err_and c.from_residual.result c.from_residual.ensures.1 in
    rw (p.1, p.2) (record {
      does = first_refused g.J.FactSource.facts g.J.Journal.trace c.args.journal.now c.commit.new.self c.commit.new.self c.args.first c.args.facts.now c.args.second c.args.more.now _ c.in_err-commit.ensures.does;
      keeps = c.commit.ensures.keeps;
    })
