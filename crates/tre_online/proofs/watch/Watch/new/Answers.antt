use Rattle.tre_online.proofs.Watching.{stand_new, together_new, ended_new, trees_new}
use Rattle.tre_online.proofs.watch.Watch.new.Goals as goal

pub returns-clause-stands : goal.returns-clause-stands
returns-clause-stands c = record {
  each = stand_new c.args.patterns.now c.in_ok-sessions.sessions.items c.in_ok-sessions.ensures;
  together = together_new c.args.patterns.now c.in_ok-sessions.sessions.items
      c.in_ok-sessions.ensures;
}

pub returns-clause-ended : goal.returns-clause-ended
returns-clause-ended c =
    ended_new c.args.patterns.now c.in_ok-sessions.sessions.items c.in_ok-sessions.ensures

pub returns-clause-trees : goal.returns-clause-trees
returns-clause-trees c =
    trees_new c.args.patterns.now c.in_ok-sessions.sessions.items c.in_ok-sessions.ensures
