use Rattle.std.proofs.Common.{◌∙◌}
use Rattle.tre_syntax.specs.Pattern.{names_of}
use Rattle.tre_vcd.specs.Needs.{needs}
use Rattle.tre_feed.proofs.Names.{vocabulary_same}
use Rattle.tre_feed.proofs.Needing.{needs-none, needs-more, needs-all}
use Rattle.tre_feed.proofs.dump.need_all.Goals as goal

pub loop-pattern-init : goal.loop-pattern-init
loop-pattern-init c = record {
  needs = needs-none (needs c.define.new.self) c.define.ensures.needs;
  defined = c.in_ok-define.ensures.definitions;
}

pub loop-pattern-preserved : goal.loop-pattern-preserved
loop-pattern-preserved c = record {
  needs = needs-more names_of c.args.patterns.now c.loop-pattern.pattern-index c.pattern-item.result
      (needs c.loop-pattern.needed)
      (record { names = c.names.result.now; events = c.events.result.now }) (needs c.add.new.self)
      c.loop-pattern-test.true c.pattern-item.is
      (vocabulary_same c.names.result.now c.events.result.now (names_of c.pattern-item.result)
      c.names.ensures.names c.events.ensures.events) c.in_ok-add.ensures.names
      c.in_ok-add.ensures.events c.loop-pattern.invariant.needs;
  defined = c.add.ensures.definitions ∙ c.loop-pattern.invariant.defined;
}

pub returns-clause-needs : goal.returns-clause-needs
returns-clause-needs c = needs-all names_of c.args.patterns.now c.loop-pattern.pattern-index
    (needs c.loop-pattern.needed) c.loop-pattern-test.false c.loop-pattern.invariant.needs
