use Rattle.std.proofs.Common.{length}
use Rattle.tre_syntax.specs.Pattern.{pattern_tree}
use Rattle.tre_syntax.proofs.Numbers.{numbered_below}
use Rattle.tre_syntax.proofs.pattern.Pattern.expr.Goals as goal

pub returns-clause-pattern : goal.returns-clause-pattern
returns-clause-pattern c =
    let p = c.args.self.now in
    record {
      small = p.small;
      numbered = p.numbered;
      events_numbered = p.events_numbered;
      numbers = numbered_below (pattern_tree p) (length p.names) (length p.events) p.numbered
          p.events_numbered p.few p.few_events;
      few = p.few;
      few_events = p.few_events;
    }
