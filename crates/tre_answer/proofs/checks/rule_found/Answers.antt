use Rattle.std.proofs.Common.{length, ap, sym}
use Rattle.tre_syntax.specs.Pattern.{pattern_tree}
use Rattle.tre_answer.proofs.Rulings.{found_judged}
use Rattle.tre_answer.proofs.checks.rule_found.Goals as goal

pub returns : goal.returns
returns c = found_judged c.args.normal (pattern_tree c.args.pattern.now) c.args.trace
    c.judge_alone-verdict.result c.in_ok-matches.matches c.new.result c.in_ok-none.none.items
    c.in_ok-matches.ensures.exact
    (c.judge_alone-verdict.ensures c.in_ok-matches.matches c.zones.ensures.tight
    (ap length (sym c.zones.ensures.same))) c.new.ensures c.in_ok-none.ensures.zones
