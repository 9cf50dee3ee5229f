use Rattle.std.proofs.Common.{None, arith, rules}
use Rattle.std.proofs.lemmas.Result.{on_ok_weaker}
use Rattle.tre_pairs.specs.Pairs.{Lasting}
use Rattle.tre_edges.specs.RunParts.{IsPart, LastsIn, anywhere}
use Rattle.tre_edges.proofs.PartsOfRuns.{added, part_ended, span_zone}
use Rattle.tre_edges.proofs.RunLists.{AreRuns-push}
use Rattle.tre_edges.proofs.runs.WholeRunsKeepsParts.keep.Goals as goal

pub span-requires-clause-rising : goal.span-requires-clause-rising
span-requires-clause-rising c = c.requires.rising

pub returns-clause-stands : goal.returns-clause-stands
returns-clause-stands c =
    search (rules, AreRuns-push, c.span.ensures.bounds, c.args.from.time, c.args.to.time)

pub returns-clause-held : goal.returns-clause-held
returns-clause-held c =
    let begin = c.args.from.time in
    let end = c.args.to.time in
    on_ok_weaker c.push_disjoint.result
    (λ held. added (Lasting (LastsIn None) (IsPart anywhere begin end)) c.args.self.now.zones
    c.push_disjoint.new.self c.span.result
    (span_zone anywhere (λ r. absurd cc) (λ f. absurd cc) begin end c.span.result c.span.ensures.held) held)
    c.push_disjoint.ensures.held

pub returns-clause-ended : goal.returns-clause-ended
returns-clause-ended c =
    let begin = c.args.from.time in
    let end = c.args.to.time in
    on_ok_weaker c.push_disjoint.result
    (λ held. part_ended (LastsIn None) anywhere begin end c.args.self.now.zones
    c.push_disjoint.new.self c.span.result (omega (arith, c.requires.rising)) c.requires.ended
    (span_zone anywhere (λ r. absurd cc) (λ f. absurd cc) begin end c.span.result c.span.ensures.held) held)
    c.push_disjoint.ensures.held
