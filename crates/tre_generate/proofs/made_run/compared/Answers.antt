use Rattle.std.proofs.Common.{string_bytes}
use Rattle.std.proofs.lemmas.Result.{IfOk-weaker}
use Rattle.tre_syntax.specs.Pattern.{pattern_tree}
use Rattle.tre_trace.specs.Trace.{quiet}
use Rattle.tre_generate.specs.Made.{made_trace}
use Rattle.tre_generate.specs.Tallies.{IsTally}
use Rattle.tre_generate.specs.Told.{MatchesAreTold}
use Rattle.tre_generate.proofs.MadeTraces.{made_trace-length}
use Rattle.tre_generate.proofs.Summaries.{summary_is}
use Rattle.tre_generate.proofs.made_run.compared.Goals as goal

pub count_probes-tally-requires : goal.count_probes-tally-requires
count_probes-tally-requires c =
    rw (c.requires.made, made_trace-length c.args.count) c.requires.limit

pub returns : goal.returns
returns c =
    let tree = pattern_tree c.args.pattern in
    let count = c.args.count in
    let whole = c.args.whole.now in
    let told = c.in_ok-told.told in
    let tally = c.count_probes-tally.result in
    let are_told : MatchesAreTold tree (made_trace count) told =
    rw c.requires.made at c.in_ok-told.ensures in
    let counted : IsTally whole told (made_trace count) count tally =
    rw (c.requires.made, made_trace-length count) at c.count_probes-tally.ensures in
    IfOk-weaker c.summary_text.result _ _
    (λ text is. summary_is tree count c.requires.some whole told tally c.requires.matched are_told counted
    (string_bytes text)
    (rw (c.end.ensures.end, c.requires.made, c.zones.ensures.same) at is))
    c.summary_text.ensures
