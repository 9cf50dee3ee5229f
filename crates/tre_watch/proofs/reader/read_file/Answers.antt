use Rattle.std.proofs.Common.{length}
use Rattle.tre_watch.specs.Steps.{known_in}
use Rattle.tre_watch.specs.declared.reader.TheConstants.{FILE_MAX}
use Rattle.tre_watch.proofs.Lines.{answers_only, answers_small, at_most}
use Rattle.tre_watch.proofs.reader.read_file.Goals as goal

pub returns-clause-only : goal.returns-clause-only
returns-clause-only c = λ outcome other.
    let small = at_most c.is_too_large.result FILE_MAX (length c.args.bytes.now)
    c.if-is_too_large.false c.is_too_large.ensures in
    answers_only c.args.verdicts (known_in c.args.meanings) c.args.scale c.args.bytes.now
    c.read_lines.result
    (answers_small c.args.verdicts (known_in c.args.meanings) c.args.scale c.args.bytes.now small
    c.read_lines.result c.read_lines.ensures.outcome)
    outcome other
