use Rattle.std.proofs.Common.{map}
use Rattle.std.proofs.lemmas.Result.{err_from_is_err_and}
use Rattle.tre_answer.specs.Printing.{finding_of}
use Rattle.tre_answer.proofs.Named.{findings_split}
use Rattle.tre_answer.proofs.TextPieces.{EndsPutting-cut, EndsPutting-last, WroteText-none}
use Rattle.tre_answer.proofs.verdicts.write_verdicts.Goals as goal

pub returns-in_err-put_checks : goal.returns-in_err-put_checks
returns-in_err-put_checks g c =
    let p = err_from_is_err_and c.from_residual.result c.from_residual.ensures.1 in
    rw (p.1, p.2) (EndsPutting-cut _ _ _ _ _ (WroteText-none (g.O.Sink.told c.args.out.now)) _ _
    (findings_split c.args.scale (map finding_of c.args.checks.now) c.args.end) _
    c.in_err-put_checks.ensures)

pub returns : goal.returns
returns g c = EndsPutting-last _ _ _ _ _ c.in_ok-put_checks.ensures _
    (findings_split c.args.scale (map finding_of c.args.checks.now) c.args.end) c.put_end.result
    c.put_end.ensures
