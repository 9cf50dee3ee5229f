use Rattle.std.proofs.Common.{◌+◌, ◌++◌, codes, arith}
use Rattle.std.proofs.lemmas.Result.{err_from_is_err_and}
use Rattle.tre_answer.specs.Listed.{listed_zones}
use Rattle.tre_answer.proofs.Named.{named_around, named_to}
use Rattle.tre_answer.proofs.TextPieces.{EndsPutting-cut, WroteText-more}
use Rattle.tre_answer.proofs.verdicts.put_zones.Goals as goal

pub loop-from-preserved : goal.loop-from-preserved
loop-from-preserved g c =
    let old = c.loop-from.invariant in
    let from = c.loop-from.from in
    record {
      within = omega (arith, c.loop-from-test.true, c.count-count.ensures, c.min.ensures);
      written = WroteText-more _ _ _ _ _ old.written _
          (named_to c.args.scale (c.args.name.now ++ codes " ") (listed_zones c.args.zones.now)
          from (from + c.min.result) (omega arith)) c.in_ok-put_named.ensures;
    }

pub returns-in_err-put_named : goal.returns-in_err-put_named
returns-in_err-put_named g c =
    let p = err_from_is_err_and c.from_residual.result c.from_residual.ensures.1 in
    let from = c.loop-from.from in
    rw (p.1, p.2) (EndsPutting-cut _ _ _ _ _ c.loop-from.invariant.written _ _
    (named_around c.args.scale (c.args.name.now ++ codes " ") (listed_zones c.args.zones.now)
    from (from + c.min.result) (omega arith)) _ c.in_err-put_named.ensures)
