use Rattle.std.proofs.Common.{◌+◌, arith}
use Rattle.tre_show.specs.Line.{lines_of}
use Rattle.std.proofs.lemmas.Result.{err_from_is_err_and}
use Rattle.tre_answer.proofs.TextPieces.{EndsPutting-cut, EndsPutting-last, WroteText-more, WroteText-none, lines_to, text_around, text_behind}
use Rattle.tre_answer.proofs.printing.write_matches.Goals as goal

pub loop-from-init : goal.loop-from-init
unfolding lines_of
loop-from-init g c = record {
  within = omega arith;
  written = WroteText-none (g.O.Sink.told c.args.out.now);
}

pub loop-from-preserved : goal.loop-from-preserved
loop-from-preserved g c =
    let old = c.loop-from.invariant in
    let from = c.loop-from.from in
    let zones = g.Z.Zones.zones c.args.zones.now in
    record {
      within = omega (arith, c.loop-from-test.true, c.count-count.ensures);
      written = WroteText-more _ _ _ _ _ old.written _
          (lines_to c.args.scale zones from (from + 339) (omega arith))
          c.in_ok-put_lines.ensures;
    }

pub returns-in_err-put_lines : goal.returns-in_err-put_lines
returns-in_err-put_lines g c =
    let p = err_from_is_err_and c.from_residual.result c.from_residual.ensures.1 in
    let from = c.loop-from.from in
    let zones = g.Z.Zones.zones c.args.zones.now in
    rw (p.1, p.2) (EndsPutting-cut _ _ _ _ _ c.loop-from.invariant.written _ _
    (text_around c.args.scale zones from (from + 339) c.args.end (omega arith)) _
    c.in_err-put_lines.ensures)

pub returns : goal.returns
returns g c =
    let scale = c.args.scale in
    let zones = g.Z.Zones.zones c.args.zones.now in
    let from = c.loop-from.from in
    EndsPutting-last _ _ _ _ _ c.loop-from.invariant.written _
    (text_behind scale zones from c.args.end) c.put_last.result
    c.put_last.ensures
