use Rattle.std.proofs.Common.{◌∙◌, ◌++◌, length, ap, arith, append-nil}
use Rattle.std.proofs.lemmas.List.{drop_all}
use Rattle.std.proofs.lemmas.Slice.{between_to_end}
use Rattle.std.specs.List.{slice_range}
use Rattle.tre_show.specs.Line.{lines_of}
use Rattle.tre_answer.proofs.TextPieces.{EndsPutting-given}
use Rattle.tre_answer.proofs.printing.put_lines.Goals as goal

pub returns : goal.returns
returns g c =
    let lines = lines_of c.args.scale
    (slice_range (g.Z.Zones.zones c.args.zones.now) c.args.from c.args.to) in
    EndsPutting-given _ lines _
    (between_to_end c.write_lines-begin.new.buffer c.write_lines-begin.result _ (omega arith)
    ∙ c.write_lines-begin.ensures.lines
    ∙ ap (λ rest. lines ++ rest)
    (drop_all (length c.args.buffer.now) c.args.buffer.now (omega arith))
    ∙ append-nil lines) c.write_bytes.result c.write_bytes.ensures.all c.write_bytes.ensures.good
    c.write_bytes.ensures.part c.write_bytes.ensures.cause c.write_bytes.ensures.fault
