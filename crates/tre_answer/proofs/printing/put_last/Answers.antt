use Rattle.std.proofs.Common.{◌∙◌, ◌≡◌, ◌++◌, codes, drop, length, ap, arith, append-nil}
use Rattle.std.proofs.lemmas.List.{drop_all}
use Rattle.std.proofs.lemmas.Slice.{between_to_end}
use Rattle.std.specs.List.{slice_range}
use Rattle.tre_decimal.specs.Decimal.{number_text}
use Rattle.tre_show.specs.Line.{lines_of, offline_text}
use Rattle.tre_answer.proofs.TextPieces.{EndsPutting-given, text_of}
use Rattle.tre_answer.proofs.printing.put_last.Goals as goal

pub returns : goal.returns
returns g c =
    let zones = g.Z.Zones.zones c.args.zones.now in
    let rest = drop c.args.from zones in
    let lines = lines_of c.args.scale rest in
    let same : slice_range zones c.args.from c.count.result ≡ rest =
    between_to_end zones c.args.from c.count.result
    (omega (arith, c.count.ensures)) in
    let end = codes "end " ++ number_text c.args.scale c.args.end ++ codes "\n" in
    EndsPutting-given _ (offline_text c.args.scale rest c.args.end) _
    (between_to_end c.write_lines-begin.new.buffer c.write_lines-begin.result _ (omega arith)
    ∙ rw same at c.write_lines-begin.ensures.lines
    ∙ ap (λ rest. lines ++ rest) (c.write_time-begin.ensures.line
    ∙ ap (λ rest. end ++ rest)
    (drop_all (length c.args.buffer.now) c.args.buffer.now (omega arith))
    ∙ append-nil end)
    ∙ text_of c.args.scale rest c.args.end) c.write_bytes.result c.write_bytes.ensures.all c.write_bytes.ensures.good
    c.write_bytes.ensures.part c.write_bytes.ensures.cause c.write_bytes.ensures.fault
