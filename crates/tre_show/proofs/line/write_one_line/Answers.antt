use Rattle.std.proofs.Common.{◌∙◌, ◌++◌, ap, arith}
use Rattle.std.proofs.lemmas.List.{drop_all, append-nil}
use Rattle.tre_show.specs.Line.{line_of}
use Rattle.tre_show.proofs.line.write_one_line.Goals as goal

pub returns-clause-line : goal.returns-clause-line
returns-clause-line c =
    c.write_line.ensures.line
    ∙ (ap (λ rest. line_of c.args.scale c.args.zone.now ++ rest)
    (drop_all 192 c.args.buffer.now (omega (arith, c.requires.room)))
    ∙ append-nil (line_of c.args.scale c.args.zone.now))
