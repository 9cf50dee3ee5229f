use Rattle.std.proofs.Common.{◌≡◌, ◌++◌, codes, drop, get_or, append_assoc}
use Rattle.tre_show.specs.Line.{line_of}
use Rattle.tre_answer.specs.Listed.{listed_zones}
use Rattle.tre_answer.proofs.verdicts.write_named_line.Goals as goal

pub returns-clause-line : goal.returns-clause-line
returns-clause-line c = λ zone.
    let name = c.args.name.now in
    let line = line_of c.args.scale (get_or (listed_zones c.args.zones.now) c.args.place zone) in
    let rest = drop c.args.end c.args.buffer.now in
    let parts : ((name ++ codes " ") ++ line) ++ rest ≡ name ++ (codes " " ++ (line ++ rest)) =
    simp append_assoc in
    let same = c.zone.ensures zone in
    cc (
      c.write_word.ensures.text,
      c.write_word-end.ensures.text,
      c.write_line-end.ensures.line,
      c.as_bytes.ensures.value,
      same,
      parts,
    )
