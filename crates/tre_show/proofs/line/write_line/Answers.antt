use Rattle.std.proofs.Common.{append_assoc, arith}
use Rattle.std.proofs.lemmas.Str.{IsUtf8-from_ascii}
use Rattle.tre_zone.specs.Ranges.{begin_range, end_range, duration_range}
use Rattle.tre_show.proofs.LineBytes.{line_ascii}
use Rattle.tre_show.specs.Line.{line_of}
use Rattle.tre_show.proofs.line.write_line.Goals as goal

pub returns : goal.returns
returns c =
    let zone = c.args.zone.now in
    let scale = c.args.scale in
    let begins = rw c.bounds-bounds.ensures.same at c.write_between.ensures.ascii in
    let ends = rw c.bounds-bounds.ensures.same at c.write_between-end-2.ensures.ascii in
    let lasts = rw c.bounds-bounds.ensures.same at c.write_between-end.ensures.ascii in
    record {
      line =
          rw (
            c.write_between.ensures.text,
            c.write_sign-end-3.ensures.text,
            c.write_between-end-2.ensures.text,
            c.write_sign-end-2.ensures.text,
            c.write_between-end.ensures.text,
            c.write_sign-end.ensures.text,
            c.bounds-bounds.ensures.same,
          ) (simp append_assoc);
      begin = (
        omega (
          arith,
          c.write_between.ensures.begin,
          c.write_sign-end-3.ensures.begin,
          c.write_between-end-2.ensures.begin,
          c.write_sign-end-2.ensures.begin,
          c.write_between-end.ensures.begin,
          c.write_sign-end.ensures.begin,
        ),
        omega (
          arith,
          c.write_between.ensures.begin,
          c.write_sign-end-3.ensures.begin,
          c.write_between-end-2.ensures.begin,
          c.write_sign-end-2.ensures.begin,
          c.write_between-end.ensures.begin,
          c.write_sign-end.ensures.begin,
        ),
      );
      text =
          IsUtf8-from_ascii (line_of scale zone)
          (line_ascii scale (begin_range zone) (end_range zone) (duration_range zone) begins
          ends lasts);
    }
