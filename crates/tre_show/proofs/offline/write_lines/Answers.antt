use Rattle.std.proofs.Common.{◌≡◌, ◌-◌, ◌+◌, ◌++◌, ◌∙◌, ap, append_assoc, sym, drop, arith, rules}
use Rattle.std.specs.List.{slice_range}
use Rattle.tre_show.specs.Line.{line_of, lines_of}
use Rattle.tre_show.proofs.Lines.{lines_none, lines_before}
use Rattle.tre_show.proofs.offline.write_lines.Goals as goal

pub loop-left-init : goal.loop-left-init
loop-left-init g c =
    search (rules, lines_none, c.args.end, c.args.buffer.now, c.args.scale, g.Z.Zones.zones)

pub loop-left-preserved : goal.loop-left-preserved
loop-left-preserved g c =
    let scale = c.args.scale in
    let zones = g.Z.Zones.zones c.args.zones.now in
    let to = c.args.to in
    let left = c.loop-left.left in
    let zone = c.zone.result in
    let rest = drop c.args.end c.args.buffer.now in
    let old = c.loop-left.invariant in
    let next : left - 1 + 1 ≡ left = omega (arith, c.loop-left-test.true) in
    let fewer : (left - c.args.from) ≡ (left - 1 - c.args.from) + 1 =
    omega (arith, c.loop-left-test.true) in
    let lines = lines_before scale zones (left - 1) to zone
    (omega (arith, c.loop-left-test.true, old.early)) c.requires.places.1 (c.zone.ensures zone)
    ∙ ap (λ k. line_of scale zone ++ lines_of scale (slice_range zones k to)) next in
    record {
      late = omega (arith, c.loop-left-test.true);
      early = omega (arith, old.early);
      room = omega (arith, old.room, c.write_line-begin.ensures.begin, fewer);
      within = omega (arith, old.within, c.write_line-begin.ensures.begin);
      lines = c.write_line-begin.ensures.line ∙ ap (λ s. line_of scale zone ++ s) old.lines
          ∙ sym (append_assoc (line_of scale zone) (lines_of scale (slice_range zones left to))
          rest)
          ∙ ap (λ s. s ++ rest) (sym lines);
    }
