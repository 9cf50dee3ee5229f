use Rattle.std.proofs.Common.{◌≡◌, ◌-◌, ◌+◌, ◌++◌, ◌∙◌, ap, sym, refl, drop, length, arith}
use Rattle.std.proofs.lemmas.Option.{slice_get_read}
use Rattle.tre_tell.specs.Blocks.{lines_with}
use Rattle.tre_tell.proofs.Printing.{lines_none, lines_before}
use Rattle.tre_tell.proofs.text.put_lines.Goals as goal

pub loop-left-init : goal.loop-left-init
loop-left-init c =
    let zones = c.args.zones.now in
    record {
      count = omega arith;
      within = c.requires.within;
      lines = lines_none c.args.scale c.args.label.now
          (drop c.args.begin c.args.text.now.items) zones (length zones) (omega arith);
    }

pub loop-left-preserved : goal.loop-left-preserved
loop-left-preserved c =
    let zones = c.args.zones.now in
    let left = c.loop-left.left in
    let zone = c.index-zones-left.result in
    let old = c.loop-left.invariant in
    let before = drop c.args.begin c.args.text.now.items in
    let next : left - 1 + 1 ≡ left = omega (arith, c.loop-left-test.true) in
    record {
      count = omega (arith, old.count);
      within = c.in_ok-at.ensures.within;
      lines =
          lines_before c.args.scale c.args.label.now before _ _ zones (left - 1) zone
          (slice_get_read zones (length zones) (left - 1) zone refl
          (omega (arith, c.loop-left-test.true, old.count)) c.index-zones-left.is)
          (old.lines ∙ ap (λ k. lines_with c.args.scale c.args.label.now (drop k zones) ++ before)
          (sym next)) c.in_ok-at.ensures.line;
    }
