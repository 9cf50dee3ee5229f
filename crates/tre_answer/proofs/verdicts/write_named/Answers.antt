use Rattle.std.proofs.Common.{◌≡◌, suc, ◌-◌, ◌+◌, ◌*◌, ◌++◌, ◌∙◌, codes, length, get_or, ap, sym, arith}
use Rattle.std.proofs.Math.Nat.{suc-mul}
use Rattle.std.proofs.lemmas.List.{drop_all}
use Rattle.std.specs.List.{slice_range}
use Rattle.tre_show.specs.Line.{line_of}
use Rattle.tre_tell.specs.Blocks.{lines_with}
use Rattle.tre_answer.specs.Listed.{listed_zones}
use Rattle.tre_answer.proofs.Named.{blank, named_before, named_none}
use Rattle.tre_answer.proofs.verdicts.write_named.Goals as goal

pub loop-left-init : goal.loop-left-init
loop-left-init c = record {
  late = c.requires.places.0;
  early = omega arith;
  within = omega arith;
  room = c.requires.room;
  lines = drop_all (length c.args.buffer.now) c.args.buffer.now (omega arith)
      ∙ sym (named_none c.args.scale _ (listed_zones c.args.zones.now) c.args.to);
}

pub loop-left-preserved : goal.loop-left-preserved
loop-left-preserved c =
    let zones = listed_zones c.args.zones.now in
    let label = c.args.name.now ++ codes " " in
    let width = length c.args.name.now + 193 in
    let from = c.args.from in
    let to = c.args.to in
    let left = c.loop-left.left in
    let old = c.loop-left.invariant in
    let next : left - 1 + 1 ≡ left = omega (arith, c.loop-left-test.true) in
    let fewer : (left - from) ≡ suc (left - 1 - from) = omega (arith, c.loop-left-test.true) in
    let line = label ++ line_of c.args.scale (get_or zones (left - 1) blank) in
    let before = named_before c.args.scale label zones (left - 1) to blank
    (omega (arith, c.loop-left-test.true, old.early)) c.requires.places.1
    ∙ ap (λ k. line ++ lines_with c.args.scale label (slice_range zones k to)) next in
    record {
      late = omega (arith, c.loop-left-test.true);
      early = omega (arith, old.early);
      within = omega (arith, old.within, c.write_named_line-begin.ensures.begin);
      room = omega (
        arith,
        ap (λ k. k * width) fewer,
        suc-mul (left - 1 - from) width,
        old.room,
        c.write_named_line-begin.ensures.begin,
      );
      lines = c.write_named_line-begin.ensures.line blank
          ∙ ap (λ rest. line ++ rest) old.lines ∙ sym before;
    }

pub returns-clause-lines : goal.returns-clause-lines
returns-clause-lines c =
    let old = c.loop-left.invariant in
    let same : c.loop-left.left ≡ c.args.from =
    omega (arith, old.late, c.loop-left-test.false) in
    rw (← same) old.lines
