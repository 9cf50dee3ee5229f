use Rattle.std.proofs.Common.{◌≡◌, get_or, take, arith}
use Rattle.std.proofs.lemmas.List.{take_more}
use Rattle.tre_zone.proofs.Scaling.{canonical-frame}
use Rattle.tre_minus.specs.declared.side.Side.TheVariants.{BeginLow}
use Rattle.tre_minus.proofs.Cutting.{IsCutOn, IsCutOn-none, IsCutOn-more, IsCutOn-all, missing-values, six}
use Rattle.tre_minus.proofs.cut.cut.Goals as goal

pub loop-side-init : goal.loop-side-init
loop-side-init c =
    rw (c.bounds-inside.ensures.same)
    (IsCutOn-none c.args.zone.now c.bounds-taken.result c.args.from c.args.parts.now.items
    c.bounds-inside.ensures.keys)

pub new-requires : goal.new-requires
new-requires c =
    rw c.missing.ensures
    (missing-values (get_or six c.loop-side.side-index BeginLow) c.loop-side.inside
    c.bounds-taken.result c.loop-side.invariant.keys
    (rw c.bounds-taken.ensures.same c.bounds-taken.ensures.keys))

pub loop-side-preserved : goal.loop-side-preserved
loop-side-preserved c =
    rw (
      take_more six c.loop-side.side-index BeginLow c.loop-side-test.true,
      c.meeting-inside.ensures,
    )
    (IsCutOn-more (take c.loop-side.side-index six) c.args.zone.now c.bounds-taken.result
    c.args.from c.loop-side.side-index c.args.parts.now.items c.loop-side.parts.items
    c.loop-side.inside (get_or six c.loop-side.side-index BeginLow) c.new.result
    c.add_found.new.parts.items
    (rw c.bounds-taken.ensures.same c.bounds-taken.ensures.keys)
    (canonical-frame c.args.zone.now c.bounds-inside.ensures.canonical)
    (rw c.missing.ensures at c.new.ensures) c.in_ok-add_found.ensures c.loop-side.invariant)

pub returns : goal.returns
returns c =
    let last : c.loop-side.side-index ≡ 6 = omega arith in
    let cut : IsCutOn six c.args.zone.now c.bounds-taken.result c.args.from 6
    c.args.parts.now.items c.loop-side.parts.items c.loop-side.inside =
    rw last at c.loop-side.invariant in
    rw c.bounds-taken.ensures.same at
    (IsCutOn-all c.args.zone.now c.bounds-taken.result c.args.from 6 c.args.parts.now.items
    c.loop-side.parts.items c.loop-side.inside cut)
