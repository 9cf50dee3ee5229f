use Rattle.std.proofs.Common.{◌≡◌, ℕ, ◌*◌, List, length, ap, refl, sym, subst, ◌∙◌, arith}
use Rattle.tre_trace.specs.Trace.{end_of, IsTrace}
use Rattle.tre_trace.specs.Segments.{plain_segment}
use Rattle.tre_trace.specs.declared.segment.Segment.{Segment}
use Rattle.tre_zone.specs.ZoneList.{SetHolds}
use Rattle.tre_generate.specs.Probes.{ProbeIsInside, IsProbed}
use Rattle.tre_generate.specs.Tallies.{AgreeOnPair}
use Rattle.tre_generate.proofs.Counts.{count_le}
use Rattle.tre_generate.proofs.Probing.{place_fits, place_next, tally_next}
use Rattle.tre_generate.proofs.tally.count_probes.Goals as goal

pub overflow_add-end : goal.overflow_add-end
overflow_add-end c =
    let fits = place_fits c.segments-segment-items.result.now c.loop-segment.segment-index
    c.loop-segment.begin (plain_segment 0 0) c.loop-segment-test.true
    c.loop-segment.invariant.begin
    (subst IsTrace (sym c.segments-segment-items.ensures.segments)
    c.segments-segment-items.ensures.trace) in
    omega (arith, fits)

pub overflow_mul-probe : goal.overflow_mul-probe
overflow_mul-probe c =
    let fits = place_fits c.segments-segment-items.result.now c.loop-segment.segment-index
    c.loop-segment.begin (plain_segment 0 0) c.loop-segment-test.true
    c.loop-segment.invariant.begin
    (subst IsTrace (sym c.segments-segment-items.ensures.segments)
    c.segments-segment-items.ensures.trace) in
    omega (arith, fits)

pub overflow_mul-probe-in-loop-segment : goal.overflow_mul-probe-in-loop-segment
overflow_mul-probe-in-loop-segment c =
    let fits = place_fits c.segments-segment-items.result.now c.loop-segment.segment-index
    c.loop-segment.begin (plain_segment 0 0) c.loop-segment-test.true
    c.loop-segment.invariant.begin
    (subst IsTrace (sym c.segments-segment-items.ensures.segments)
    c.segments-segment-items.ensures.trace) in
    omega (arith, fits)

pub overflow_add-probe : goal.overflow_add-probe
overflow_add-probe c =
    let fits = place_fits c.segments-segment-items.result.now c.loop-segment.segment-index
    c.loop-segment.begin (plain_segment 0 0) c.loop-segment-test.true
    c.loop-segment.invariant.begin
    (subst IsTrace (sym c.segments-segment-items.ensures.segments)
    c.segments-segment-items.ensures.trace) in
    omega (arith, fits)

pub with_probe-tally-requires : goal.with_probe-tally-requires
with_probe-tally-requires c =
    let segments = c.segments-segment-items.result.now in
    let place = c.loop-segment.segment-index in
    let whole = SetHolds c.args.whole.now in
    let told = SetHolds c.args.told.now in
    let tally = c.loop-segment.invariant.tally in
    let size : length segments ≡ length c.args.trace.now.segments =
    ap (λ list. length list) c.segments-segment-items.ensures.segments in
    let few = c.requires in
    let below = c.loop-segment-test.true in
    let probes = count_le (ProbeIsInside segments) place c.loop-segment.tally.probes tally.probes in
    let held = count_le (IsProbed whole segments) place c.loop-segment.tally.held tally.held in
    let alike = count_le (IsProbed (AgreeOnPair whole told) segments) place
    c.loop-segment.tally.alike tally.alike in
    record {
      probes = omega (arith, size, few, below, probes);
      held = omega (arith, size, few, below, held);
      alike = omega (arith, size, few, below, alike);
    }

pub loop-segment-preserved : goal.loop-segment-preserved
loop-segment-preserved c =
    let segments = c.segments-segment-items.result.now in
    let place = c.loop-segment.segment-index in
    let begin = c.loop-segment.begin in
    let next = place_next segments place begin (plain_segment 0 0)
    c.loop-segment-test.true c.loop-segment.invariant.begin in
    let last : 2 * c.end-last.result ≡ 2 * end_of 0 segments =
    ap (λ (t : ℕ). 2 * t) (c.end-last.ensures.end
    ∙ ap (λ (list : List Segment). end_of 0 list)
    (sym c.segments-segment-items.ensures.segments)) in
    record {
      begin = next;
      tally = tally_next c.args.whole.now c.args.told.now segments place begin _ _ _
          c.loop-segment.tally c.with_probe-tally.result c.loop-segment.invariant.begin next last
          refl refl c.loop-segment.invariant.tally c.with_probe-tally.ensures;
    }
