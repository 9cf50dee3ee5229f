use Rattle.std.proofs.Common.{◌≡◌, List, ◌∷◌, ◌++◌, suc, get_or, take, drop, drop-cons, sym, subst, ap, ◌∙◌}
use Rattle.std.proofs.lemmas.List.{take_all, take_more, take-append-drop}
use Rattle.tre_online.specs.Session.{ended_of, StandsFor, TellsNew}
use Rattle.tre_syntax.specs.Pattern.{pattern_tree}
use Rattle.tre_syntax.specs.PatternTree.{PatternTree}
use Rattle.tre_trace.specs.Trace.{IsTrace}
use Rattle.tre_trace.specs.Segments.{plain_segment}
use Rattle.tre_trace.specs.declared.segment.Segment.{Segment}
use Rattle.tre_generate.specs.Told.{MatchesAreTold}
use Rattle.tre_generate.proofs.Refusals.{fits_within}
use Rattle.tre_generate.proofs.Telling.{AreTold-none, AreTold-next, AreTold-set}
use Rattle.tre_generate.proofs.told.told_zones.Goals as goal

pub loop-segment-init : goal.loop-segment-init
loop-segment-init c = record {
  stands = c.in_ok-session.ensures.stands;
  tree = c.in_ok-session.ensures.tree;
  told = rw c.new-zones.ensures.items (AreTold-none (pattern_tree c.args.pattern));
}

pub read-requires : goal.read-requires
read-requires c =
    let items = c.segments-segment-items.result.now in
    let place = c.loop-segment.segment-index in
    let front = take place items in
    let segment = get_or items place (plain_segment 0 0) in
    let whole : items ≡ front ++ segment ∷ drop (suc place) items =
    sym (ap (λ (back : List Segment). front ++ back)
    (sym (drop-cons items place (plain_segment 0 0) c.loop-segment-test.true))
    ∙ take-append-drop place items) in
    let trace : IsTrace items = subst IsTrace (sym c.segments-segment-items.ensures.segments)
    c.segments-segment-items.ensures.trace in
    record {
      segments = front;
      stands = c.loop-segment.invariant.stands;
      fits = fits_within front segment (drop (suc place) items) (subst IsTrace whole trace);
    }

pub loop-segment-preserved : goal.loop-segment-preserved
loop-segment-preserved c =
    let tree = pattern_tree c.args.pattern in
    let items = c.segments-segment-items.result.now in
    let place = c.loop-segment.segment-index in
    let segments = take place items in
    let segment = get_or items place (plain_segment 0 0) in
    let old = c.loop-segment.session in
    let told = ended_of c.read.new.session in
    let goes = c.in_ok-read.ensures.goes_on segments c.loop-segment.invariant.stands in
    let tells : TellsNew tree segments segment (ended_of old) told =
    subst (λ (t : PatternTree). TellsNew t segments segment (ended_of old) told)
    c.loop-segment.invariant.tree goes.tells in
    let more = take_more items place (plain_segment 0 0) c.loop-segment-test.true in
    record {
      stands = subst (λ (list : List Segment). StandsFor c.read.new.session list) (sym more)
          goes.stands;
      tree = c.read.ensures.tree ∙ c.loop-segment.invariant.tree;
      told = rw (c.in_ok-extend_from_slice.ensures.items, c.told.ensures.told)
          (subst (λ (list : List Segment).
          MatchesAreTold tree list (c.loop-segment.zones.items ++ told)) (sym more)
          (AreTold-next tree c.loop-segment.zones.items segment (ended_of old) told
          segments c.loop-segment.invariant.told tells));
    }

pub returns : goal.returns
returns c =
    AreTold-set (pattern_tree c.args.pattern) c.args.trace.now.segments c.loop-segment.zones.items
    c.in_ok-told.told
    (subst (λ (list : List Segment). MatchesAreTold (pattern_tree c.args.pattern) list
    c.loop-segment.zones.items)
    (take_all c.loop-segment.segment-index c.segments-segment-items.result.now
    c.loop-segment-test.false ∙ c.segments-segment-items.ensures.segments)
    c.loop-segment.invariant.told) c.in_ok-told.ensures
