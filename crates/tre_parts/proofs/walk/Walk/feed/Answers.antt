use Rattle.std.proofs.Common.{◌≡◌, ◌+◌, suc, ◌++◌, [], ◌∷◌, get_or, take, drop, append-nil, arith, sym, ap, ◌∙◌, rules}
use Rattle.std.proofs.lemmas.List.{length-drop, length-take}
use Rattle.std.proofs.lemmas.Result.{err_from_is_err_and}
use Rattle.tre_parts.proofs.Cuts.{take-rest}
use Rattle.tre_parts.proofs.Feeding.{in_two, around, fed-refused, fed-room, fed-step}
use Rattle.tre_parts.proofs.Skimming.{fed-none, fed-trans}
use Rattle.tre_trace.proofs.Readings.{Adds-trans}
use Rattle.tre_parts.proofs.walk.Walk.feed.Goals as goal

pub returns-in_err-end_part-clause-takes : goal.returns-in_err-end_part-clause-takes
returns-in_err-end_part-clause-takes g c = λ terms bytes here few.
    let p = err_from_is_err_and c.from_residual.result c.from_residual.ensures.1 in
    let fed = fed-trans c.skim-rest.ensures.fed c.loop-place.invariant in
    let rest = c.loop-place.rest.now in
    let k = c.in-Some.place in
    let ends = c.in-Some.ensures.first in
    let room = fed-room fed terms bytes here few ends in
    let refused = c.in_err-end_part.ensures.takes terms (bytes ++ fed.taken) (get_or rest k 0)
    room.at room.inside room.ends room.few in
    rw (p.1, p.2)
    (fed-refused fed terms bytes here few (take k rest ++ get_or rest k 0 ∷ []) (drop (suc k) rest)
    (around rest k ends.within) refused)

pub loop-place-preserved : goal.loop-place-preserved
loop-place-preserved g c =
    let rest = c.loop-place.rest.now in
    let k = c.in-Some.place in
    let one : k + 1 ≡ suc k = omega arith in
    fed-trans (fed-step c.loop-place.invariant c.in-Some.ensures.first
    c.in_ok-end_part.ensures.same_terms c.in_ok-end_part.ensures.same_names
    (λ terms bytes room. c.in_ok-end_part.ensures.takes terms bytes (get_or rest k 0) room.at
    room.inside room.ends room.few)
    (rw one (take-rest (suc k) rest))) c.skim-rest-in-Some.ensures.fed

pub returns-in_err-keep-clause-takes : goal.returns-in_err-keep-clause-takes
returns-in_err-keep-clause-takes g c = λ terms bytes here few.
    let p = err_from_is_err_and c.from_residual-in_err-keep.result
    c.from_residual-in_err-keep.ensures.1 in
    let fed = fed-trans c.skim-rest.ensures.fed c.loop-place.invariant in
    let rest = c.loop-place.rest.now in
    let at = fed.behind terms bytes here few in
    let inside = rw at.named at c.in_default.ensures.none in
    let refused = c.in_err-keep.ensures.takes
    (g.R.PartReader.names c.loop-place.self.reader) terms (bytes ++ fed.taken)
    c.loop-place.segments.items
    at inside in
    rw (p.1, p.2) (fed-refused fed terms bytes here few rest [] (sym (append-nil rest)) refused)

pub returns-clause-takes : goal.returns-clause-takes
returns-clause-takes g c = λ terms bytes here few.
    let fed = fed-trans c.skim-rest.ensures.fed c.loop-place.invariant in
    let rest = c.loop-place.rest.now in
    let at = fed.behind terms bytes here few in
    let inside = rw at.named at c.in_default.ensures.none in
    let takes = c.in_ok-keep.ensures.takes
    (g.R.PartReader.names c.args.self.now.reader) terms (bytes ++ fed.taken)
    c.loop-place.segments.items at
    inside in
    let whole = in_two bytes c.args.piece.now fed.taken rest fed.cut in
    rw (← whole) (
      takes.0,
      Adds-trans _ _ _ _ _ _ _ (fed.adds terms bytes here few) takes.1,
    )

pub slice_bounds-skim-count : goal.slice_bounds-skim-count
slice_bounds-skim-count g c = omega (arith, c.in-Some.ensures.first.within)

pub slice_bounds-end_part-end : goal.slice_bounds-end_part-end
slice_bounds-end_part-end g c =
    let within = c.in-Some.ensures.first.within in
    omega (arith, length-take c.in-Some.place c.loop-place.rest.now, within)

pub loop-place-smaller : goal.loop-place-smaller
loop-place-smaller g c =
    search (
      rules,
      length-drop,
      c.loop-place.rest.now,
      c.in-Some.ensures.first.within,
      c.skim-rest-in-Some.ensures.shorter,
    )

pub returns-in_err-end_part-clause-same_terms : goal.returns-in_err-end_part-clause-same_terms
returns-in_err-end_part-clause-same_terms g c =
    c.in_err-end_part.ensures.same_terms ∙ c.loop-place.invariant.same_terms
    ∙ c.skim-rest.ensures.fed.same_terms

pub returns-in_err-keep-clause-same_terms : goal.returns-in_err-keep-clause-same_terms
returns-in_err-keep-clause-same_terms g c =
    ap g.R.PartReader.terms c.in_err-keep.ensures.same_reader ∙ c.loop-place.invariant.same_terms
    ∙ c.skim-rest.ensures.fed.same_terms

pub returns-clause-same_terms : goal.returns-clause-same_terms
returns-clause-same_terms g c =
    ap g.R.PartReader.terms c.in_ok-keep.ensures.same_reader ∙ c.loop-place.invariant.same_terms
    ∙ c.skim-rest.ensures.fed.same_terms

pub returns-in_err-end_part-clause-same_names : goal.returns-in_err-end_part-clause-same_names
returns-in_err-end_part-clause-same_names g c =
    c.in_err-end_part.ensures.same_names ∙ c.loop-place.invariant.same_names
    ∙ c.skim-rest.ensures.fed.same_names

pub returns-in_err-keep-clause-same_names : goal.returns-in_err-keep-clause-same_names
returns-in_err-keep-clause-same_names g c =
    ap g.R.PartReader.names c.in_err-keep.ensures.same_reader ∙ c.loop-place.invariant.same_names
    ∙ c.skim-rest.ensures.fed.same_names

pub returns-clause-same_names : goal.returns-clause-same_names
returns-clause-same_names g c =
    ap g.R.PartReader.names c.in_ok-keep.ensures.same_reader ∙ c.loop-place.invariant.same_names
    ∙ c.skim-rest.ensures.fed.same_names

pub loop-place-init : goal.loop-place-init
loop-place-init g c = fed-none _ _ _ _ _ _ _ _ _
