use Rattle.std.proofs.Common.{ap, sym, ◌∙◌}
use Rattle.std.proofs.lemmas.Result.{err_from_is_err_and}
use Rattle.tre_parts.proofs.Walks.{whole-closed, adds-closed, refused-closed, refused-end}
use Rattle.tre_trace.specs.Reading.{Vocabulary, events_for}
use Rattle.tre_parts.proofs.walk.Walk.finish.Goals as goal

pub returns-in_err-add_part-clause-takes : goal.returns-in_err-add_part-clause-takes
returns-in_err-add_part-clause-takes g c = λ terms bytes here few.
    let p = err_from_is_err_and c.from_residual.result c.from_residual.ensures.1 in
    let refused = rw (here.named, c.deref.ensures.value) at (c.in_err-add_part.ensures.refused
    here.state here.is_held) in
    rw (p.1, p.2) (refused-closed here refused)

pub returns-in-None-clause-takes : goal.returns-in-None-clause-takes
returns-in-None-clause-takes g c = λ terms bytes here few.
    let adds = rw (here.named, c.deref.ensures.value) at (c.in_ok-add_part.ensures.adds here.state
    here.is_held) in
    let named = c.in_ok-add_part.ensures.same_terms ∙ here.named in
    let held = adds.goes_on.is_held in
    let none = rw named at (c.in-None.ensures.fault adds.goes_on.state held) in
    let last = rw named at (c.last.ensures adds.goes_on.state held) in (
      whole-closed here adds.goes_on none (g.R.PartReader.names c.args.self.now.reader)
          c.last.result
          (last ∙ ap (λ (asked : Vocabulary). events_for asked
          ((g.R.PartReader.format terms).last adds.goes_on.state))
          c.in_ok-add_part.ensures.same_names),
      adds-closed here adds.goes_on adds.added,
    )

pub returns-in-Some-clause-takes : goal.returns-in-Some-clause-takes
returns-in-Some-clause-takes g c = λ terms bytes here few.
    let adds = rw (here.named, c.deref.ensures.value) at (c.in_ok-add_part.ensures.adds here.state
    here.is_held) in
    let named = c.in_ok-add_part.ensures.same_terms ∙ here.named in
    let some = rw named at (c.in-Some.ensures.fault adds.goes_on.state adds.goes_on.is_held) in
    refused-end here adds.goes_on adds.added c.args.end c.in-Some.kind some c.in-Some.ensures.kinds
    (few ∙ sym here.counts)
