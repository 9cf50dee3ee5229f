use Rattle.std.proofs.Common.{◌++◌, [], ◌∷◌, false, append_assoc, length-append, subst, arith}
use Rattle.std.proofs.lemmas.Result.{err_from_is_err_and}
use Rattle.tre_parts.specs.Growing.{reading-grows}
use Rattle.tre_parts.specs.Format.{recording_of}
use Rattle.tre_trace.specs.Reading.{Adds, IsRefused}
use Rattle.tre_parts.proofs.walk.Walk.end_part.Goals as goal
use Rattle.tre_trace.proofs.Readings.{Adds-trans, IsRefused-after, IsRefused-grows}

pub returns-in_err-keep-clause-takes : goal.returns-in_err-keep-clause-takes
returns-in_err-keep-clause-takes g c = λ terms bytes separator here inside ends few.
    let p = err_from_is_err_and c.from_residual-in_err-keep.result
    c.from_residual-in_err-keep.ensures.1 in
    let refused = c.in_err-keep.ensures.takes
    (g.R.PartReader.names c.args.self.now.reader) terms bytes
    c.args.segments.now.items here inside in
    rw (p.1, p.2, ← append_assoc bytes c.args.front.now (separator ∷ []))
    (IsRefused-grows _ _ _ _ _ _ _ refused (reading-grows (g.R.PartReader.format terms) false
    (bytes ++ c.args.front.now) (separator ∷ [])))

pub returns-in_err-end_kept-clause-takes : goal.returns-in_err-end_kept-clause-takes
returns-in_err-end_kept-clause-takes g c = λ terms bytes separator here inside ends few.
    let p = err_from_is_err_and c.from_residual-in_err-end_kept.result
    c.from_residual-in_err-end_kept.ensures.1 in
    let kept = c.in_ok-keep.ensures.takes
    (g.R.PartReader.names c.args.self.now.reader) terms bytes
    c.args.segments.now.items here inside in
    let refused = c.in_err-end_kept.ensures.takes terms (bytes ++ c.args.front.now) separator kept.0
    ends (omega (arith, length-append bytes c.args.front.now)) in
    rw (p.1, p.2, ← append_assoc bytes c.args.front.now (separator ∷ []))
    (IsRefused-after _ _ _ _ _ _ _ _ kept.1
    (subst (λ reader. IsRefused (g.R.PartReader.names reader)
    c.args.segments.now.items c.end_kept.new.segments.items
    (recording_of (g.R.PartReader.format terms) false (bytes ++ c.args.front.now))
    (recording_of (g.R.PartReader.format terms) false
    ((bytes ++ c.args.front.now) ++ separator ∷ [])) c.in_err-end_kept.field-0.0)
    c.in_ok-keep.ensures.same_reader refused))

pub returns-clause-takes : goal.returns-clause-takes
returns-clause-takes g c = λ terms bytes separator here inside ends few.
    let kept = c.in_ok-keep.ensures.takes
    (g.R.PartReader.names c.args.self.now.reader) terms bytes
    c.args.segments.now.items here inside in
    let ended = c.in_ok-end_kept.ensures.takes terms (bytes ++ c.args.front.now) separator kept.0
    ends (omega (arith, length-append bytes c.args.front.now)) in
    rw (← append_assoc bytes c.args.front.now (separator ∷ [])) (
      ended.0,
      Adds-trans _ _ _ _ _ _ _ kept.1
          (subst (λ reader. Adds (g.R.PartReader.names reader)
          c.args.segments.now.items c.end_kept.new.segments.items
          (recording_of (g.R.PartReader.format terms) false (bytes ++ c.args.front.now))
          (recording_of (g.R.PartReader.format terms) false
          ((bytes ++ c.args.front.now) ++ separator ∷ [])))
          c.in_ok-keep.ensures.same_reader ended.1),
    )
