use Rattle.std.proofs.Common.{◌≡◌, [], append-nil, length, arith, ap, sym, ◌∙◌}
use Rattle.std.proofs.lemmas.List.Elements.{All-nil}
use Rattle.std.proofs.lemmas.Result.{err_from_is_err_and}
use Rattle.tre_parts.proofs.Walks.{after-ended, adds-ended, refused-ended}
use Rattle.tre_parts.proofs.walk.Walk.end_kept.Goals as goal

pub returns-in_err-add_part-clause-takes : goal.returns-in_err-add_part-clause-takes
returns-in_err-add_part-clause-takes g c = λ terms bytes separator here ends few.
    let p = err_from_is_err_and c.from_residual.result c.from_residual.ensures.1 in
    let refused = rw (here.named, c.deref.ensures.value) at (c.in_err-add_part.ensures.refused
    here.state here.is_held) in
    let part = c.args.self.now.part.items in
    rw (p.1, p.2)
    (refused-ended here part [] separator (sym (append-nil part)) (All-nil _) ends refused)

pub returns-clause-takes : goal.returns-clause-takes
returns-clause-takes g c = λ terms bytes separator here ends few.
    let adds = rw (here.named, c.deref.ensures.value) at (c.in_ok-add_part.ensures.adds here.state
    here.is_held) in
    let part = c.args.self.now.part.items in
    let len : c.len.result ≡ length part = omega (
      arith,
      c.len.ensures,
      c.deref.ensures.len,
      ap
          length c.deref.ensures.value,
    ) in
    let spot = rw len at (c.after-self.ensures (omega (arith, here.counts, len)) here.few) in
    rw c.clear.ensures.items (
      after-ended here part [] separator (sym (append-nil part)) (All-nil _) ends adds.goes_on
          (c.in_ok-add_part.ensures.same_terms ∙ here.named) spot,
      adds-ended here part [] separator (sym (append-nil part)) (All-nil _) ends adds,
    )
