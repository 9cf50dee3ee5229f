use Rattle.std.proofs.Common.{◌≡◌, ◌++◌, arith, refl, ◌∙◌}
use Rattle.std.proofs.lemmas.Result.{err_from_is_err_and}
use Rattle.tre_parts.proofs.Walks.{after-ended, adds-ended, refused-ended}
use Rattle.tre_parts.proofs.walk.Walk.end_here.Goals as goal

pub returns-in_err-add_part-clause-takes : goal.returns-in_err-add_part-clause-takes
returns-in_err-add_part-clause-takes g c = λ terms bytes separator here inside ends few.
    let p = err_from_is_err_and c.from_residual.result c.from_residual.ensures.1 in
    let refused = rw here.named at (c.in_err-add_part.ensures.refused here.state here.is_held) in
    let is : c.args.part.now ≡ c.args.self.now.part.items ++ c.args.part.now = rw c.requires refl in
    rw (p.1, p.2) (refused-ended here c.args.part.now c.args.part.now separator is inside ends
    refused)

pub returns-clause-takes : goal.returns-clause-takes
returns-clause-takes g c = λ terms bytes separator here inside ends few.
    let adds = rw here.named at (c.in_ok-add_part.ensures.adds here.state here.is_held) in
    let is : c.args.part.now ≡ c.args.self.now.part.items ++ c.args.part.now = rw c.requires refl in
    let spot = c.after-self.ensures (omega (arith, here.counts)) here.few in
    rw c.requires (
      after-ended here c.args.part.now c.args.part.now separator is inside ends adds.goes_on
          (c.in_ok-add_part.ensures.same_terms ∙ here.named) spot,
      adds-ended here c.args.part.now c.args.part.now separator is inside ends adds,
    )
