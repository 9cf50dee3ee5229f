use Rattle.std.proofs.Common.{map, ap, ◌++◌, ◌∙◌}
use Rattle.tre_num.specs.Kept.{left_of}
use Rattle.tre_num.proofs.Keeping.{left-push, on-ok}
use Rattle.tre_num.proofs.kept_bytes.KeptBytes.push.Goals as goal

pub returns : goal.returns
returns c =
    let place = c.self.inside.place in
    let piece = c.args.piece.now in
    let old = map (λ piece. piece.items) c.self.inside.pieces.items in
    on-ok c.push_copy.result _ _ (λ pushed.
    ap (left_of place) pushed ∙ left-push place old piece c.self.invariant
    ∙ ap (λ front. front ++ piece) c.self.view_is) c.push_copy.ensures.pushed
