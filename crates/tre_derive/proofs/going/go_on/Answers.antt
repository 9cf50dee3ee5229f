use Rattle.std.proofs.lemmas.Result.{IfOk-weaker}
use Rattle.tre_syntax.specs.Rest.{rest_of}
use Rattle.tre_residual.specs.Residual.{marked, residual_tree}
use Rattle.tre_derive.proofs.Passing.{copy_alike, copy_root, goes_alone, may_none, steps_alike}
use Rattle.tre_derive.proofs.going.go_on.Goals as goal

pub go_over-requires-clause-root : goal.go_over-requires-clause-root
go_over-requires-clause-root c =
    copy_root c.args.piece.now c.args.node.now c.in_ok-copy.copy c.in_ok-copy.ensures c.requires

pub go_over-requires-clause-enter : goal.go_over-requires-clause-enter
go_over-requires-clause-enter c = may_none c.args.piece.now.begin c.in_ok-copy.copy

pub returns : goal.returns
returns c =
    let piece = c.args.piece.now in
    let node = c.args.node.now in
    let copy = c.in_ok-copy.copy in
    IfOk-weaker c.go_over.result _ _
    (λ whole goes.
    steps_alike piece (marked copy) (marked node)
    (λ v a b n some.
    copy_alike piece node copy c.in_ok-copy.ensures (rest_of piece.begin piece.before v) a b n)
    whole.told (residual_tree whole.rest)
    (goes_alone piece copy whole.told (residual_tree whole.rest) goes))
    c.go_over.ensures
