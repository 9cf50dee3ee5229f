use Rattle.std.proofs.lemmas.Result.{on_ok_weaker}
use Rattle.tre_online.proofs.Finding.{finds_in}
use Rattle.tre_online.proofs.session.Session.find.Goals as goal

pub returns : goal.returns
returns c =
    on_ok_weaker c.enter.result
    (λ entered. finds_in c.args.piece.now c.args.node.now c.look.new.node c.enter.new.node
    c.tell.new.told.items c.instants.result c.instants.ensures.bounds c.requires.made
    c.in_ok-look.ensures c.in_ok-tell.ensures.same c.in_ok-tell.ensures.set entered)
    c.enter.ensures
