use Rattle.std.proofs.lemmas.Result.{on_ok_weaker}
use Rattle.tre_node.proofs.entering.enter.Goals as goal

pub returns : goal.returns
returns c = on_ok_weaker c.go_in.result (λ h. h.entered) c.go_in.ensures
