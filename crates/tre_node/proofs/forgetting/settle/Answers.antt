use Rattle.std.proofs.Common.{refl, subst}
use Rattle.tre_node.specs.Settling.{SettlesBody, SettlesSides}
use Rattle.tre_node.proofs.Settled.{settled_by, settled_same}
use Rattle.tre_node.proofs.forgetting.settle.Goals as goal

pub returns-in-Eps : goal.returns-in-Eps
returns-in-Eps c = settled_same c.in-Eps.is tt

pub returns-in-Lit : goal.returns-in-Lit
returns-in-Lit c = settled_same c.in-Lit.is tt

pub returns-in-Rise : goal.returns-in-Rise
returns-in-Rise c = settled_same c.in-Rise.is tt

pub returns-in-Fall : goal.returns-in-Fall
returns-in-Fall c = settled_same c.in-Fall.is tt

pub returns-in-Event : goal.returns-in-Event
returns-in-Event c = settled_same c.in-Event.is tt

pub returns-in-Seq : goal.returns-in-Seq
returns-in-Seq c = settled_same c.in-Seq.is tt

pub returns-in-Alt : goal.returns-in-Alt
returns-in-Alt c = settled_same c.in-Alt.is tt

pub returns-in-Star : goal.returns-in-Star
returns-in-Star c = settled_same c.in-Star.is tt

pub returns-in-Within : goal.returns-in-Within
returns-in-Within c = settled_by c.in-Within.is (
  record { counts = refl; enters = refl },
  refl,
  refl,
  refl,
  subst (λ body. SettlesBody body c.in-Within.outer.items c.settle_body.new.outer.items)
      c.deref.ensures c.settle_body.ensures,
  refl,
)

pub returns-in-Meet : goal.returns-in-Meet
returns-in-Meet c = settled_by c.in-Meet.is (
  record { counts = refl; enters = refl },
  refl,
  subst (λ left. SettlesSides left c.settle_sides-around.new.left c.in-Meet.right.value
      c.settle_sides-around.new.right c.in-Meet.outer.items c.settle_sides-around.new.outer.items
      c.settle_sides-around.result) c.deref_mut.ensures.value
      (subst (λ right. SettlesSides c.deref_mut.result.now c.settle_sides-around.new.left right
      c.settle_sides-around.new.right c.in-Meet.outer.items c.settle_sides-around.new.outer.items
      c.settle_sides-around.result) c.deref_mut-in-Meet.ensures.value
      c.settle_sides-around.ensures),
)
