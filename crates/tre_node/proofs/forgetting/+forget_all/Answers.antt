use Rattle.std.proofs.Common.{refl}
use Rattle.tre_node.proofs.Settled.{forgotten_by, forgotten_named}
use Rattle.tre_node.proofs.forgetting.+forget_all.Goals as goal

pub returns-in-Seq : goal.returns-in-Seq
returns-in-Seq t c = forgotten_by c.in-Seq.is (
  record { counts = refl; enters = refl },
  forgotten_named c.deref_mut.ensures.value c.forget_all.ensures,
  forgotten_named c.deref_mut-in-Seq.ensures.value c.forget_all-in-Seq.ensures,
)

pub returns-in-Alt : goal.returns-in-Alt
returns-in-Alt t c = forgotten_by c.in-Alt.is (
  record { counts = refl; enters = refl },
  forgotten_named c.deref_mut-in-Alt.ensures.value c.forget_all-in-Alt.ensures,
  forgotten_named c.deref_mut-in-Alt-2.ensures.value c.forget_all-in-Alt-2.ensures,
)

pub returns-in-Meet : goal.returns-in-Meet
returns-in-Meet t c = forgotten_by c.in-Meet.is (
  record { counts = refl; enters = refl },
  refl,
  c.clear-in-Meet.ensures.items,
  forgotten_named c.deref_mut-in-Meet.ensures.value c.forget_all-in-Meet.ensures,
  forgotten_named c.deref_mut-in-Meet-2.ensures.value c.forget_all-in-Meet-2.ensures,
)

pub returns-in-Star : goal.returns-in-Star
returns-in-Star t c = forgotten_by c.in-Star.is (
  record { counts = refl; enters = refl },
  forgotten_named c.deref_mut-in-Star.ensures.value c.forget_all-in-Star.ensures,
)

pub returns-in-Within : goal.returns-in-Within
returns-in-Within t c = forgotten_by c.in-Within.is (
  record { counts = refl; enters = refl },
  refl,
  refl,
  c.clear-in-Within.ensures.items,
  forgotten_named c.deref_mut-in-Within.ensures.value c.forget_all-in-Within.ensures,
)
