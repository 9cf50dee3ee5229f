use Rattle.tre_strips.proofs.run.Run.begin.Goals as goal

pub fit-requires : goal.fit-requires
fit-requires c = rw c.deref-2.ensures.value c.requires

pub returns-clause-begun : goal.returns-clause-begun
returns-clause-begun c = record {
  fits = rw (c.deref.ensures.value, c.deref-2.ensures.value) at c.in_ok-fits.ensures;
  pushed = c.in_ok-push_alone.ensures;
}
