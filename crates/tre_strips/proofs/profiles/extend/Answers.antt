use Rattle.std.proofs.Common.{refl}
use Rattle.tre_strips.specs.Profiles.{apart, touching}
use Rattle.tre_strips.proofs.Comparing.{Narrows-sample}
use Rattle.tre_strips.proofs.Joining.{Compares-cut}
use Rattle.tre_strips.proofs.profiles.extend.Goals as goal

pub returns-then-is_before-clause-extended : goal.returns-then-is_before-clause-extended
returns-then-is_before-clause-extended c =
    apart c.if-is_before.ensures.told c.in_ok-push.ensures.items refl

pub returns-clause-extended : goal.returns-clause-extended
returns-clause-extended c =
    touching (Compares-cut _ _ _ _ _ c.join.ensures.narrowed c.if-is_before.ensures.told)
    c.join.ensures.joined refl

pub join-requires : goal.join-requires
join-requires c =
    rw (Narrows-sample _ _ c.is_before.ensures.narrowed) c.requires
