use Rattle.std.proofs.Common.{refl}
use Rattle.tre_zoneset.proofs.Unions.{HoldExactly-included, HoldExactly-push}
use Rattle.tre_star.proofs.Reaching.{HasGrown-none, HasGrown-added}
use Rattle.tre_star.proofs.chains.add_new.Goals as goal

pub returns-then-includes : goal.returns-then-includes
returns-then-includes c = record {
  held = HoldExactly-included c.args.reached.now c.args.zone.now (c.if-includes.ensures.0 refl);
  grown = HasGrown-none c.args.reached.now c.requires;
}

pub returns : goal.returns
returns c = record {
  held = rw c.in_ok-push.ensures.ok (HoldExactly-push c.args.reached.now c.args.zone.now);
  grown =
      rw c.in_ok-push.ensures.ok
      (HasGrown-added c.args.reached.now c.args.zone.now c.requires
      c.bounds-bounds.ensures.canonical
      (λ any. let e = c.if-includes.ensures.1 any in (cc)));
}
