use Rattle.std.proofs.Common.{◌≡◌, ℕ, ◌<◌, false, List, length, get_or}
use Rattle.std.proofs.lemmas.List.{get_or_default}
use Rattle.tre_strips.specs.declared.bar.Bar.{Bar}
use Rattle.tre_strips.proofs.Joining.{IsJoining-first, IsJoining-step, IsJoining-order, IsJoining-all}
use Rattle.tre_strips.proofs.profiles.joined.Goals as goal

-- What stands where a list has no bar.
abbrev blank : Bar
blank = record {
  low = record { ticks = 0; moves = false; after = false };
  high = record { ticks = 0; moves = false; after = false };
}

item : (bars : List Bar) (i : ℕ) → i < length bars
    → get_or bars i blank ≡ get_or bars i (get_or bars i blank)
item bars i within = get_or_default bars i blank (get_or bars i blank) within

pub loop-bar-init : goal.loop-bar-init
loop-bar-init c =
    rw c.new-joined.ensures.items
    (IsJoining-first _ c.args.first.now c.args.rest.now c.requires.order c.requires.filled)

pub extend-requires : goal.extend-requires
extend-requires c =
    IsJoining-order _ _ _ _ _ _ _ _ c.loop-bar-test.true (item _ _ c.loop-bar-test.true)
    c.loop-bar.invariant

pub loop-bar-preserved : goal.loop-bar-preserved
loop-bar-preserved c =
    IsJoining-step _ c.loop-bar.times c.extend.new.times c.args.first.now c.args.rest.now
    c.loop-bar.bar-index c.loop-bar.joined.items c.extend.new.joined.items c.loop-bar.last
    _ c.in_ok-last.last c.requires.order c.requires.filled c.loop-bar-test.true
    (item c.args.rest.now c.loop-bar.bar-index c.loop-bar-test.true)
    c.loop-bar.invariant c.extend.ensures.narrowed c.in_ok-last.ensures.extended

pub returns : goal.returns
returns c = record {
  narrowed = c.loop-bar.invariant.narrowed;
  union = rw c.in_ok-push.ensures.items
      (IsJoining-all _ c.loop-bar.times c.args.first.now c.args.rest.now c.loop-bar.bar-index
      c.loop-bar.joined.items c.loop-bar.last c.loop-bar-test.false c.loop-bar.invariant);
}
