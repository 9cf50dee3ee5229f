use Rattle.std.proofs.Common.{◌≡◌, ◌∙◌, ◌+◌, ◌++◌, ◌<◌, suc, drop, get_or, length, take, refl, sym, arith, append-nil}
use Rattle.std.proofs.lemmas.List.{take_all}
use Rattle.std.proofs.lemmas.Result.{err_from_is_err_and}
use Rattle.tre_feed.specs.Standing.{stretch_behind}
use Rattle.tre_tell.specs.Sought.{all_names}
use Rattle.tre_tell.specs.Telling.{rows_for}
use Rattle.tre_tell.proofs.Lists.{split_around}
use Rattle.tre_tell.proofs.Rows.{CanTell-at, pushed_at, stopped_at}
use Rattle.tre_tell.proofs.telling.tell_blocks.Goals as goal

pub loop-place-init : goal.loop-place-init
loop-place-init g c = record {
  stands = λ asked told waiting asks wait stands. rw (append-nil told) stands;
  trees = refl;
  told = λ patterns told waiting before asks wait so_far. rw (append-nil told) so_far;
  no_fault = refl;
}

pub column-requires : goal.column-requires
column-requires g c = record {
  stretches = c.requires.comes.waiting;
  wait = c.requires.comes.wait;
  below = omega (
    arith,
    c.waiting-place-end.ensures c.requires.comes.waiting c.requires.comes.wait,
    c.loop-place-test.true,
  );
}

pub returns-in_err-column-clause-stops : goal.returns-in_err-column-clause-stops
returns-in_err-column-clause-stops g c =
    let p = err_from_is_err_and c.from_residual.result c.from_residual.ensures.1 in
    let place = c.loop-place.place in
    λ patterns told waiting before asks wait so_far.
    let below : place < length waiting =
    omega (arith, c.waiting-place-end.ensures waiting wait, c.loop-place-test.true) in
    rw (p.1, p.2) (stopped_at _ patterns told waiting _ _ _ place below
    (c.loop-place.invariant.told patterns told waiting before asks wait so_far).told)

pub tell_block-requires-clause-comes : goal.tell_block-requires-clause-comes
tell_block-requires-clause-comes g c =
    let place = c.loop-place.place in
    let comes = c.requires.comes in
    let waiting = comes.waiting in
    let below : place < length waiting = omega (
      arith,
      c.waiting-place-end.ensures waiting comes.wait,
      c.loop-place-test.true,
    ) in
    rw (c.deref.ensures.value, c.in_ok-column.ensures comes.asked waiting comes.asks comes.wait)
    (CanTell-at c.args.watch.now c.loop-place.watch comes.asked waiting comes.can (take place waiting)
    (get_or waiting place stretch_behind) (drop (suc place) waiting)
    (split_around waiting place stretch_behind below)
    (c.loop-place.invariant.stands comes.asked comes.can.told waiting comes.asks comes.wait
    comes.can.stands))

pub returns-in_err-tell_block-clause-stops : goal.returns-in_err-tell_block-clause-stops
returns-in_err-tell_block-clause-stops g c =
    let p = err_from_is_err_and c.from_residual-in_err-tell_block.result
    c.from_residual-in_err-tell_block.ensures.1 in
    let place = c.loop-place.place in
    λ patterns told waiting before asks wait so_far.
    let below : place < length waiting =
    omega (arith, c.waiting-place-end.ensures waiting wait, c.loop-place-test.true) in
    rw (p.1, p.2) (stopped_at _ patterns told waiting _ _ _ place below (rw (
      c.deref.ensures.value,
      c.in_ok-column.ensures (all_names patterns) waiting asks wait,
    ) at (c.in_err-tell_block.ensures.stops patterns _ before
    (c.loop-place.invariant.told patterns told waiting before asks wait so_far))))

pub loop-place-preserved : goal.loop-place-preserved
loop-place-preserved g c =
    let place = c.loop-place.place in
    let inv = c.loop-place.invariant in
    let next : place + 1 ≡ suc place = omega arith in
    let column = c.in_ok-column.ensures in
    record {
      stands = λ asked told waiting asks wait stands.
          let below : place < length waiting =
          omega (arith, c.waiting-place-end.ensures waiting wait, c.loop-place-test.true) in
          rw (next, sym (pushed_at asked told waiting place below))
          (rw (c.deref.ensures.value, column asked waiting asks wait) at
          (c.in_ok-tell_block.ensures.stands (rows_for asked (told ++ take place waiting))
          (inv.stands asked told waiting asks wait stands)));
      trees = c.in_ok-tell_block.ensures.trees ∙ inv.trees;
      told = λ patterns told waiting before asks wait so_far.
          let asked = all_names patterns in
          let below : place < length waiting =
          omega (arith, c.waiting-place-end.ensures waiting wait, c.loop-place-test.true) in
          rw (next, sym (pushed_at asked told waiting place below))
          (rw (c.deref.ensures.value, column asked waiting asks wait) at
          (c.in_ok-tell_block.ensures.told patterns (rows_for asked (told ++ take place waiting)) before
          (inv.told patterns told waiting before asks wait so_far)));
      no_fault = c.in_ok-tell_block.ensures.cause ∙ inv.no_fault;
    }

pub returns-clause-told : goal.returns-clause-told
returns-clause-told g c = λ patterns told waiting before asks wait so_far.
    let all : take c.loop-place.place waiting ≡ waiting =
    take_all c.loop-place.place waiting (omega (
      arith,
      c.waiting-place-end.ensures waiting wait,
      c.loop-place-test.false,
    )) in
    rw all at (c.loop-place.invariant.told patterns told waiting before asks wait so_far)
