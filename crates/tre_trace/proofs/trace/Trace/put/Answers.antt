use Rattle.std.proofs.Common.{◌≡◌, ◌+◌, ◌∷◌, [], ap, arith, length, refl, sym}
use Rattle.tre_trace.specs.Trace.{Fits}
use Rattle.tre_trace.proofs.Segments.{end_of-append, IsTrace-push}
use Rattle.tre_trace.proofs.trace.Trace.put.Goals as goal

pub make_room-requires : goal.make_room-requires
make_room-requires c = record {
  segments = c.self.inside.segments.items;
  same = omega (arith, c.len-place.ensures);
  ends = c.self.invariant.1;
  beside = c.self.invariant.2;
}

pub invariant_of-self-2 : goal.invariant_of-self-2
invariant_of-self-2 c =
    let segments = c.self.inside.segments.items in
    let fits : Fits segments c.args.segment = rw (← c.self.view_is) at c.requires in
    let place : length segments ≡ c.len-place.result = omega (arith, c.len-place.ensures) in
    let beside =
    c.make_room.ensures.beside segments (sym place) c.self.invariant.1 c.self.invariant.2 in
    rw c.in_ok-push.ensures.items (
      IsTrace-push _ _ c.self.invariant.0 fits,
      rw (end_of-append 0 segments (c.args.segment ∷ []))
          (ap (λ n. n + c.args.segment.len) c.self.invariant.1),
      c.write.ensures segments c.args.segment place refl beside,
    )

pub returns-clause-trace : goal.returns-clause-trace
returns-clause-trace c =
    let fits : Fits c.self.inside.segments.items c.args.segment =
    rw (← c.self.view_is) at c.requires in
    rw c.in_ok-push.ensures.items (IsTrace-push _ _ c.self.invariant.0 fits)
