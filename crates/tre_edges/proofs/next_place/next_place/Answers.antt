use Rattle.std.proofs.Common.{◌≡◌, ◌+◌, min, inl, inr, subst, arith}
use Rattle.std.proofs.lemmas.Bool.{cases_lt}
use Rattle.tre_edges.specs.NextPlace.{bit_for}
use Rattle.tre_trace.specs.Planes.{bit_in}
use Rattle.tre_edges.proofs.NextPlaces.{none_here, found_here, none_before, zeros}
use Rattle.tre_edges.proofs.next_place.next_place.Goals as goal

pub loop-at-preserved : goal.loop-at-preserved
loop-at-preserved c =
    let at = c.loop-at.at in
    record {
      late = omega (arith, c.loop-at.invariant.late);
      between = λ other late early.
          elim (cases_lt other at) [
            | inl before ↦ c.loop-at.invariant.between other late before
            | inr here ↦
                none_here c.args.words.now c.args.truth at c.saying.result c.saying.ensures
                c.if-rest-ne0.false other here early
          ];
    }

pub returns-then-rest-ne0 : goal.returns-then-rest-ne0
returns-then-rest-ne0 c =
    let at = c.loop-at.at in
    let words = c.args.words.now in
    let truth = c.args.truth in
    let sought = c.saying.result in
    let found = found_here words truth at sought c.saying.ensures c.if-rest-ne0.true
    c.saying.type_inv in
    let before = none_before words truth at sought c.saying.ensures c.if-rest-ne0.true
    c.saying.type_inv in
    let place = at + zeros words truth at sought c.saying.ensures c.if-rest-ne0.true
    c.saying.type_inv in
    let is : c.min.result ≡ min place c.args.count = c.min.ensures in
    record {
      late = omega (arith, is, c.loop-at.invariant.late, c.loop-at-test.true);
      within = omega (arith, is);
      between = λ other late early.
          elim (cases_lt other at) [
            | inl early' ↦ c.loop-at.invariant.between other late early'
            | inr here ↦ before other here (omega (arith, early, is))
          ];
      there = λ early.
          let same : place ≡ c.min.result = omega (arith, is, early) in
          subst (λ p. bit_in words p ≡ bit_for truth) same found;
    }
