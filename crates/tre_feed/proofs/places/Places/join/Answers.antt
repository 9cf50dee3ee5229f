use Rattle.std.proofs.Common.{◌<◌, [], length, arith, sym}
use Rattle.std.proofs.lemmas.List.Elements.{All-nil}
use Rattle.std.proofs.lemmas.Option.{slice_get-get_or}
use Rattle.tre_feed.specs.Places.{places_of}
use Rattle.tre_feed.proofs.Among.{Extends-none, Extends-trans, name-at, places-all, places-put, within-put, places-few}
use Rattle.tre_feed.proofs.places.Places.join.Goals as goal

pub loop-number-preserved : goal.loop-number-preserved
loop-number-preserved c =
    let old = c.loop-number.all in
    let new = c.put.new.all in
    let name = c.in-Some.name.now in
    let places = c.loop-number.places.items in
    let put = c.in_ok-put-in-Some.ensures in
    record {
      places = places-put old c.args.asked.now new places c.put.new.places.items
          c.loop-number.number name c.in-Some.ensures put.kept c.loop-number.invariant.places
          put.place;
      kept = Extends-trans c.args.all.now old new c.loop-number.invariant.kept put.kept;
      within = within-put new name places c.put.new.places.items put.few
          c.loop-number.invariant.within put.place;
    }

pub of-requires : goal.of-requires
of-requires c = record {
  few = places-few c.loop-number.all c.args.asked.now c.loop-number.places.items
      c.loop-number.number c.len-number-end.ensures.list.few c.loop-number.invariant.places;
  within = c.loop-number.invariant.within;
}

pub loop-number-init : goal.loop-number-init
loop-number-init c = record {
  places = rw c.new-places.ensures.items tt;
  kept = Extends-none c.args.all.now;
  within = rw c.new-places.ensures.items (All-nil _);
}

pub unreachable-requires : goal.unreachable-requires
unreachable-requires c =
    let within : c.loop-number.number < length c.args.asked.now =
    omega (arith, c.loop-number-test.true, c.len-number-end.ensures.len) in
    let there = slice_get-get_or c.args.asked.now c.loop-number.number [] within in
    let none = c.in-None.ensures in
    cc (there, none)

pub put-requires : goal.put-requires
put-requires c =
    name-at c.args.asked.now c.loop-number.number c.in-Some.name.now c.len-number-end.ensures.list
    (sym c.in-Some.ensures)

pub returns-clause-places : goal.returns-clause-places
returns-clause-places c =
    places-all c.args.asked.now c.loop-number.all (places_of c.of.result) c.loop-number.number
    (omega (arith, c.loop-number-test.false, c.len-number-end.ensures.len))
    (rw c.of.ensures c.loop-number.invariant.places)

pub returns-clause-kept : goal.returns-clause-kept
returns-clause-kept c = c.loop-number.invariant.kept
