use Rattle.std.proofs.Common.{◌<◌, length, take, arith}
use Rattle.tre_feed.specs.Places.{places_of}
use Rattle.tre_feed.proofs.Among.{place-own, places-all, places-next, places-few, places-within}
use Rattle.tre_feed.proofs.places.Places.own.Goals as goal

pub loop-number-preserved : goal.loop-number-preserved
loop-number-preserved c =
    let names = c.args.names.now in
    let number = c.loop-number.number in
    let within : number < length names =
    omega (arith, c.loop-number-test.true, c.len-number-end.ensures.len) in
    places-next names names c.loop-number.places.items c.push.new.self.items number number within
    c.loop-number.invariant
    (place-own names number c.len-number-end.ensures.list.distinct within)
    c.in_ok-push.ensures.items

pub of-requires : goal.of-requires
of-requires c =
    let names = c.args.names.now in
    let few = c.len-number-end.ensures.list.few in
    let number = c.loop-number.number in
    let places = c.loop-number.places.items in
    record {
      few = places-few names names places number few c.loop-number.invariant;
      within = places-within names (take number names) places few c.loop-number.invariant;
    }

pub returns : goal.returns
returns c =
    let names = c.args.names.now in
    places-all names names (places_of c.of.result) c.loop-number.number
    (omega (arith, c.loop-number-test.false, c.len-number-end.ensures.len))
    (rw c.of.ensures c.loop-number.invariant)
