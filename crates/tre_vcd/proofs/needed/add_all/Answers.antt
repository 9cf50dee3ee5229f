use Rattle.std.proofs.Common.{◌<◌, [], length, map, arith, rules}
use Rattle.std.proofs.lemmas.Option.{slice_get-get_or}
use Rattle.tre_vcd.specs.Sorted.{wanted}
use Rattle.tre_vcd.proofs.Gathering.{joins-none, joins-more, joins-all}
use Rattle.tre_vcd.proofs.needed.add_all.Goals as goal

pub loop-number-init : goal.loop-number-init
loop-number-init c = search (rules, joins-none, wanted)

pub loop-number-preserved : goal.loop-number-preserved
loop-number-preserved c = record {
  joins =
      joins-more (wanted (map _ c.args.set.now.keys) c.args.defined.now.items) c.args.names.now
      (wanted (map _ c.loop-number.set.keys) c.loop-number.defined.items)
      (wanted (map _ c.add.new.set.keys) c.add.new.defined.items) c.loop-number.number
      c.in-Some.name.now c.as_bytes.result.now c.in-Some.ensures c.as_bytes.ensures.value
      c.loop-number.invariant.joins c.in_ok-add-in-Some.ensures.joins;
  sorted = λ sorted. c.add.ensures.sorted (c.loop-number.invariant.sorted sorted);
}

pub returns-clause-joins : goal.returns-clause-joins
returns-clause-joins c = search (rules, joins-all, wanted, c.loop-number.number)

pub unreachable-requires : goal.unreachable-requires
unreachable-requires c =
    let within : c.loop-number.number < length c.args.names.now =
    omega (arith, c.loop-number-test.true, c.len-number-end.ensures.len) in
    let there = slice_get-get_or c.args.names.now c.loop-number.number [] within in
    let none = c.in-None.ensures in
    cc (there, none)
