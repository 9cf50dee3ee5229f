use Rattle.std.proofs.Common.{◌<◌, [], length, sym, arith}
use Rattle.std.proofs.lemmas.Option.{get_or_from_slice_get, slice_get-get_or}
use Rattle.tre_vcd.proofs.Longest.{both-below, longest-next, longest-all}
use Rattle.tre_vcd.proofs.token_reader.longest_of.Goals as goal

pub loop-number-preserved : goal.loop-number-preserved
loop-number-preserved c =
    let name = c.in-Some.name.now in
    let within : c.loop-number.number < length c.args.names.now =
    omega (arith, c.loop-number-test.true, c.len-number-end.ensures.len) in
    let both = both-below c.loop-number.longest (length name) c.max-longest.result
    c.max-longest.ensures in
    longest-next length c.args.names.now c.loop-number.number c.loop-number.longest
    c.max-longest.result name within
    (sym (get_or_from_slice_get c.args.names.now c.loop-number.number name name
    (sym c.in-Some.ensures)))
    both.0 both.1
    c.loop-number.invariant

pub returns : goal.returns
returns c =
    longest-all length _ _ _ (omega (arith, c.loop-number-test.false, c.len-number-end.ensures.len))
    c.loop-number.invariant

pub unreachable-requires : goal.unreachable-requires
unreachable-requires c =
    let within : c.loop-number.number < length c.args.names.now =
    omega (arith, c.loop-number-test.true, c.len-number-end.ensures.len) in
    let there = slice_get-get_or c.args.names.now c.loop-number.number [] within in
    let none = c.in-None.ensures in
    cc (there, none)
