use Rattle.std.proofs.Common.{arith, rules}
use Rattle.std.proofs.lemmas.List.{take_rest}
use Rattle.tre_define.specs.Signals.{is_no_space}
use Rattle.tre_define.proofs.SignalLength.{len-all, len-at_end, len-at_slash, len-more}
use Rattle.tre_define.proofs.signals.signal_len.Goals as goal

pub returns-then-byte-eq92-clause-len : goal.returns-then-byte-eq92-clause-len
returns-then-byte-eq92-clause-len c =
    search (rules, is_no_space, take_rest, len-at_slash, c.args.bytes.now, c.loop-place.place)

pub returns-then-ends_signal-clause-len : goal.returns-then-ends_signal-clause-len
returns-then-ends_signal-clause-len c =
    search (rules, len-at_end, c.args.bytes.now, c.loop-place.place, c.loop-place-test.true)

pub loop-place-preserved : goal.loop-place-preserved
loop-place-preserved c =
    search (rules, len-more, c.args.bytes.now, c.loop-place.place, c.loop-place-test.true)

pub returns-clause-len : goal.returns-clause-len
returns-clause-len c =
    let none = len-all c.args.bytes.now c.loop-place.place c.loop-place-test.false in
    omega (arith, none, c.loop-place.invariant, c.loop-place-test.false)
