use Rattle.std.proofs.Common.{◌++◌, ◌∙◌, [], ap, Result, Ok, Err, OnErr}
use Rattle.tre_packed.specs.Unpacked.{unpacked}
use Rattle.tre_trace.specs.Trace.{timeline_of}
use Rattle.tre_packed.proofs.Unpacking.{pack_of, unpacked_is}
use Rattle.tre_packed.proofs.packed.Packed.add.Goals as goal

whatever : {T E P : Type 0} (result : Result T E) → P → OnErr result P
whatever (Ok x) holds = tt
whatever (Err e) holds = holds

pub add-requires-clause-pack : goal.add-requires-clause-pack
add-requires-clause-pack c = rw c.replace-blocks.ensures.value c.self.invariant

pub invariant_of-self : goal.invariant_of-self
invariant_of-self c =
    rw c.replace-blocks.ensures.after (pack_of [] c.new.result c.new.ensures)

pub returns-in_err-add-clause-none : goal.returns-in_err-add-clause-none
returns-in_err-add-clause-none c =
    whatever c.from_residual.result
    (rw c.replace-blocks.ensures.after
    (ap (λ segments. timeline_of segments 0) (unpacked_is [] c.new.result c.new.ensures)))

pub returns-in_err-add-clause-trace : goal.returns-in_err-add-clause-trace
returns-in_err-add-clause-trace c =
    rw c.replace-blocks.ensures.after (pack_of [] c.new.result c.new.ensures).trace

pub invariant_of-self-2 : goal.invariant_of-self-2
invariant_of-self-2 c =
    pack_of (unpacked c.replace-blocks.result ++ c.args.segments.now) c.add.new.self
    c.in_ok-add.ensures

pub returns-clause-added : goal.returns-clause-added
returns-clause-added c =
    let before = ap unpacked c.replace-blocks.ensures.value ∙ ap (λ t. t.segments) c.self.view_is in
    ap (λ segments. timeline_of segments 0)
    (unpacked_is (unpacked c.replace-blocks.result ++ c.args.segments.now) c.add.new.self
    c.in_ok-add.ensures
    ∙ ap (λ l. l ++ c.args.segments.now) before)

pub returns-clause-trace : goal.returns-clause-trace
returns-clause-trace c =
    (pack_of (unpacked c.replace-blocks.result ++ c.args.segments.now) c.add.new.self
    c.in_ok-add.ensures).trace
