use Rattle.std.proofs.Common.{◌≡◌, ℕ, ◌-◌, List, length, take, drop, ◌++◌, sym, ap, ◌∙◌, arith}
use Rattle.std.specs.String.{string_bytes}
use Rattle.std.proofs.Math.Seq.{drop-drop}
use Rattle.tre_io.specs.Calls.{CallCounts}
use Rattle.tre_io.specs.MemoryInput.{MemoryInput, after_read}
use Rattle.tre_io.proofs.Parts.{rest_is}
use Rattle.tre_io.proofs.memory_source.MemSourceSource.read.Goals as goal

pub returns-clause-count : goal.returns-clause-count
returns-clause-count c =
    let rest =
    rest_is c.self.inside.place c.self.inside.bytes.items c.deref.result.now c.deref.ensures.value in
    omega (
      arith,
      c.min-count.ensures,
      c.min.ensures,
      ap length rest,
      ap (λ input. length input.left) c.self.view_is,
      ap (λ input. input.most) c.self.view_is,
    )

pub returns-clause-bytes : goal.returns-clause-bytes
returns-clause-bytes c =
    let rest =
    rest_is c.self.inside.place c.self.inside.bytes.items c.deref.result.now c.deref.ensures.value in
    let count = c.min-count.result in
    ap (λ read. read ++ drop count c.args.buffer.now)
    (c.copy_from_slice.ensures.after ∙ ap (take count) (rest ∙ ap (λ input. input.left) c.self.view_is))

pub returns-clause-ok : goal.returns-clause-ok
returns-clause-ok c =
    let source = c.self.inside in
    let count = c.min-count.result in
    let read : List ℕ → CallCounts → MemoryInput = λ left calls. record {
      name = string_bytes source.name;
      bytes = source.bytes.items;
      left = left;
      found = drop source.place source.bytes.items;
      opened = source.opened;
      most = source.most;
      calls = calls;
    } in
    ap (λ left. read left c.begin.new.self) (sym (drop-drop count source.place source.bytes.items))
    ∙ ap (read (drop count (drop source.place source.bytes.items))) c.in_ok-begin.ensures.ok
    ∙ ap (λ input. after_read input count) c.self.view_is
