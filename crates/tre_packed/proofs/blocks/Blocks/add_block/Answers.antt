use Rattle.std.proofs.Common.{◌≡◌, ◌+◌, ◌-◌, ◌*◌, ◌/◌, ◌≤◌, ◌++◌, length, take, ap, sym, subst, ◌∙◌, arith}
use Rattle.std.proofs.lemmas.List.Elements.{All-append}
use Rattle.tre_packed.specs.Offsets.{items_in}
use Rattle.tre_packed.specs.Said.{said_from, HasBits}
use Rattle.tre_packed.specs.Times.{offsets_from, AreOffsets}
use Rattle.tre_packed.specs.Unpacked.{unpacked}
use Rattle.tre_trace.proofs.Segments.{end_of-append, end_of-take-le}
use Rattle.tre_trace.specs.Trace.{end_of}
use Rattle.tre_packed.proofs.Adding.{count-limit, start_is}
use Rattle.tre_packed.proofs.Sayings.{said_from-append}
use Rattle.tre_packed.proofs.Times.{end-from, AreOffsets-more}
use Rattle.tre_packed.proofs.blocks.Blocks.add_block.Goals as goal

pub add_planes-requires-clause-trace : goal.add_planes-requires-clause-trace
add_planes-requires-clause-trace c =
    let front = unpacked c.args.self.now in
    let pack = c.requires.pack in
    omega (
      arith,
      ap (λ t. end_of t c.args.block.now) pack.end,
      end_of-append 0 front c.args.block.now,
      c.requires.trace.in_time,
    )

pub add_planes-requires-clause-limit : goal.add_planes-requires-clause-limit
add_planes-requires-clause-limit c =
    let pack = c.requires.pack in
    omega (
      arith,
      c.len-count.ensures,
      pack.offsets.size,
      count-limit (unpacked c.args.self.now) pack.trace,
    )

pub add_said-requires : goal.add_said-requires
add_said-requires c =
    let pack = c.requires.pack in
    omega (
      arith,
      c.len-count.ensures,
      pack.offsets.size,
      c.requires.room,
      count-limit (unpacked c.args.self.now) pack.trace,
    )

pub overflow_sub-self : goal.overflow_sub-self
overflow_sub-self c =
    let front = unpacked c.args.self.now in
    let pack = c.requires.pack in
    let same : c.len-count.result ≡ length front = c.len-count.ensures ∙ pack.offsets.size in
    let beside = c.in_ok-add_planes.ensures front same pack.end pack.planes in
    omega (
      arith,
      c.start-start.ensures,
      start_is front c.args.block.now c.add_planes.new.planes c.len-count.result same
          c.requires.some beside,
      end_of-take-le 0 front (length front / 64 * 64),
      pack.end,
    )

pub add-requires : goal.add-requires
add-requires c =
    let front = unpacked c.args.self.now in
    let pack = c.requires.pack in
    let same : c.len-count.result ≡ length front = c.len-count.ensures ∙ pack.offsets.size in
    let beside = c.in_ok-add_planes.ensures front same pack.end pack.planes in
    let before : c.start-start.result ≤ c.args.self.now.end =
    omega (
      arith,
      c.start-start.ensures,
      start_is front c.args.block.now c.add_planes.new.planes c.len-count.result same
          c.requires.some beside,
      end_of-take-le 0 front (length front / 64 * 64),
      pack.end,
    ) in
    omega (
      arith,
      end-from c.start-start.result c.args.self.now.end c.args.block.now before,
      ap (λ t. end_of t c.args.block.now) pack.end,
      end_of-append 0 front c.args.block.now,
      c.requires.trace.in_time,
    )

pub overflow_add-self : goal.overflow_add-self
overflow_add-self c =
    let front = unpacked c.args.self.now in
    let pack = c.requires.pack in
    let same : c.len-count.result ≡ length front = c.len-count.ensures ∙ pack.offsets.size in
    let beside = c.in_ok-add_planes.ensures front same pack.end pack.planes in
    let before : c.start-start.result ≤ c.args.self.now.end =
    omega (
      arith,
      c.start-start.ensures,
      start_is front c.args.block.now c.add_planes.new.planes c.len-count.result same
          c.requires.some beside,
      end_of-take-le 0 front (length front / 64 * 64),
      pack.end,
    ) in
    omega (
      arith,
      c.in_ok-end.ensures.end,
      end-from c.start-start.result c.args.self.now.end c.args.block.now before,
      ap (λ t. end_of t c.args.block.now) pack.end,
      end_of-append 0 front c.args.block.now,
      c.requires.trace.in_time,
    )

pub returns : goal.returns
returns c =
    let front = unpacked c.args.self.now in
    let block = c.args.block.now in
    let offsets = items_in c.args.self.now.offsets in
    let pack = c.requires.pack in
    let start = c.start-start.result in
    let same : c.len-count.result ≡ length front = c.len-count.ensures ∙ pack.offsets.size in
    let beside = c.in_ok-add_planes.ensures front same pack.end pack.planes in
    let begun : start ≡ end_of 0 (take (length front / 64 * 64) front) =
    c.start-start.ensures
    ∙ start_is front block c.add_planes.new.planes c.len-count.result same c.requires.some
    beside in
    let before : start ≤ c.args.self.now.end =
    omega (arith, begun, end_of-take-le 0 front (length front / 64 * 64), pack.end) in
    let more : items_in c.add.new.self
    ≡ offsets ++ offsets_from (end_of 0 front - start) block =
    c.in_ok-end.ensures.added ∙ ap (λ e. offsets ++ offsets_from (e - start) block) pack.end in
    let behind : c.len-count.result ≡ 0 + length front = omega (arith, same) in
    record {
      trace = c.requires.trace;
      bits = All-append HasBits front block pack.bits c.in_ok-add_said.ensures.bits;
      end =
          ap (λ e. start + e) c.in_ok-end.ensures.end
          ∙ end-from start c.args.self.now.end block before
          ∙ ap (λ t. end_of t block) pack.end ∙ sym (end_of-append 0 front block);
      offsets =
          subst (λ l. AreOffsets (front ++ block) l) (sym more)
          (AreOffsets-more front block offsets start pack.offsets
          (omega (arith, c.requires.room, pack.offsets.size)) begun);
      planes = beside;
      said =
          c.in_ok-add_said.ensures.said
          ∙ ap (λ l. l ++ said_from c.len-count.result block) pack.said
          ∙ ap (λ n. said_from 0 front ++ said_from n block) behind
          ∙ sym (said_from-append 0 front block);
    }
