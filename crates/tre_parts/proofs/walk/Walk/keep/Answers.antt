use Rattle.std.proofs.Common.{◌+◌, ◌≤◌, length, length-append, arith, ap}
use Rattle.tre_parts.specs.declared.TheConstants.{PART_MAX}
use Rattle.tre_parts.proofs.Walks.{after-kept, adds-kept, refused-long, refused-memory}
use Rattle.tre_trace.specs.declared.fault.TraceFault.{TraceFault}
use Rattle.tre_parts.proofs.walk.Walk.keep.Goals as goal

pub returns-then-len-more-gt-PART_MAX-clause-takes :
    goal.returns-then-len-more-gt-PART_MAX-clause-takes
returns-then-len-more-gt-PART_MAX-clause-takes g c = λ asked terms bytes segments here inside.
    let place = rw here.named at c.place-place.ensures in
    rw place (refused-long here c.args.more.now inside (omega arith) segments)

pub returns-in-Ok-clause-takes : goal.returns-in-Ok-clause-takes
returns-in-Ok-clause-takes g c = λ asked terms bytes segments here inside.
    let short : length c.args.self.now.part.items + length c.args.more.now ≤ PART_MAX = omega arith
    in
    let whole : length c.extend_from_slice.new.self.items ≤ PART_MAX =
    omega (
      arith,
      short,
      ap length c.in-Ok.ensures.items,
      length-append
          c.args.self.now.part.items c.args.more.now,
    ) in (
      after-kept here c.extend_from_slice.new.self.items c.args.more.now c.in-Ok.ensures.items
          inside whole,
      adds-kept here c.args.more.now inside short segments,
    )

pub returns-in-Err-clause-takes : goal.returns-in-Err-clause-takes
returns-in-Err-clause-takes g c = λ asked terms bytes segments here inside.
    refused-memory (g.R.PartReader.format terms) _ bytes c.args.more.now segments
    c.out_of_memory.result
    (ap (λ (fault : TraceFault). fault.kind) c.out_of_memory.ensures)
