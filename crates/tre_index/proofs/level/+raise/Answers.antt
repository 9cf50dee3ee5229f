use Rattle.std.proofs.Common.{refl, arith}
use Rattle.tre_index.proofs.Raising.{risen_none, bound_none, index_above, room_first, room_others, kept_index, kept_risen, lifted_index, lifted_risen, lifted_bound}
use Rattle.tre_index.proofs.level.+raise.Goals as goal

pub returns-in_default-clause-risen : goal.returns-in_default-clause-risen
returns-in_default-clause-risen t c = risen_none c.args.levels.now c.in_default.ensures.cases

pub returns-in_default-clause-ok : goal.returns-in_default-clause-ok
returns-in_default-clause-ok t c = bound_none _ _ _ c.in_default.ensures.cases

pub raise-requires : goal.raise-requires
raise-requires t c =
    let levels = c.args.levels.now in
    let first = c.in-Some.level.now in
    let above = c.in-Some.above.now in
    let are = c.in-Some.ensures.cases.0 in (
      omega (arith, c.in-Some.ensures.cases.1),
      (
        index_above levels first above are c.requires.index,
        room_others levels first above are c.requires.index c.args.place c.requires.room,
      ),
    )

pub lift-requires : goal.lift-requires
lift-requires t c = room_first _ _ _ c.in-Some.ensures.cases.0 c.requires.index _ c.requires.room

pub returns-in_err-raise-clause-index : goal.returns-in_err-raise-clause-index
returns-in_err-raise-clause-index t c =
    kept_index _ _ _ c.in-Some.ensures.cases.0 c.requires.index _ c.raise.ensures.index
    c.raise.ensures.risen _ refl

pub returns-in_err-raise-clause-risen : goal.returns-in_err-raise-clause-risen
returns-in_err-raise-clause-risen t c =
    kept_risen _ _ _ c.in-Some.ensures.cases.0 c.requires.index _ c.raise.ensures.index
    c.raise.ensures.risen _ refl

pub returns-in_err-lift-clause-index : goal.returns-in_err-lift-clause-index
returns-in_err-lift-clause-index t c =
    kept_index _ _ _ c.in-Some.ensures.cases.0 c.requires.index _ c.raise.ensures.index
    c.raise.ensures.risen _ c.in_err-lift.ensures.err

pub returns-in_err-lift-clause-risen : goal.returns-in_err-lift-clause-risen
returns-in_err-lift-clause-risen t c =
    kept_risen _ _ _ c.in-Some.ensures.cases.0 c.requires.index _ c.raise.ensures.index
    c.raise.ensures.risen _ c.in_err-lift.ensures.err

pub returns-clause-index : goal.returns-clause-index
returns-clause-index t c =
    lifted_index _ _ _ c.in-Some.ensures.cases.0 c.requires.index _ c.raise.ensures.index
    c.raise.ensures.risen _ _ _ c.in_ok-lift.ensures.ok (room_first _ _ _ c.in-Some.ensures.cases.0
    c.requires.index _ c.requires.room) c.in_ok-raise.ensures.ok

pub returns-clause-risen : goal.returns-clause-risen
returns-clause-risen t c =
    lifted_risen _ _ _ c.in-Some.ensures.cases.0 c.requires.index _ c.raise.ensures.index
    c.raise.ensures.risen _ _ _ c.in_ok-lift.ensures.ok

pub returns-clause-ok : goal.returns-clause-ok
returns-clause-ok t c =
    lifted_bound _ _ _ c.in-Some.ensures.cases.0 c.requires.index _ c.raise.ensures.index
    c.raise.ensures.risen _ _ _ c.in_ok-lift.ensures.ok
