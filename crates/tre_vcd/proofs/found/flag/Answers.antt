use Rattle.std.proofs.Common.{◌∙◌, map, sym}
use Rattle.tre_vcd.proofs.Flagging.{flags-set, flags-stay}
use Rattle.tre_vcd.proofs.found.flag.Goals as goal

pub returns-in_default : goal.returns-in_default
returns-in_default c = λ test is.
    flags-stay test (map _ c.args.names.now.keys) c.args.path.now c.args.flags.now.items
    (sym c.in_default.is ∙ c.place_in.ensures.place) is

pub returns-then-number-len : goal.returns-then-number-len
returns-then-number-len c = λ test is.
    flags-set test (map _ c.args.names.now.keys) c.args.path.now c.args.flags.now.items
    c.in-Some.number c.place_in.ensures.distinct c.in-Some.ensures.place is
