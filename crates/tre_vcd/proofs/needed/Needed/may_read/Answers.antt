use Rattle.tre_vcd.specs.Needs.{definitions_of}
use Rattle.tre_vcd.proofs.needed.Needed.may_read.Goals as goal

pub returns : goal.returns
returns c = λ none.
    c.may_read.ensures none (definitions_of c.args.self.now) c.args.self.now.bases_has
