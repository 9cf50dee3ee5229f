use Rattle.tre_syntax.specs.Rest.{AtomMatches}
use Rattle.tre_offline.proofs.FoundZones.{found_exact}
use Rattle.tre_offline.proofs.atoms.set_of.Goals as goal

pub returns : goal.returns
returns c = λ atom rest given.
    found_exact c.args.found c.new-zones.result c.add_found.new.self (AtomMatches rest atom)
    c.new-zones.ensures c.in_ok-add_found.ensures.held given
