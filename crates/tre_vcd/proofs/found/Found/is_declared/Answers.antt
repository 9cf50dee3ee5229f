use Rattle.std.proofs.Common.{rules}
use Rattle.tre_vcd.specs.VcdReading.{event_asked}
use Rattle.tre_vcd.specs.Kept.{plain_of, vocabulary_of}
use Rattle.tre_vcd.proofs.Offering.{events-declared}
use Rattle.tre_vcd.proofs.found.Found.is_declared.Goals as goal

pub returns-then-are_propositions : goal.returns-then-are_propositions
returns-then-are_propositions c =
    search (rules, event_asked, vocabulary_of, plain_of, events-declared)

pub returns-else-are_propositions : goal.returns-else-are_propositions
returns-else-are_propositions c = search (rules, event_asked, vocabulary_of, c.args.self.now)
