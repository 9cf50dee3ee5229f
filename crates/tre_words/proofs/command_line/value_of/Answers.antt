use Rattle.clap.specs.Words.{found_of}
use Rattle.tre_words.proofs.CommandLine.{value-some, value-none}
use Rattle.tre_words.proofs.command_line.value_of.Goals as goal

pub returns-clause-some : goal.returns-clause-some
returns-clause-some c = value-some (found_of c.args.matches.now) c.args.name.now c.get_str.result
    c.get_str.ensures

pub returns-clause-none : goal.returns-clause-none
returns-clause-none c = value-none (found_of c.args.matches.now) c.args.name.now c.get_str.result
    c.get_str.ensures
