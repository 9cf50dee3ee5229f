use Rattle.std.proofs.Common.{refl, sym}
use Rattle.tre_text.proofs.Naming.{bits-none}
use Rattle.tre_text.proofs.line_reader.LineReader.new.Goals as goal

pub returns-clause-begins : goal.returns-clause-begins
returns-clause-begins c = record { end = refl; pending = sym (bits-none c.args.events) }
