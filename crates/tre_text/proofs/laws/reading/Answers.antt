use Rattle.tre_text.proofs.TraceLines.{read_trace, read_part, read_fault, read_overlong}
use Rattle.tre_text.proofs.laws.reading.Goals as goal

pub returns : goal.returns
returns c =
    let digits = c.begins_with_a_digit.ensures in
    record {
      trace = read_trace digits;
      part = read_part digits;
      fault = read_fault digits;
      long = read_overlong digits;
    }
