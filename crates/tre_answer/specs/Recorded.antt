-- What the bytes of an input say, in the format of a job.
use Rattle.std.specs.Prelude.{ℕ, Bool, List, Option}
use Rattle.tre_define.specs.Signals.{SignalDefined}
use Rattle.tre_num.specs.Defined.{Defined}
use Rattle.tre_num.specs.Rows.{rows_recording}
use Rattle.tre_tell.specs.Sought.{Sought, all_names}
use Rattle.tre_text.specs.TextReading.{text_recording}
use Rattle.tre_trace.specs.Reading.{Recording}
use Rattle.tre_unit.specs.declared.unit.TimeUnit.{TimeUnit}
use Rattle.tre_vcd.specs.VcdReading.{vcd_recording}
use Rattle.tre_words.specs.declared.job.Format.{Format}
use Rattle.tre_words.specs.declared.job.Format.TheVariants.{Text, Vcd, Csv}

-- What bytes in this format say, at a scale, by the definitions of columns and of signals. A dump
-- must declare what the names of all patterns read, and its times may be read in a unit; rows have
-- a number wherever a name reads one.
abbrev pub recording_in : Format → ℕ → Option TimeUnit → List Sought → List Defined
    → List SignalDefined → Bool → List ℕ → Recording
recording_in Text scale unit patterns lets signals = text_recording scale
recording_in Vcd scale unit patterns lets signals = vcd_recording (record {
  declared = all_names patterns;
  scale = scale;
  unit = unit;
  definitions = signals;
})
recording_in Csv scale unit patterns lets signals = rows_recording (record {
  definitions = lets;
  declared = all_names patterns;
  scale = scale;
})
