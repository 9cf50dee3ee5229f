-- How the program ends over the system's streams.
use Rattle.std.specs.Prelude.{◌≡◌, ℕ, false, List, Option, None}
use Rattle.tre_feed.specs.Input.{input_told}
use Rattle.tre_io.specs.Told.{SourceTold, SinkTold}
use Rattle.tre_tell.specs.Outputs.{output_told}
use Rattle.tre_words.specs.declared.job.Job.{Job}
use Rattle.tre_tool.specs.Run.{EndsAs, IsLineTold}
use Rattle.tre_tool.specs.Status.{code_of, error_line}
use Rattle.tre_tool.specs.declared.status.Status.{Status}

-- what a file of the system, or its standard input, tells before it is opened
abbrev pub unopened : SourceTold
unopened = record {
  name = None;
  file = None;
  left = None;
  found = None;
  opened = false;
  sound = false;
  faults = 0;
}

-- what a writer that holds this tells before it is written to
abbrev pub holding : Option (List ℕ) → SinkTold
holding written = record { written = written; faults = 0 }

-- The code is that of a status, which means what it is to mean, and whose line was told.
pub record EndsWithCode (Gives : Job → Type 0) (out err : Option (List ℕ)) (code : ℕ) : Type 0
  where
    pub status : Status
    pub is : code ≡ code_of status
    pub checks : SourceTold
    pub input : SourceTold
    pub written : SinkTold
    pub told : SinkTold
    pub ends : EndsAs Gives (input_told unopened checks) (input_told unopened input)
        (output_told (holding out) written) status
    pub error : IsLineTold (output_told (holding err) told) (error_line status)
