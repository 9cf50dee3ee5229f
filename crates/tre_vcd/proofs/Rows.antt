-- Files and what they say, by computation.
use Rattle.std.specs.Prelude.{◌≡◌, ℕ, List, [], ◌∷◌, ◌++◌, true, None, Some, codes, refl}
use Rattle.tre_trace.specs.Segments.{segment_with, plain_segment}
use Rattle.tre_trace.specs.Reading.{Reading, Vocabulary, no_names, reading_for}
use Rattle.tre_vcd.specs.VcdReading.{vcd_recording, token_says, end_says}
use Rattle.tre_parts.specs.Format.{recording_from}
use Rattle.tre_trace.specs.declared.fault.TraceKind.TheVariants.{BadScale, UnknownName, TooFine, TimeBack, CutShort}
use Rattle.tre_unit.specs.declared.unit.TimeUnit.{TimeUnit}
use Rattle.tre_unit.specs.declared.unit.TimeUnit.TheVariants.{Nanoseconds, Microseconds, Picoseconds}

lines : List (List ℕ) → List ℕ
lines [] = []
lines (line ∷ rest) = line ++ 10 ∷ lines rest

-- what bytes say for propositions of these names
abbrev said_for : List (List ℕ) → List ℕ → Reading
said_for names bytes =
    let asked : Vocabulary = record { names = names; events = [] } in
    reading_for asked (vcd_recording (record {
      declared = asked ∷ [];
      scale = 0;
      unit = None;
      definitions = [];
    }) true bytes)

abbrev worked : List ℕ
worked =
    codes "$date today $end" ++ 10 ∷ codes "$version worked $end" ++ 10 ∷ codes
    "$timescale 1 ns $end" ++ 10 ∷ codes "$scope module top $end" ++ 10 ∷ []
    ++ codes "$var wire 1 ! p $end" ++ 10 ∷ codes "$var reg 8 \" n [7:0] $end" ++ 10 ∷ codes
    "$upscope $end" ++ 10 ∷ codes "$enddefinitions $end" ++ 10 ∷ []
    ++ codes "#0" ++ 10 ∷ codes "$dumpvars" ++ 10 ∷ codes "0!" ++ 10 ∷ codes "b0 \"" ++ 10 ∷ codes
    "$end" ++ 10 ∷ codes "#5" ++ 10 ∷ codes "1!" ++ 10 ∷ []
    ++ codes "b101 \"" ++ 10 ∷ codes "#9" ++ 10 ∷ codes "0!" ++ 10 ∷ codes "#10" ++ 10 ∷ []

worked_says : said_for (codes "top.p" ∷ []) worked
    ≡ record {
      segments = plain_segment 5 0 ∷ plain_segment 4 1 ∷ plain_segment 1 0 ∷ [];
      last = 0;
      fault = None;
    }
unfolding recording_from token_says end_says
worked_says = refl

time_back : said_for [] (codes "$enddefinitions $end" ++ 10 ∷ codes "#9" ++ 10 ∷ codes "#7"
    ++ 10 ∷ [])
    ≡ record {
      segments = plain_segment 9 0 ∷ [];
      last = 0;
      fault =
          Some (record { place = 24; kind = TimeBack });
    }
unfolding recording_from token_says end_says
time_back = refl

unknown : said_for (codes "clk" ∷ []) (codes "$scope module top $end" ++ 10 ∷ codes
    "$var wire 1 ! clk $end" ++ 10 ∷ codes "$upscope $end" ++ 10 ∷ codes "$enddefinitions $end" ++
    10 ∷ [])
    ≡ record { segments = []; last = 0; fault = Some (record { place = 60; kind = UnknownName }) }
unfolding recording_from token_says end_says
unknown = refl

cut : said_for [] (codes "$enddefinitions $end" ++ 10 ∷ codes "$dumpvars" ++ 10 ∷ [])
    ≡ record { segments = []; last = 0; fault = Some (record { place = 31; kind = CutShort }) }
unfolding recording_from token_says end_says
cut = refl

abbrev with_events : List ℕ → List ℕ
with_events values =
    codes "$scope module top $end $var event 1 % e $end $upscope $end $enddefinitions $end "
    ++ values

abbrev asking_event : Vocabulary
asking_event = record { names = []; events = codes "top.e" ∷ [] }

-- at a time, in a dump section, and at the last time, of a thousand units each
events_say : reading_for asking_event (vcd_recording (record {
  declared = [];
  scale = 3;
  unit = None;
  definitions = [];
}) true
    (with_events (codes "#4 1% #6 $dumpall 1% $end #7 #7 0% ")))
    ≡ record {
      segments = plain_segment 4000 0 ∷ segment_with 2000 0 1 ∷ plain_segment 1000 0 ∷ [];
      last = 1;
      fault = None;
    }
unfolding recording_from token_says end_says
events_say = refl

-- ---- in a unit of time

abbrev in_unit : TimeUnit → List ℕ → Reading
in_unit unit bytes = reading_for no_names (vcd_recording (record {
  declared = [];
  scale = 0;
  unit = Some unit;
  definitions = [];
}) true bytes)

abbrev timed : List ℕ → List ℕ → List ℕ
timed said times =
    codes "$timescale " ++ said ++ codes " $end $enddefinitions $end " ++ times

-- ticks of 10 ns, in picoseconds, and then one of them in microseconds
ticks_say : in_unit Picoseconds (timed (codes "10ns") (codes "#2 #0003 "))
    ≡ record {
      segments = plain_segment 20000 0 ∷ plain_segment 10000 0 ∷ [];
      last = 0;
      fault = None;
    }
unfolding recording_from token_says end_says
ticks_say = refl

too_fine : in_unit Microseconds (timed (codes "10 ns") (codes "#100 #250 "))
    ≡ record {
      segments = plain_segment 1 0 ∷ [];
      last = 0;
      fault = Some (record { place = 48; kind = TooFine });
    }
unfolding recording_from token_says end_says
too_fine = refl

-- of two, the first counts, and it says no tick
bad_scale : in_unit Nanoseconds (codes "$timescale 2ns $end " ++ timed (codes "1ns") [])
    ≡ record { segments = []; last = 0; fault = Some (record { place = 40; kind = BadScale }) }
unfolding recording_from token_says end_says
bad_scale = refl
