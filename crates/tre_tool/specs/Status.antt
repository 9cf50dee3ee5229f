-- What a run answers, as a number and as a line on standard error.
use Rattle.std.specs.Prelude.{ℕ, List, [], ◌++◌, codes, decimal}
use Rattle.tre_trace.specs.declared.fault.TraceKind.{TraceKind}
use Rattle.tre_trace.specs.declared.fault.TraceKind.TheVariants.{LineTooLong, BadNumber, Zero, TooLate, BadName, BadToken, BadScale, UnknownName, TooFine, TimeBack, CutShort, Spent, Memory as KindMemory}
use Rattle.tre_parse.specs.declared.fault.ParseFault.{ParseFault}
use Rattle.tre_parse.specs.declared.fault.ParseFault.TheVariants.{TooLong, BadByte, Number, TooDeep, Syntax, EmptyInterval, TooManyNames, TooLarge, Memory as ParseMemory}
use Rattle.tre_define.specs.declared.let_fault.LetFault.{LetFault}
use Rattle.tre_define.specs.declared.let_fault.LetFault.TheVariants.{BadLet, Twice, Memory as LetMemory}
use Rattle.tre_feed.specs.declared.fault.Fault.{Fault}
use Rattle.tre_feed.specs.declared.fault.Fault.TheVariants.{Trace as FaultTrace, TooLong as FaultTooLong, TooManyZones as FaultTooMany, Read as FaultRead, Write as FaultWrite, Memory as FaultMemory}
use Rattle.tre_watch.specs.declared.fault.WatchFault.{WatchFault}
use Rattle.tre_watch.specs.declared.fault.WatchFault.TheVariants.{TooLarge as FileTooLarge, BadLine, TooMany, Twice as NameTwice, Pattern, Empty, Memory as WatchMemory}
use Rattle.tre_words.specs.declared.job.WordsFault.{WordsFault}
use Rattle.tre_words.specs.declared.job.WordsFault.TheVariants.{Usage as WordsUsage, Memory as WordsMemory}
use Rattle.tre_tool.specs.declared.status.Status.{Status}
use Rattle.tre_tool.specs.declared.status.Status.TheVariants.{Done, Usage, Expression, Minus, Definitions, Watch, Trace, InputTooLong, TooManyZones, ReadFault, WriteFault, Failed, Memory}

-- how a run ends over words that give no job, or that memory was wanting to read
abbrev pub words_status : WordsFault → Status
words_status WordsUsage = Usage
words_status WordsMemory = Memory

-- how a run ends over a text that is refused
abbrev pub parse_status : ParseFault → Status
parse_status ParseMemory = Memory
parse_status fault = Expression fault

-- how it ends over a text that is refused of a pattern that is taken away
abbrev pub minus_status : ParseFault → Status
minus_status ParseMemory = Memory
minus_status fault = Minus fault

-- how it ends over definitions that are refused
abbrev pub let_status : LetFault → Status
let_status LetMemory = Memory
let_status fault = Definitions fault

-- how it ends over a file of checks that is refused
abbrev pub watch_status : WatchFault → Status
watch_status WatchMemory = Memory
watch_status fault = Watch fault

-- how it ends where its input couldn't be answered, or its file of checks couldn't be read
abbrev pub fault_status : Fault → Status
fault_status (FaultTrace fault) = Trace fault
fault_status FaultTooLong = InputTooLong
fault_status (FaultTooMany zones) = TooManyZones zones
fault_status FaultRead = ReadFault
fault_status FaultWrite = WriteFault
fault_status FaultMemory = Memory

abbrev pub kind_name : TraceKind → List ℕ
kind_name LineTooLong = codes "LineTooLong"
kind_name BadNumber = codes "BadNumber"
kind_name Zero = codes "Zero"
kind_name TooLate = codes "TooLate"
kind_name BadName = codes "BadName"
kind_name BadToken = codes "BadToken"
kind_name BadScale = codes "BadScale"
kind_name UnknownName = codes "UnknownName"
kind_name TooFine = codes "TooFine"
kind_name TimeBack = codes "TimeBack"
kind_name CutShort = codes "CutShort"
kind_name Spent = codes "Spent"
kind_name KindMemory = codes "Memory"

abbrev pub number_line : ℕ → List ℕ
number_line n = decimal n ++ codes "\n"

-- the words on a refused pattern, up to the line's end
abbrev pub refusal_words : ParseFault → List ℕ
refusal_words TooLong = codes "TooLong\n"
refusal_words (BadByte at) = codes "BadByte at " ++ number_line at
refusal_words (Number at) = codes "Number at " ++ number_line at
refusal_words (TooDeep at) = codes "TooDeep at " ++ number_line at
refusal_words (Syntax at) = codes "Syntax at " ++ number_line at
refusal_words (EmptyInterval at) = codes "EmptyInterval at " ++ number_line at
refusal_words (TooManyNames at) = codes "TooManyNames at " ++ number_line at
refusal_words (TooLarge nodes) = codes "TooLarge " ++ number_line nodes
refusal_words ParseMemory = codes "Memory\n"

-- the words on a refused file of checks, up to the line's end
abbrev pub watch_words : WatchFault → List ℕ
watch_words FileTooLarge = codes "TooLarge\n"
watch_words (BadLine line) = codes "BadLine at " ++ number_line line
watch_words (TooMany line) = codes "TooMany at " ++ number_line line
watch_words (NameTwice line) = codes "Twice at " ++ number_line line
watch_words (Pattern line fault) =
    codes "Pattern at " ++ (decimal line ++ (codes ": " ++ refusal_words fault))
watch_words Empty = codes "Empty\n"
watch_words WatchMemory = codes "Memory\n"

-- the code of a status, and what standard error is told
abbrev pub told : Status → ℕ × List ℕ
told Done = (0, [])
told Usage = (2, codes "montre: wrong arguments\n")
told (Expression fault) = (3, codes "montre: expression: " ++ refusal_words fault)
told (Trace fault) = (
  4,
  codes "montre: trace: " ++ kind_name fault.kind ++ codes " at " ++ decimal fault.place
      ++ codes "\n",
)
told InputTooLong = (5, codes "montre: input too long\n")
told ReadFault = (6, codes "montre: read fault\n")
told WriteFault = (7, codes "montre: write fault\n")
told Memory = (8, codes "montre: out of memory\n")
told (TooManyZones zones) = (9, codes "montre: too many zones " ++ number_line zones)
told (Minus fault) = (10, codes "montre: minus expression: " ++ refusal_words fault)
told (Definitions (BadLet at)) = (11, codes "montre: definitions: BadLet at " ++ number_line at)
told (Definitions (Twice at)) = (11, codes "montre: definitions: Twice at " ++ number_line at)
told (Definitions LetMemory) = (11, codes "montre: definitions: Memory\n")
told (Watch fault) = (12, codes "montre: watch: " ++ watch_words fault)
told (Failed checks) = (13, codes "montre: failed checks " ++ number_line checks)

abbrev pub code_of : Status → ℕ
code_of status = (told status).0

abbrev pub error_line : Status → List ℕ
error_line status = (told status).1
