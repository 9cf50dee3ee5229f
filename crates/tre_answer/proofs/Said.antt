-- What a text says by its lines, that it stays so, and that both ways of matching say one thing.
use Rattle.std.proofs.Common.{Option, ◌≡◌, ◌∙◌, ◌↔◌, ℕ, zero, suc, ◌*◌, ◌<◌, ◌≤◌, Bool, true, false, List, [], ◌∷◌, ◌++◌, length, take, map, refl, sym, subst, ap, arith, append-nil}
use Rattle.std.specs.List.{AllByRecursion, AllZip}
use Rattle.std.specs.Prelude.{codes}
use Rattle.std.proofs.Math.Nat.{mul-le-mul_right}
use Rattle.std.proofs.lemmas.List.{length-map, map-append, take_all}
use Rattle.std.proofs.lemmas.List.Elements.{recursion_from_All, All-from_recursion}
use Rattle.tre_decimal.specs.Decimal.{number_text}
use Rattle.tre_define.specs.Signals.{SignalDefined}
use Rattle.tre_feed.specs.Traces.{trace_for}
use Rattle.tre_num.specs.Defined.{Defined}
use Rattle.tre_num.specs.Times.{rows-are_trace, rows-grow}
use Rattle.tre_pairs.specs.declared.TheConstants.{TIME_MAX}
use Rattle.tre_parts.specs.Growing.{reading-grows}
use Rattle.tre_parts.specs.Times.{reading-is_trace}
use Rattle.tre_show.specs.Line.{offline_text, lines_of}
use Rattle.tre_show.specs.Shown.{IsTightShown, shown}
use Rattle.tre_show.proofs.Shown.{shown_tight}
use Rattle.tre_syntax.specs.Meaning.{Matches}
use Rattle.tre_syntax.specs.Rest.{prefixed, whole}
use Rattle.tre_syntax.proofs.Growth.{end_of-grows}
use Rattle.tre_syntax.proofs.CutMeaning.{IsBounded-rest}
use Rattle.tre_tell.specs.Blocks.{AreAccounts, blocks_text, ending_text}
use Rattle.tre_tell.specs.Lines.{SaysAll, SaysSoFar}
use Rattle.tre_tell.specs.Online.{IsOnlineAnswer, blocks_for, fronts}
use Rattle.tre_tell.specs.Request.{Request, AreReadAs}
use Rattle.tre_tell.specs.Sought.{Sought, all_names}
use Rattle.tre_tell.specs.Transcript.{Account, IsTranscript, IsClosing, zones_in_blocks}
use Rattle.tre_tell.proofs.CanonicalBlocks.{tight_in_time}
use Rattle.tre_tell.proofs.ForGood.{stays_true, in_time, in_all}
use Rattle.tre_tell.proofs.PrintedLines.{lines_exact, lines_same, says_all, says_so_far}
use Rattle.tre_text.specs.TextReading.{text_format}
use Rattle.tre_text.specs.Times.{text-keeps_time}
use Rattle.tre_trace.specs.Reading.{Grows, Recording, Stretch, Vocabulary, no_names, events_for, segments_for, segment_for}
use Rattle.tre_trace.specs.Trace.{AreLong, Timeline, IsTrace, end_of, quiet, timeline_of}
use Rattle.tre_trace.specs.declared.segment.Segment.{Segment}
use Rattle.tre_unit.specs.declared.unit.TimeUnit.{TimeUnit}
use Rattle.tre_vcd.specs.Times.{vcd-keeps_time}
use Rattle.tre_vcd.specs.VcdReading.{vcd_format}
use Rattle.tre_words.specs.declared.job.Format.{Format}
use Rattle.tre_words.specs.declared.job.Format.TheVariants.{Text, Vcd, Csv}
use Rattle.tre_words.specs.declared.job.Job.{Job}
use Rattle.tre_zone.specs.ZoneList.{SetHolds, AreCanonical, HoldExactly}
use Rattle.tre_zone.specs.declared.zone_bounds.ZoneBounds.{ZoneBounds}
use Rattle.tre_answer.specs.Recorded.{recording_in}
use Rattle.tre_answer.specs.Request.{request_for, sought_in}
use Rattle.tre_answer.specs.Said.{SaysPairs, IsForGood, end_for, offline_of, zones_told}
use Rattle.tre_answer.specs.Wanted.{IsWanted, IsOfflineAnswer}
use Rattle.tre_answer.specs.declared.asked.Asked.{Asked}
use Rattle.tre_answer.specs.declared.asked.Definitions.{Definitions}
use Rattle.tre_answer.proofs.Recorded.{dump_terms_of, rows_terms_of}
use Rattle.tre_answer.proofs.Wanted.{wanted_rises}

-- ---- a whole text

-- what is wanted ends in time
wanted_ends : (patterns : List Sought) (traces : List Timeline)
    → AllByRecursion (λ trace. IsTrace trace.segments) traces → (a b n : ℕ)
    → IsWanted patterns traces a b n → b ≤ TIME_MAX * n
wanted_ends (pattern ∷ patterns) (trace ∷ traces) are a b n wanted =
    let ends = (IsBounded-rest pattern.tree (whole trace)).end a b n wanted.0 in
    let more : end_of 0 trace.segments * n ≤ TIME_MAX * n =
    mul-le-mul_right n are.0.in_time in
    omega (arith, ends, more)
wanted_ends [] traces are a b n wanted = absurd wanted
wanted_ends (pattern ∷ patterns) [] are a b n wanted = absurd wanted

all_tight : (zones : List ZoneBounds) → AreCanonical zones
    → AllByRecursion IsTightShown (map shown zones)
unfolding AreCanonical
all_tight [] are = tt
all_tight (zone ∷ zones) are = (shown_tight zone are.0, all_tight zones are.1)

pub says_pairs : (request : Request) (bytes text : List ℕ) (traces : List Timeline)
    → AreReadAs request bytes traces → IsOfflineAnswer request bytes text
    → SaysPairs request.job.scale (IsWanted request.patterns traces) (end_for request bytes) text
unfolding offline_text lines_of
says_pairs request bytes text traces are answer =
    let zones = answer.zones in
    let scale = request.job.scale in
    let end = end_for request bytes in
    let found = answer.right.found in
    let same : answer.right.traces ≡ traces = answer.right.are.are ∙ sym are.are in
    let exact = subst (λ list. HoldExactly zones (IsWanted request.patterns list)) same
    found.exact in
    let canonical = tight_in_time zones found.tight (λ a b n some rising held.
    wanted_ends request.patterns traces
    (recursion_from_All (λ trace. IsTrace trace.segments) traces are.are_traces) a b n
    ((exact.exact a b n some rising).0 held)) in
    record {
      lines = map shown zones;
      exact = lines_exact zones (map shown zones) (IsWanted request.patterns traces) refl canonical
          (wanted_rises request.patterns traces) exact.exact;
      smallest = All-from_recursion IsTightShown (map shown zones) (all_tight zones canonical);
      text_is = answer.printed
          ∙ ap (λ lines. lines ++ codes "end " ++ number_text scale end ++ codes "\n")
          (lines_same scale [] zones);
    }

pub says_online : (request : Request) (bytes front text : List ℕ) (traces : List Timeline)
    → AreReadAs request bytes traces → IsOnlineAnswer request bytes front text
    → SaysAll request.job.scale request.patterns traces
    (segments_for no_names (request.recording true bytes).stretches) text
unfolding blocks_text
says_online request bytes front text traces are answer =
    let scale = request.job.scale in
    let segments = segments_for no_names (request.recording true bytes).stretches in
    let ending = ending_text scale answer.accounts segments in
    let same : answer.traces ≡ traces = answer.are.are ∙ sym are.are in
    let whole : text ≡ blocks_text scale answer.accounts segments ++ ending =
    answer.text_is ∙ ap (λ blocks. blocks ++ ending) answer.front_is in
    subst (λ all. SaysAll scale request.patterns traces segments all) (sym whole)
    (subst (λ list. SaysAll scale request.patterns list segments
    (blocks_text scale answer.accounts segments ++ ending)) same
    (says_all scale request.patterns answer.traces answer.accounts segments answer.told
    answer.closed answer.are.are_traces))

-- ---- blocks so far

trace_in : (format : Format) (scale : ℕ) (unit : Option TimeUnit)
    (patterns : List Sought) (lets : List Defined) (signals : List SignalDefined) (names : Vocabulary) (closed : Bool) (bytes : List ℕ)
    → IsTrace (segments_for names
    (recording_in format scale unit patterns lets signals closed bytes).stretches)
trace_in Text scale unit patterns lets signals names closed bytes =
    reading-is_trace names (text_format scale) closed bytes (text-keeps_time scale)
trace_in Vcd scale unit patterns lets signals names closed bytes =
    let terms = dump_terms_of (all_names patterns) scale unit signals in
    reading-is_trace names (vcd_format terms) closed bytes (vcd-keeps_time terms)
trace_in Csv scale unit patterns lets signals names closed bytes =
    rows-are_trace (rows_terms_of lets (all_names patterns) scale) names closed bytes

front_long : (segments more : List Segment) → AreLong (segments ++ more) → AreLong segments
front_long [] more long = tt
front_long (segment ∷ segments) more long = (long.0, front_long segments more long.1)

-- what comes first of a trace is one
front_trace : (segments more : List Segment) → IsTrace (segments ++ more) → IsTrace segments
front_trace segments more trace = record {
  long = front_long segments more trace.long;
  in_time = omega (arith, trace.in_time, end_of-grows 0 segments more);
}

fronts_traces : (patterns : List Sought) (told more all : List Stretch) → told ++ more ≡ all
    → ((names : Vocabulary) → IsTrace (segments_for names all))
    → AllByRecursion (λ trace. IsTrace trace.segments) (fronts patterns told)
fronts_traces [] told more all same trace = tt
fronts_traces (pattern ∷ patterns) told more all same trace =
    let names = pattern.names in
    let cut : segments_for names all ≡ segments_for names told ++ segments_for names more =
    ap (segments_for names) (sym same) ∙ map-append (segment_for names) told more in (
      front_trace (segments_for names told) (segments_for names more)
          (subst IsTrace cut (trace names)),
      fronts_traces patterns told more all same trace,
    )

pub says_told : (job : Job) (definitions : Definitions) (asked : Asked) (closed : Bool)
    (bytes : List ℕ) (told more : List Stretch) (accounts : List Account)
    → told ++ more ≡ ((request_for job definitions asked).recording closed bytes).stretches
    → AreAccounts (sought_in asked) (fronts (sought_in asked) told) accounts
    → SaysSoFar job.scale (sought_in asked) (fronts (sought_in asked) told)
    (segments_for no_names told) (blocks_for (request_for job definitions asked) accounts told)
unfolding blocks_text
says_told job definitions asked closed bytes told more accounts same are =
    let patterns = sought_in asked in
    let traces = fronts patterns told in
    says_so_far job.scale patterns traces accounts (segments_for no_names told) are
    (All-from_recursion (λ trace. IsTrace trace.segments) traces
    (fronts_traces patterns told more _ same (λ names. trace_in job.format job.scale
    job.unit patterns definitions.columns.items definitions.signals.items names closed bytes)))

-- ---- what stays so

grows_in : (format : Format) (scale : ℕ) (unit : Option TimeUnit)
    (patterns : List Sought) (lets : List Defined) (signals : List SignalDefined) (closed : Bool) (first more : List ℕ)
    → Grows (recording_in format scale unit patterns lets signals false first)
    (recording_in format scale unit patterns lets signals closed (first ++ more))
grows_in Text scale unit patterns lets signals closed first more =
    reading-grows (text_format scale) closed first more
grows_in Vcd scale unit patterns lets signals closed first more = reading-grows
    (vcd_format (dump_terms_of (all_names patterns) scale unit signals)) closed first more
grows_in Csv scale unit patterns lets signals closed first more =
    rows-grow (rows_terms_of lets (all_names patterns) scale) closed first more

none_of : {X : Type 0} (xs : List X) → length xs ≡ 0 → xs ≡ []
none_of [] e = refl
none_of (x ∷ xs) e = absurd (omega (arith, e))

good_by : (account : Account) (next : Timeline) → IsTranscript account → (count : ℕ)
    → length account.trace.segments ≡ count
    → IsForGood account (prefixed account.trace.segments next)
unfolding SetHolds
good_by account next is zero e =
    let none : account.blocks ≡ [] = none_of account.blocks (is.count ∙ e) in
    let empty : account.trace.segments ≡ [] = none_of account.trace.segments e in
    record {
      stays_true = λ a b n some rising held.
          absurd (subst (λ list. SetHolds (zones_in_blocks list) a b n) none held);
      in_time = λ a b n some before match.
          let early = subst (λ list. b < end_of 0 list * n) empty before in
          absurd (omega (arith, early));
    }
good_by account next is (suc count) e =
    let tree = account.pattern.tree in
    let less : count < length account.trace.segments = omega (arith, e) in
    let all : take (suc count) account.trace.segments ≡ account.trace.segments =
    take_all (suc count) account.trace.segments (omega (arith, e)) in
    let blocks : take (suc count) account.blocks ≡ account.blocks =
    take_all (suc count) account.blocks (omega (arith, e, is.count)) in
    record {
      stays_true = λ a b n some rising held.
          subst (λ list. Matches tree (prefixed list next) a b n) all
          (stays_true account next count a b n is less some rising
          (subst (λ list. SetHolds (zones_in_blocks list) a b n) (sym blocks) held));
      in_time = λ a b n some before match.
          subst (λ list. SetHolds (zones_in_blocks list) a b n) blocks
          (in_time account next count a b n is less some
          (subst (λ list. b < end_of 0 list * n) (sym all) before)
          (subst (λ list. Matches tree (prefixed list next) a b n) (sym all) match));
    }

each_good : (said : Recording) (stretches added : List Stretch) (accounts : List Account)
    (patterns : List Sought) → said.stretches ≡ stretches ++ added
    → map (λ account. account.pattern) accounts ≡ patterns
    → map (λ account. account.trace) accounts ≡ fronts patterns stretches
    → AllByRecursion IsTranscript accounts
    → AllZip IsForGood accounts (map (λ pattern. trace_for said pattern.names) patterns)
each_good said stretches added [] [] more of over are = tt
each_good said stretches added [] (pattern ∷ patterns) more of over are = cc
each_good said stretches added (account ∷ accounts) [] more of over are = cc
each_good said stretches added (account ∷ accounts) (pattern ∷ patterns) more of over are =
    let names = pattern.names in
    let next = timeline_of (segments_for names added) (events_for names said.last) in
    let here : account.trace ≡ quiet (segments_for names stretches) = cc in
    let rest_of : map (λ account. account.pattern) accounts ≡ patterns = cc in
    let rest_over : map (λ account. account.trace) accounts ≡ fronts patterns stretches = cc in
    let all : account.trace.segments ++ segments_for names added
    ≡ segments_for names said.stretches =
    ap (λ trace. trace.segments ++ segments_for names added) here
    ∙ sym (map-append (segment_for names) stretches added)
    ∙ ap (λ list. segments_for names list) (sym more) in
    let first : IsForGood account (trace_for said names) =
    subst (λ list. IsForGood account (timeline_of list (events_for names said.last))) all
    (good_by account next are.0 (length account.trace.segments) refl) in
    (first, each_good said stretches added accounts patterns more rest_of rest_over are.1)

pub for_good : (job : Job) (definitions : Definitions) (asked : Asked) (bytes more : List ℕ)
    (accounts : List Account) (traces : List Timeline)
    → AreAccounts (sought_in asked) (fronts (sought_in asked)
    ((request_for job definitions asked).recording false bytes).stretches) accounts
    → AreReadAs (request_for job definitions asked) (bytes ++ more) traces
    → AllZip IsForGood accounts traces
for_good job definitions asked bytes more accounts traces are whole =
    let said = (request_for job definitions asked).recording in
    let grows = grows_in job.format job.scale job.unit (sought_in asked)
    definitions.columns.items definitions.signals.items true bytes more in
    subst (λ list. AllZip IsForGood accounts list) (sym whole.are)
    (each_good (said true (bytes ++ more)) (said false bytes).stretches grows.added accounts
    (sought_in asked) grows.stretches are.of_patterns are.over_traces
    (recursion_from_All IsTranscript accounts are.told))

-- ---- both ways

one_way : (patterns : List Sought) (traces seconds : List Timeline) (accounts : List Account)
    (zones : List ZoneBounds) → length patterns ≡ 1
    → map (λ account. account.pattern) accounts ≡ patterns
    → map (λ account. account.trace) accounts ≡ traces → seconds ≡ traces
    → AllByRecursion IsTranscript accounts → AllByRecursion IsClosing accounts
    → AllByRecursion (λ trace. 0 < length trace.segments) traces
    → HoldExactly zones (IsWanted patterns seconds) → (a b n : ℕ) → 0 < n → a ≤ b
    → SetHolds (zones_told accounts) a b n ↔ SetHolds zones a b n
one_way patterns traces seconds [] zones one of over same told closed long held a b n some rising =
    absurd (omega (arith, one, ap length of))
one_way patterns traces seconds (account ∷ second ∷ accounts) zones one of over same told closed
    long held a b n some rising = absurd (omega (arith, one, ap length of))
one_way patterns traces seconds (account ∷ []) zones one of over same told closed long held a b n
    some rising =
    let all = zones_in_blocks account.blocks ++ account.closing in
    let lasts = subst (λ list. AllByRecursion (λ trace. 0 < length trace.segments) list) (sym over)
    long in
    let online = (in_all account lasts.0 told.0 closed.0).exact a b n some rising in
    let whole : HoldExactly zones (IsWanted (account.pattern ∷ []) (account.trace ∷ [])) =
    subst (λ list. HoldExactly zones (IsWanted (account.pattern ∷ []) list)) (same ∙ sym over)
    (subst (λ list. HoldExactly zones (IsWanted list seconds)) (sym of) held) in
    let offline = whole.exact a b n some rising in
    let alone : all ++ [] ≡ all = append-nil all in (
      (λ h. offline.1 (online.0 (subst (λ list. SetHolds list a b n) alone h), (λ none. none))),
      (λ h. subst (λ list. SetHolds list a b n) (sym alone) (online.1 (offline.0 h).0)),
    )

traces_long : (said : Recording) (patterns : List Sought) → 0 < length said.stretches
    → AllByRecursion (λ trace. 0 < length trace.segments)
    (map (λ pattern. trace_for said pattern.names) patterns)
traces_long said [] some = tt
traces_long said (pattern ∷ patterns) some =
    let same = length-map said.stretches (segment_for pattern.names) in
    (omega (arith, some, same), traces_long said patterns some)

pub both_ways : (request : Request) (bytes front text second : List ℕ)
    (online : IsOnlineAnswer request bytes front text)
    (offline : IsOfflineAnswer (offline_of request) bytes second)
    → length request.patterns ≡ 1 → 0 < length (request.recording true bytes).stretches
    → (a b n : ℕ) → 0 < n → a ≤ b
    → SetHolds (zones_told online.accounts) a b n ↔ SetHolds offline.zones a b n
both_ways request bytes front text second online offline one long =
    one_way request.patterns online.traces offline.right.traces online.accounts offline.zones
    one online.told.of_patterns online.told.over_traces
    (offline.right.are.are ∙ sym online.are.are)
    (recursion_from_All IsTranscript online.accounts online.told.told)
    (recursion_from_All IsClosing online.accounts online.closed)
    (subst (λ list. AllByRecursion (λ trace. 0 < length trace.segments) list)
    (sym online.are.are) (traces_long (request.recording true bytes) request.patterns long))
    offline.right.found.exact
