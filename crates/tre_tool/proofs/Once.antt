-- What words and a file of checks ask for is one thing. `Says` and `Tells` are two ways to say what
-- is so of the file's bytes, and `same` that they say it of the same bytes.
use Rattle.std.proofs.Common.{◌≡◌, ℕ, Bool, List, ◌++◌, codes, map, refl, sym, ◌∙◌, subst, ⊎_elim, ap}
use Rattle.tre_answer.specs.Recorded.{recording_in}
use Rattle.tre_define.specs.Signals.{SignalDefined}
use Rattle.tre_define.specs.declared.let_fault.LetFault.{LetFault}
use Rattle.tre_num.specs.Defined.{Defined}
use Rattle.tre_tell.specs.Request.{Request}
use Rattle.tre_tell.specs.Sought.{Sought}
use Rattle.tre_trace.specs.Reading.{Recording}
use Rattle.tre_watch.specs.Outcome.{Kind, Outcome, SpeltChecks, IsOutcome, faulty, judged, planned, watched}
use Rattle.tre_watch.specs.declared.fault.WatchFault.{WatchFault}
use Rattle.tre_watch.specs.declared.form.Form.{Form}
use Rattle.tre_watch.proofs.Outcomes.{one_outcome}
use Rattle.tre_words.specs.declared.job.Job.{Job}
use Rattle.tre_words.specs.declared.job.Mode.{Mode}
use Rattle.tre_words.specs.declared.job.Mode.TheVariants.{Offline, Online, Show, Generate, Watch as WatchMode, Check}
use Rattle.tre_tool.specs.Checks.{Saying, SayChecks, SayFault, SayPatterns, columns_in, labelled, names_each, signals_in}
use Rattle.tre_tool.specs.Request.{texts_with, ArePatterns, AreDefinitions, AreRefusedDefinitions, AsksPlainly, AsksVerdicts, IsAsked, IsRefusedFile, IsRefusedText, IsRefusalOfChecks, IsRefusalOfWatch, IsRefusalIn, AsksFor, JobIsRefused, AsksForNothing, known_by}
use Rattle.tre_tool.specs.declared.status.Status.{Status}
use Rattle.tre_tool.specs.declared.status.Status.TheVariants.{Done, Usage, Expression, Minus, Definitions, Watch, Trace, InputTooLong, TooManyZones, ReadFault, WriteFault, Failed, Memory}
use Rattle.tre_tool.proofs.Texts.{spell_once, definitions_once, defined_or_refused, lets_once, texts_or_refused, text_refusal_once}

-- ---- files of checks

-- Two ways to say what is so of the file's bytes agree: they say it of the same bytes.
abbrev pub Agree : Saying → Saying → Type 1
Agree Says Tells = (IsSo IsAlso : List ℕ → Type 0) → Says IsSo → Tells IsAlso
    → (bytes : List ℕ) × IsSo bytes × IsAlso bytes

-- the patterns of checks behind their labels, in a watch, and where they are judged
abbrev watched_patterns : SpeltChecks → List Sought
watched_patterns checks =
    labelled (map (λ name. name ++ codes " ") (names_each checks.names checks.forms))
    checks.patterns

abbrev judged_patterns : SpeltChecks → List Sought
judged_patterns checks = labelled (names_each checks.names checks.forms) checks.patterns

-- Patterns, forms and definitions are the same.
record AreSame (some others : List Sought) (forms forms' : List Form)
    (lets lets' : List Defined) (signals signals' : List SignalDefined) : Type 0 where
  of_patterns : some ≡ others
  of_forms : forms ≡ forms'
  of_lets : lets ≡ lets'
  of_signals : signals ≡ signals'

-- What a refusal of a watch is of: its file, or its definitions.
data RefusesWatch (Says : Saying) (job : Job) (refusal : Status) : Type 0 where
  of_file : (fault : WatchFault) → refusal ≡ Watch fault → SayFault Says watched job.scale fault
      → RefusesWatch Says job refusal
  of_definitions : (fault : LetFault) → refusal ≡ Definitions fault
      → AreRefusedDefinitions (SayPatterns Says job.scale) job fault
      → RefusesWatch Says job refusal

refuses_watch_of : (Says : Saying) (job : Job) (refusal : Status)
    → IsRefusalOfWatch Says job refusal → RefusesWatch Says job refusal
refuses_watch_of Says job (Watch fault) is = of_file fault refl is
refuses_watch_of Says job (Definitions fault) is = of_definitions fault refl is
refuses_watch_of Says job (Expression fault) is = absurd is
refuses_watch_of Says job (Minus fault) is = absurd is
refuses_watch_of Says job Done is = absurd is
refuses_watch_of Says job Usage is = absurd is
refuses_watch_of Says job (Trace fault) is = absurd is
refuses_watch_of Says job InputTooLong is = absurd is
refuses_watch_of Says job (TooManyZones zones) is = absurd is
refuses_watch_of Says job ReadFault is = absurd is
refuses_watch_of Says job WriteFault is = absurd is
refuses_watch_of Says job (Failed checks) is = absurd is
refuses_watch_of Says job Memory is = absurd is

-- What a refusal of checks that are judged is of: the definitions of the words, or the file.
data RefusesChecks (Says : Saying) (job : Job) (refusal : Status) : Type 0 where
  of_words : (fault : LetFault) → refusal ≡ Definitions fault → IsRefusedText job fault
      → RefusesChecks Says job refusal
  of_checks : (fault : WatchFault) → refusal ≡ Watch fault → IsRefusedFile Says job fault
      → RefusesChecks Says job refusal

refuses_checks_of : (Says : Saying) (job : Job) (refusal : Status)
    → IsRefusalOfChecks Says job refusal → RefusesChecks Says job refusal
refuses_checks_of Says job (Watch fault) is = of_checks fault refl is
refuses_checks_of Says job (Definitions fault) is = of_words fault refl is
refuses_checks_of Says job (Expression fault) is = absurd is
refuses_checks_of Says job (Minus fault) is = absurd is
refuses_checks_of Says job Done is = absurd is
refuses_checks_of Says job Usage is = absurd is
refuses_checks_of Says job (Trace fault) is = absurd is
refuses_checks_of Says job InputTooLong is = absurd is
refuses_checks_of Says job (TooManyZones zones) is = absurd is
refuses_checks_of Says job ReadFault is = absurd is
refuses_checks_of Says job WriteFault is = absurd is
refuses_checks_of Says job (Failed checks) is = absurd is
refuses_checks_of Says job Memory is = absurd is

-- what words define is known in one way
known_once : (job : Job) (lets lets' : List Defined) (parts parts' : List SignalDefined)
    → AreDefinitions job lets parts → AreDefinitions job lets' parts'
    → known_by job.format lets parts ≡ known_by job.format lets' parts'
known_once job lets lets' parts parts' defined defined' =
    let both = definitions_once job lets lets' parts parts' defined defined' in
    ap (λ l. known_by job.format l parts) both.0 ∙ ap (λ p. known_by job.format lets' p) both.1

module _ (Says Tells : Saying) (same : Agree Says Tells) where
  -- the file comes to one thing
  outcome_same : (kind kind' : Kind) (scale : ℕ) (one other : Outcome) → kind ≡ kind'
      → Says (λ bytes. IsOutcome kind scale bytes one)
      → Tells (λ bytes. IsOutcome kind' scale bytes other) → one ≡ other
  outcome_same kind kind' scale one other kinds says tells =
      let both = same (λ bytes. IsOutcome kind scale bytes one)
      (λ bytes. IsOutcome kind' scale bytes other) says tells in
      one_outcome kind' scale both.0 one other
      (subst (λ k. IsOutcome k scale both.0 one) kinds both.1) both.2

  checks_same : (kind kind' : Kind) (scale : ℕ) (checks checks' : SpeltChecks) → kind ≡ kind'
      → SayChecks Says kind scale checks → SayChecks Tells kind' scale checks' → checks ≡ checks'
  checks_same kind kind' scale checks checks' kinds says tells =
      let one = outcome_same kind kind' scale (planned checks) (planned checks') kinds says tells in
      cc

  faults_same : (kind kind' : Kind) (scale : ℕ) (fault fault' : WatchFault) → kind ≡ kind'
      → SayFault Says kind scale fault → SayFault Tells kind' scale fault' → fault ≡ fault'
  faults_same kind kind' scale fault fault' kinds says tells =
      let one = outcome_same kind kind' scale (faulty fault) (faulty fault') kinds says tells in
      cc

  checks_or_fault : (kind kind' : Kind) (scale : ℕ) (checks : SpeltChecks) (fault : WatchFault)
      → kind ≡ kind' → SayChecks Says kind scale checks → SayFault Tells kind' scale fault → ⊥
  checks_or_fault kind kind' scale checks fault kinds says tells =
      let one = outcome_same kind kind' scale (planned checks) (faulty fault) kinds says tells in
      cc

  fault_or_checks : (kind kind' : Kind) (scale : ℕ) (fault : WatchFault) (checks : SpeltChecks)
      → kind ≡ kind' → SayFault Says kind scale fault → SayChecks Tells kind' scale checks → ⊥
  fault_or_checks kind kind' scale fault checks kinds says tells =
      let one = outcome_same kind kind' scale (faulty fault) (planned checks) kinds says tells in
      cc

  -- ---- a watch

  -- its file says one list of patterns
  say_once : (scale : ℕ) (some others : List Sought) → SayPatterns Says scale some
      → SayPatterns Tells scale others → some ≡ others
  say_once scale some others so so' =
      so.are
      ∙ (ap watched_patterns
      (checks_same watched watched scale so.checks so'.checks refl so.says so'.says) ∙ sym so'.are)

  -- it asks for something or is refused
  watch_or_refused : (job : Job) (refusal : Status) (patterns : List Sought)
      (lets : List Defined) (signals : List SignalDefined) → SayPatterns Says job.scale patterns
      → AreDefinitions job lets signals → RefusesWatch Tells job refusal → ⊥
  watch_or_refused job refusal patterns lets signals so defined (of_file fault is told) =
      checks_or_fault watched watched job.scale so.checks fault refl so.says told
  watch_or_refused job refusal patterns lets signals so defined (of_definitions fault is told) =
      defined_or_refused job fault lets signals told.refused defined

  -- in one way
  watch_refusal_once : (job : Job) (one other : Status) → RefusesWatch Says job one
      → RefusesWatch Tells job other → one ≡ other
  watch_refusal_once job one other (of_file fault is told) (of_file fault' is' told') =
      is ∙ (ap Watch (faults_same watched watched job.scale fault fault' refl told told') ∙ sym is')
  watch_refusal_once job one other (of_definitions fault is told)
      (of_definitions fault' is' told') =
      is ∙ (ap Definitions (lets_once job fault fault' told.refused told'.refused) ∙ sym is')
  watch_refusal_once job one other (of_file fault is told) (of_definitions fault' is' told') =
      absurd (fault_or_checks watched watched job.scale fault told'.sought.checks refl told
      told'.sought.says)
  watch_refusal_once job one other (of_definitions fault is told) (of_file fault' is' told') =
      absurd (checks_or_fault watched watched job.scale told.sought.checks fault' refl
      told.sought.says told')

  -- ---- checks that are judged

  -- they ask for something or are refused
  checks_or_refused : (job : Job) (refusal : Status) (patterns : List Sought)
      (forms : List Form) (lets : List Defined) (signals : List SignalDefined)
      → AsksVerdicts Says job patterns forms lets signals → RefusesChecks Tells job refusal → ⊥
  checks_or_refused job refusal patterns forms lets signals asks (of_words fault is told) =
      defined_or_refused job fault asks.columns asks.parts told asks.definitions
  checks_or_refused job refusal patterns forms lets signals asks (of_checks fault is told) =
      checks_or_fault (judged (known_by job.format asks.columns asks.parts))
      (judged (known_by job.format told.columns told.parts)) job.scale asks.verdicts.checks fault
      (ap judged (known_once job asks.columns told.columns asks.parts told.parts asks.definitions
      told.definitions)) asks.verdicts.says told.refuses

  -- in one way
  checks_refusal_once : (job : Job) (one other : Status) → RefusesChecks Says job one
      → RefusesChecks Tells job other → one ≡ other
  checks_refusal_once job one other (of_words fault is told) (of_words fault' is' told') =
      is ∙ (ap Definitions (lets_once job fault fault' told told') ∙ sym is')
  checks_refusal_once job one other (of_checks fault is told) (of_checks fault' is' told') =
      is
      ∙ (ap Watch (faults_same (judged (known_by job.format told.columns told.parts))
      (judged (known_by job.format told'.columns told'.parts)) job.scale fault fault'
      (ap judged (known_once job told.columns told'.columns told.parts told'.parts
      told.definitions told'.definitions)) told.refuses told'.refuses) ∙ sym is')
  checks_refusal_once job one other (of_words fault is told) (of_checks fault' is' told') =
      absurd (defined_or_refused job fault told'.columns told'.parts told told'.definitions)
  checks_refusal_once job one other (of_checks fault is told) (of_words fault' is' told') =
      absurd (defined_or_refused job fault' told.columns told.parts told' told.definitions)

  -- ---- jobs

  -- Two lists of patterns, forms and definitions are one.
  plainly_once : (mode : Mode) (job : Job) (some others : List Sought) (forms forms' : List Form)
      (lets lets' : List Defined) (signals signals' : List SignalDefined)
      → ((some others : List Sought) → ArePatterns mode Says job some
      → ArePatterns mode Tells job others → some ≡ others)
      → AsksPlainly (ArePatterns mode Says) job some forms lets signals
      → AsksPlainly (ArePatterns mode Tells) job others forms' lets' signals'
      → AreSame some others forms forms' lets lets' signals signals'
  plainly_once mode job some others forms forms' lets lets' signals signals' once asks asks' =
      let defined = definitions_once job lets lets' signals signals' asks.definitions
      asks'.definitions in
      record {
        of_patterns = once some others asks.are asks'.are;
        of_forms = asks.formless ∙ sym asks'.formless;
        of_lets = defined.0;
        of_signals = defined.1;
      }

  verdicts_once : (job : Job) (some others : List Sought) (forms forms' : List Form)
      (lets lets' : List Defined) (signals signals' : List SignalDefined)
      → AsksVerdicts Says job some forms lets signals
      → AsksVerdicts Tells job others forms' lets' signals'
      → AreSame some others forms forms' lets lets' signals signals'
  verdicts_once job some others forms forms' lets lets' signals signals' asks asks' =
      let one = asks.verdicts in
      let other = asks'.verdicts in
      let checks : one.checks ≡ other.checks =
      checks_same (judged (known_by job.format asks.columns asks.parts))
      (judged (known_by job.format asks'.columns asks'.parts)) job.scale one.checks other.checks
      (ap judged (known_once job asks.columns asks'.columns asks.parts asks'.parts
      asks.definitions asks'.definitions)) one.says other.says in
      record {
        of_patterns = one.are ∙ (ap judged_patterns checks ∙ sym other.are);
        of_forms = one.formed ∙ (ap (λ (c : SpeltChecks). c.forms) checks ∙ sym other.formed);
        of_lets = one.by_columns
            ∙ (ap (λ (c : SpeltChecks). columns_in c.known) checks ∙ sym other.by_columns);
        of_signals = one.by_signals
            ∙ (ap (λ (c : SpeltChecks). signals_in c.known) checks ∙ sym other.by_signals);
      }

  asked_once : (mode : Mode) (job : Job) (some others : List Sought) (forms forms' : List Form)
      (lets lets' : List Defined) (signals signals' : List SignalDefined)
      → IsAsked mode Says job some forms lets signals
      → IsAsked mode Tells job others forms' lets' signals'
      → AreSame some others forms forms' lets lets' signals signals'
  asked_once Offline job some others forms forms' lets lets' signals signals' asks asks' =
      plainly_once Offline job some others forms forms' lets lets' signals signals'
      (spell_once job.scale (texts_with job.expr job.minus)) asks asks'
  asked_once Online job some others forms forms' lets lets' signals signals' asks asks' =
      plainly_once Online job some others forms forms' lets lets' signals signals'
      (spell_once job.scale (texts_with job.expr job.minus)) asks asks'
  asked_once Show job some others forms forms' lets lets' signals signals' asks asks' =
      plainly_once Show job some others forms forms' lets lets' signals signals'
      (spell_once job.scale (texts_with job.expr job.minus)) asks asks'
  asked_once (Generate count) job some others forms forms' lets lets' signals signals' asks asks' =
      plainly_once (Generate count) job some others forms forms' lets lets' signals signals'
      (λ some others so so'. so ∙ sym so') asks asks'
  asked_once (WatchMode file) job some others forms forms' lets lets' signals signals' asks asks' =
      plainly_once (WatchMode file) job some others forms forms' lets lets' signals signals'
      (say_once job.scale) asks asks'
  asked_once (Check file) job some others forms forms' lets lets' signals signals' asks asks' =
      verdicts_once job some others forms forms' lets lets' signals signals' asks asks'

  asked_or_refused_in : (mode : Mode) (job : Job) (refusal : Status) (patterns : List Sought)
      (forms : List Form) (lets : List Defined) (signals : List SignalDefined)
      → IsAsked mode Says job patterns forms lets signals → IsRefusalIn mode Tells job refusal → ⊥
  asked_or_refused_in Offline job refusal patterns forms lets signals asks is =
      texts_or_refused job refusal patterns lets signals is asks.are asks.definitions
  asked_or_refused_in Online job refusal patterns forms lets signals asks is =
      texts_or_refused job refusal patterns lets signals is asks.are asks.definitions
  asked_or_refused_in Show job refusal patterns forms lets signals asks is =
      texts_or_refused job refusal patterns lets signals is asks.are asks.definitions
  asked_or_refused_in (Generate count) job refusal patterns forms lets signals asks is = absurd is
  asked_or_refused_in (WatchMode file) job refusal patterns forms lets signals asks is =
      watch_or_refused job refusal patterns lets signals asks.are asks.definitions
      (refuses_watch_of Tells job refusal is)
  asked_or_refused_in (Check file) job refusal patterns forms lets signals asks is =
      checks_or_refused job refusal patterns forms lets signals asks
      (refuses_checks_of Tells job refusal is)

  refusal_once : (mode : Mode) (job : Job) (one other : Status) → IsRefusalIn mode Says job one
      → IsRefusalIn mode Tells job other → one ≡ other
  refusal_once Offline job one other is is' = text_refusal_once job one other is is'
  refusal_once Online job one other is is' = text_refusal_once job one other is is'
  refusal_once Show job one other is is' = text_refusal_once job one other is is'
  refusal_once (Generate count) job one other is is' = absurd is
  refusal_once (WatchMode file) job one other is is' =
      watch_refusal_once job one other (refuses_watch_of Says job one is)
      (refuses_watch_of Tells job other is')
  refusal_once (Check file) job one other is is' =
      checks_refusal_once job one other (refuses_checks_of Says job one is)
      (refuses_checks_of Tells job other is')

-- ---- words

-- a request by its parts
request_of : Job → List Form → List Sought → (Bool → List ℕ → Recording) → Request
request_of job forms patterns recording =
    record { job = job; forms = forms; patterns = patterns; recording = recording }

-- what bytes say for a job, by the definitions of names
recorded_by : Job → List Sought → List Defined → List SignalDefined → Bool → List ℕ → Recording
recorded_by job patterns lets signals =
    recording_in job.format job.scale job.unit patterns lets signals

-- They give one job.
abbrev pub GiveOne : (Job → Type 0) → Type 0
GiveOne Gives = (job other : Job) → Gives job → Gives other → job ≡ other

module _ (Gives : Job → Type 0) (once : GiveOne Gives) (Says Tells : Saying)
    (same : Agree Says Tells) where
  same_asked : (one other : Request) (asks : AsksFor Gives Says one)
      (again : AsksFor Gives Tells other)
      → AreSame one.patterns other.patterns one.forms other.forms asks.lets again.lets asks.signals
      again.signals
  same_asked one other asks again =
      asked_once Says Tells same other.job.mode other.job one.patterns other.patterns one.forms
      other.forms asks.lets again.lets asks.signals again.signals
      (subst (λ (j : Job). IsAsked j.mode Says j one.patterns one.forms asks.lets asks.signals)
      (once one.job other.job asks.gives again.gives) asks.asks) again.asks

  -- their definitions are the same
  pub definitions_same : (one other : Request) (asks : AsksFor Gives Says one)
      (again : AsksFor Gives Tells other)
      → (asks.lets ≡ again.lets) × (asks.signals ≡ again.signals)
  definitions_same one other asks again =
      let so = same_asked one other asks again in
      (so.of_lets, so.of_signals)

  -- they ask for one thing
  pub request_once : (one other : Request) → AsksFor Gives Says one → AsksFor Gives Tells other
      → one ≡ other
  unfolding request_of recorded_by
  request_once one other asks again =
      let same_job = once one.job other.job asks.gives again.gives in
      let so = same_asked one other asks again in
      let same_recording : one.recording ≡ other.recording =
      asks.recorded
      ∙ (ap (λ j. recorded_by j one.patterns asks.lets asks.signals) same_job
      ∙ (ap (λ p. recorded_by other.job p asks.lets asks.signals) so.of_patterns
      ∙ (ap (λ l. recorded_by other.job other.patterns l asks.signals) so.of_lets
      ∙ (ap (λ s. recorded_by other.job other.patterns again.lets s) so.of_signals
      ∙ sym again.recorded)))) in
      ap (λ j. request_of j one.forms one.patterns one.recording) same_job
      ∙ (ap (λ f. request_of other.job f one.patterns one.recording) so.of_forms
      ∙ (ap (λ p. request_of other.job other.forms p one.recording) so.of_patterns
      ∙ ap (λ r. request_of other.job other.forms other.patterns r) same_recording))

  -- what is so of it
  pub the_request : (request other : Request) (IsSo : Request → Type 0)
      → AsksFor Gives Tells request → AsksFor Gives Says other → IsSo other → IsSo request
  the_request request other IsSo asks asks' so =
      subst IsSo (request_once other request asks' asks) so

  -- it isn't refused
  pub asked_or_refused : (request : Request) (refusal : Status) → AsksFor Gives Says request
      → JobIsRefused Gives Tells refusal → ⊥
  asked_or_refused request refusal asks told =
      let same_job = once told.job request.job told.gives asks.gives in
      asked_or_refused_in Says Tells same request.job.mode request.job refusal request.patterns
      request.forms asks.lets asks.signals asks.asks
      (subst (λ (j : Job). IsRefusalIn j.mode Tells j refusal) same_job told.refuses)

  -- they are refused in one way
  pub refused_once : (refusal other : Status) → JobIsRefused Gives Says refusal
      → JobIsRefused Gives Tells other → refusal ≡ other
  refused_once refusal other told told' =
      let same_job = once told.job told'.job told.gives told'.gives in
      refusal_once Says Tells same told'.job.mode told'.job refusal other
      (subst (λ (j : Job). IsRefusalIn j.mode Says j refusal) same_job told.refuses) told'.refuses

  -- they don't ask for nothing
  pub nothing_asked : (request : Request) → AsksFor Gives Says request
      → AsksForNothing Gives Tells → ⊥
  nothing_asked request asks nothing =
      ⊎_elim (λ none. none request.job asks.gives)
      (λ some. asked_or_refused request some.0 asks some.1) nothing
