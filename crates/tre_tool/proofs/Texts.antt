-- What the texts of a job spell, and how they are refused: each text in one way at most.
use Rattle.std.proofs.Common.{◌≡◌, ◌≢◌, ℕ, List, [], ◌∷◌, Option, None, Some, refl, sym, ◌∙◌, subst, inl, inr, ⊎_elim, ap, ◌⊎◌}
use Rattle.std.specs.Option.{MatchOption}
use Rattle.tre_define.specs.Signals.{SignalDefined}
use Rattle.tre_define.specs.Texts.{parts_of}
use Rattle.tre_define.specs.declared.let_fault.LetFault.{LetFault}
use Rattle.tre_num.specs.Defined.{Defined}
use Rattle.tre_parse.specs.Outcome.{IsOutcome, spelt, refused}
use Rattle.tre_parse.specs.declared.fault.ParseFault.{ParseFault}
use Rattle.tre_parse.specs.declared.fault.ParseFault.TheVariants.{TooLong, BadByte, Number, TooDeep, Syntax, EmptyInterval, TooManyNames, TooLarge, Memory as ParseMemory}
use Rattle.tre_parse.proofs.Outcomes.{outcome_once}
use Rattle.tre_syntax.specs.Pattern.{pattern_tree, names_of}
use Rattle.tre_syntax.specs.PatternTree.{PatternTree}
use Rattle.tre_syntax.specs.declared.pattern.Pattern.{Pattern}
use Rattle.tre_tell.specs.Sought.{Sought}
use Rattle.tre_trace.specs.Reading.{Vocabulary}
use Rattle.tre_words.specs.declared.job.Job.{Job}
use Rattle.tre_words.specs.declared.job.Format.{Format}
use Rattle.tre_tool.specs.Parts.{plain_sought, patterns_with}
use Rattle.tre_tool.specs.Request.{Spell, text_read, texts_with, AreDefinedIn, AreDefinitions, AreRefusedIn, IsRefusedMinus, IsRefusedText, AreRefusedDefinitions, IsRefusalOf}
use Rattle.tre_tool.specs.Status.{parse_status, minus_status}
use Rattle.tre_tool.proofs.Definings.{defined_in_once, defined_in_or_refused, refused_in_once}
use Rattle.tre_tool.specs.declared.status.Status.{Status}
use Rattle.tre_tool.specs.declared.status.Status.TheVariants.{Done, Usage, Expression, Minus, Definitions, Watch, Trace, InputTooLong, TooManyZones, ReadFault, WriteFault, Failed, Memory}

-- a text spells one pattern
sought_of : List ℕ → PatternTree → Vocabulary → Sought
sought_of label tree names = record { label = label; tree = tree; names = names }

spelt_once : (scale : ℕ) (text : List ℕ) (one other : Sought) → one.label ≡ [] → other.label ≡ []
    → IsOutcome scale text (spelt one.tree one.names)
    → IsOutcome scale text (spelt other.tree other.names) → one ≡ other
unfolding sought_of
spelt_once scale text one other none none' is is' =
    let same = outcome_once scale text (spelt one.tree one.names)
    (spelt other.tree other.names) is is' in
    let same_tree : one.tree ≡ other.tree = cc in
    let same_names : one.names ≡ other.names = cc in
    ap (λ l. sought_of l one.tree one.names) (none ∙ sym none')
    ∙ (ap (λ t. sought_of other.label t one.names) same_tree
    ∙ ap (λ n. sought_of other.label other.tree n) same_names)

-- texts spell one list of patterns
pub spell_once : (scale : ℕ) (texts : List (List ℕ)) (some others : List Sought)
    → Spell scale texts some → Spell scale texts others → some ≡ others
spell_once scale [] [] [] so so' = refl
spell_once scale (text ∷ texts) (one ∷ some) (other ∷ others) so so' =
    let first : one ≡ other = spelt_once scale text one other so.0 so'.0 so.1 so'.1 in
    let rest : some ≡ others = spell_once scale texts some others so.2 so'.2 in
    cc
spell_once scale [] (one ∷ some) others so so' = absurd so
spell_once scale [] [] (other ∷ others) so so' = absurd so'
spell_once scale (text ∷ texts) [] others so so' = absurd so
spell_once scale (text ∷ texts) (one ∷ some) [] so so' = absurd so'

-- A text of definitions is these, and where there is none there are none.
abbrev AreDefinedBy : Format → Option (List ℕ) → List Defined → List SignalDefined → Type 0
AreDefinedBy format text lets signals = MatchOption text ((lets ≡ []) × (signals ≡ []))
    (λ text. AreDefinedIn format (parts_of text) lets signals)

-- a text is one list of definitions
defined_once : (format : Format) (text : Option (List ℕ)) (lets lets' : List Defined)
    (signals signals' : List SignalDefined) → AreDefinedBy format text lets signals
    → AreDefinedBy format text lets' signals' → (lets ≡ lets') × (signals ≡ signals')
defined_once format None lets lets' signals signals' so so' =
    (so.0 ∙ sym so'.0, so.1 ∙ sym so'.1)
defined_once format (Some text) lets lets' signals signals' so so' =
    defined_in_once format (parts_of text) lets lets' signals signals' so so'

pub definitions_once : (job : Job) (lets lets' : List Defined) (signals signals' : List SignalDefined)
    → AreDefinitions job lets signals → AreDefinitions job lets' signals'
    → (lets ≡ lets') × (signals ≡ signals')
definitions_once job lets lets' signals signals' so so' =
    defined_once job.format (text_read job.mode job.lets) lets lets' signals signals' so so'

-- ---- refusals

-- the first of the texts, from what `parse` answers
pub Spell-read : (job : Job) (pattern : Pattern) (read : List ℕ) → read ≡ job.expr
    → IsOutcome job.scale read (spelt (pattern_tree pattern) (names_of pattern))
    → Spell job.scale (job.expr ∷ []) (plain_sought pattern ∷ [])
Spell-read job pattern read same is = (
  refl,
  subst (λ t. IsOutcome job.scale t (spelt (pattern_tree pattern) (names_of pattern))) same is,
  tt,
)

-- the two texts of a job, from what `parse` answers to the second
pub Spell-taken : (job : Job) (pattern taken : Pattern) (text read : List ℕ)
    → job.minus ≡ Some text → read ≡ text
    → IsOutcome job.scale read (spelt (pattern_tree taken) (names_of taken))
    → Spell job.scale (job.expr ∷ []) (plain_sought pattern ∷ [])
    → Spell job.scale (texts_with job.expr job.minus) (patterns_with pattern (Some taken))
Spell-taken job pattern taken text read given same is first =
    rw given (
      first.0,
      first.1,
      (
        refl,
        subst (λ t. IsOutcome job.scale t (spelt (pattern_tree taken) (names_of taken))) same is,
        tt,
      ),
    )

-- a text is refused, from what `parse` answers to it
refused_by : (scale : ℕ) (text read : List ℕ) (fault : ParseFault) → read ≡ text
    → (fault ≡ ParseMemory) ⊎ IsOutcome scale read (refused fault) → fault ≢ ParseMemory
    → IsOutcome scale text (refused fault)
refused_by scale text read fault same either never =
    subst (λ t. IsOutcome scale t (refused fault)) same
    (⊎_elim (λ memory. absurd (never memory)) (λ told. told) either)

-- memory was wanting, or the fault of the first text is told
parse_faults : (fault : ParseFault)
    → (fault ≡ ParseMemory) ⊎ ((fault ≢ ParseMemory) × (parse_status fault ≡ Expression fault))
parse_faults ParseMemory = inl refl
parse_faults TooLong = inr (λ e. cc, refl)
parse_faults (BadByte at) = inr (λ e. cc, refl)
parse_faults (Number at) = inr (λ e. cc, refl)
parse_faults (TooDeep at) = inr (λ e. cc, refl)
parse_faults (Syntax at) = inr (λ e. cc, refl)
parse_faults (EmptyInterval at) = inr (λ e. cc, refl)
parse_faults (TooManyNames at) = inr (λ e. cc, refl)
parse_faults (TooLarge nodes) = inr (λ e. cc, refl)

-- the refusal of the first text
pub IsRefusalOf-first : (job : Job) (read : List ℕ) (fault : ParseFault) → read ≡ job.expr
    → (fault ≡ ParseMemory) ⊎ IsOutcome job.scale read (refused fault)
    → parse_status fault ≢ Memory → IsRefusalOf job (parse_status fault)
IsRefusalOf-first job read fault same either never = elim (parse_faults fault) [
  | inl memory ↦ absurd (never (rw memory refl))
  | inr other ↦ rw other.1 (refused_by job.scale job.expr read fault same either other.0)
]

-- memory was wanting, or the fault of the second text is told
minus_faults : (fault : ParseFault)
    → (fault ≡ ParseMemory) ⊎ ((fault ≢ ParseMemory) × (minus_status fault ≡ Minus fault))
minus_faults ParseMemory = inl refl
minus_faults TooLong = inr (λ e. cc, refl)
minus_faults (BadByte at) = inr (λ e. cc, refl)
minus_faults (Number at) = inr (λ e. cc, refl)
minus_faults (TooDeep at) = inr (λ e. cc, refl)
minus_faults (Syntax at) = inr (λ e. cc, refl)
minus_faults (EmptyInterval at) = inr (λ e. cc, refl)
minus_faults (TooManyNames at) = inr (λ e. cc, refl)
minus_faults (TooLarge nodes) = inr (λ e. cc, refl)

-- the refusal of the second text, from what `parse` answers to it
pub IsRefusalOf-taken : (job : Job) (text read : List ℕ) (fault : ParseFault)
    → job.minus ≡ Some text → read ≡ text
    → (fault ≡ ParseMemory) ⊎ IsOutcome job.scale read (refused fault)
    → minus_status fault ≢ Memory → (patterns : List Sought)
    → Spell job.scale (job.expr ∷ []) patterns → IsRefusalOf job (minus_status fault)
IsRefusalOf-taken job text read fault given same either never patterns first =
    elim (minus_faults fault) [
      | inl memory ↦ absurd (never (rw memory refl))
      | inr other ↦ rw other.1 (record {
        patterns = patterns;
        spelt = first;
        text = text;
        given = given;
        refuses = refused_by job.scale text read fault same either other.0;
      })
    ]

-- a text that spells a pattern isn't refused
text_or_refused : (scale : ℕ) (text : List ℕ) (fault : ParseFault) (pattern : Sought)
    → IsOutcome scale text (refused fault)
    → IsOutcome scale text (spelt pattern.tree pattern.names) → ⊥
text_or_refused scale text fault pattern told so =
    let wrong = outcome_once scale text (refused fault) (spelt pattern.tree pattern.names)
    told so in
    cc

-- the first of the texts spells a pattern, where all do
first_or_refused : (scale : ℕ) (text : List ℕ) (fault : ParseFault) (texts : List (List ℕ))
    (patterns : List Sought) → IsOutcome scale text (refused fault)
    → Spell scale (text ∷ texts) patterns → ⊥
first_or_refused scale text fault texts (pattern ∷ patterns) told so =
    text_or_refused scale text fault pattern told so.1
first_or_refused scale text fault texts [] told so = absurd so

-- and so does the second
second_or_refused : (scale : ℕ) (first text : List ℕ) (fault : ParseFault)
    (patterns : List Sought) → IsOutcome scale text (refused fault)
    → Spell scale (first ∷ text ∷ []) patterns → ⊥
second_or_refused scale first text fault (pattern ∷ other ∷ patterns) told so =
    text_or_refused scale text fault other told so.2.1
second_or_refused scale first text fault (pattern ∷ []) told so = absurd so.2
second_or_refused scale first text fault [] told so = absurd so

all_or_first : (scale : ℕ) (text : List ℕ) (taken : Option (List ℕ)) (fault : ParseFault)
    (patterns : List Sought) → IsOutcome scale text (refused fault)
    → Spell scale (texts_with text taken) patterns → ⊥
all_or_first scale text None fault patterns told so =
    first_or_refused scale text fault [] patterns told so
all_or_first scale text (Some taken) fault patterns told so =
    first_or_refused scale text fault (taken ∷ []) patterns told so

all_or_second : (job : Job) (fault : ParseFault) (patterns : List Sought)
    → IsRefusedMinus job fault
    → Spell job.scale (texts_with job.expr job.minus) patterns → ⊥
all_or_second job fault patterns told so =
    second_or_refused job.scale job.expr told.text fault patterns told.refuses
    (subst (λ taken. Spell job.scale (texts_with job.expr taken) patterns) told.given so)

-- definitions that are refused are none
pub defined_or_refused : (job : Job) (fault : LetFault) (lets : List Defined)
    (signals : List SignalDefined) → IsRefusedText job fault → AreDefinitions job lets signals → ⊥
defined_or_refused job fault lets signals told so =
    defined_in_or_refused job.format (parts_of told.text) lets signals fault
    (subst (λ text. AreDefinedBy job.format text lets signals) told.given so) told.refuses

-- a text is refused in one way
fault_once : (scale : ℕ) (text : List ℕ) (one other : ParseFault)
    → IsOutcome scale text (refused one) → IsOutcome scale text (refused other) → one ≡ other
fault_once scale text one other told told' =
    let same = outcome_once scale text (refused one) (refused other) told told' in
    cc

given_once : {X : Type 0} {x y : X} (o : Option X) → o ≡ Some x → o ≡ Some y → x ≡ y
given_once o e f = cc

minus_once : (job : Job) (one other : ParseFault) → IsRefusedMinus job one
    → IsRefusedMinus job other → one ≡ other
minus_once job one other told told' =
    fault_once job.scale told'.text one other
    (subst (λ text. IsOutcome job.scale text (refused one))
    (given_once job.minus told.given told'.given) told.refuses) told'.refuses

pub lets_once : (job : Job) (one other : LetFault) → IsRefusedText job one
    → IsRefusedText job other → one ≡ other
lets_once job one other told told' =
    refused_in_once job.format (parts_of told'.text) one other
    (subst (λ text. AreRefusedIn job.format (parts_of text) one)
    (given_once (text_read job.mode job.lets) told.given told'.given) told.refuses) told'.refuses

-- What a refusal is of.
data Refuses (job : Job) (refusal : Status) : Type 0 where
  of_expression : (fault : ParseFault) → refusal ≡ Expression fault
      → IsOutcome job.scale job.expr (refused fault) → Refuses job refusal
  of_minus : (fault : ParseFault) → refusal ≡ Minus fault → IsRefusedMinus job fault
      → Refuses job refusal
  of_definitions : (fault : LetFault) → refusal ≡ Definitions fault
      → AreRefusedDefinitions (Spell job.scale (texts_with job.expr job.minus)) job fault
      → Refuses job refusal

refuses_of : (job : Job) (refusal : Status) → IsRefusalOf job refusal → Refuses job refusal
refuses_of job (Expression fault) is = of_expression fault refl is
refuses_of job (Minus fault) is = of_minus fault refl is
refuses_of job (Definitions fault) is = of_definitions fault refl is
refuses_of job Done is = absurd is
refuses_of job Usage is = absurd is
refuses_of job (Trace fault) is = absurd is
refuses_of job InputTooLong is = absurd is
refuses_of job (TooManyZones zones) is = absurd is
refuses_of job ReadFault is = absurd is
refuses_of job WriteFault is = absurd is
refuses_of job (Failed checks) is = absurd is
refuses_of job Memory is = absurd is
refuses_of job (Watch fault) is = absurd is

both_refuse : (job : Job) (one other : Status) → Refuses job one → Refuses job other → one ≡ other
both_refuse job one other (of_expression fault is told) (of_expression fault' is' told') =
    is ∙ (ap Expression (fault_once job.scale job.expr fault fault' told told') ∙ sym is')
both_refuse job one other (of_minus fault is told) (of_minus fault' is' told') =
    is ∙ (ap Minus (minus_once job fault fault' told told') ∙ sym is')
both_refuse job one other (of_definitions fault is told) (of_definitions fault' is' told') =
    is ∙ (ap Definitions (lets_once job fault fault' told.refused told'.refused) ∙ sym is')
both_refuse job one other (of_expression fault is told) (of_minus fault' is' told') = absurd
    (first_or_refused job.scale job.expr fault [] told'.patterns told told'.spelt)
both_refuse job one other (of_minus fault is told) (of_expression fault' is' told') = absurd
    (first_or_refused job.scale job.expr fault' [] told.patterns told' told.spelt)
both_refuse job one other (of_expression fault is told) (of_definitions fault' is' told') = absurd
    (all_or_first job.scale job.expr job.minus fault told'.patterns told told'.sought)
both_refuse job one other (of_definitions fault is told) (of_expression fault' is' told') = absurd
    (all_or_first job.scale job.expr job.minus fault' told.patterns told' told.sought)
both_refuse job one other (of_minus fault is told) (of_definitions fault' is' told') = absurd
    (all_or_second job fault told'.patterns told told'.sought)
both_refuse job one other (of_definitions fault is told) (of_minus fault' is' told') = absurd
    (all_or_second job fault' told.patterns told' told.sought)

-- what a job gives is refused in one way
pub text_refusal_once : (job : Job) (one other : Status) → IsRefusalOf job one
    → IsRefusalOf job other → one ≡ other
text_refusal_once job one other is is' =
    both_refuse job one other (refuses_of job one is) (refuses_of job other is')

or_refused : (job : Job) (refusal : Status) (patterns : List Sought) (lets : List Defined)
    (signals : List SignalDefined) → Refuses job refusal
    → Spell job.scale (texts_with job.expr job.minus) patterns
    → AreDefinitions job lets signals → ⊥
or_refused job refusal patterns lets signals (of_expression fault is told) so defined =
    all_or_first job.scale job.expr job.minus fault patterns told so
or_refused job refusal patterns lets signals (of_minus fault is told) so defined =
    all_or_second job fault patterns told so
or_refused job refusal patterns lets signals (of_definitions fault is told) so defined =
    defined_or_refused job fault lets signals told.refused defined

-- what a job gives isn't both refused and there
pub texts_or_refused : (job : Job) (refusal : Status) (patterns : List Sought)
    (lets : List Defined) (signals : List SignalDefined) → IsRefusalOf job refusal
    → Spell job.scale (texts_with job.expr job.minus) patterns
    → AreDefinitions job lets signals → ⊥
texts_or_refused job refusal patterns lets signals is so defined =
    or_refused job refusal patterns lets signals (refuses_of job refusal is) so defined
