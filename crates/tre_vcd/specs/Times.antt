-- A token that is no time says no segment, and one that is says its segment in the order of time.
use Rattle.std.proofs.Common.{◌≡◌, ℕ, ◌<◌, ◌≤◌, nat_lt, ◌==◌, ◌||◌, ◌&&◌, not, Bool, true, false, List, map, [], ◌∷◌, ◌++◌, length, codes, None, Option, Some, Result, Ok, Err, refl, sym, arith, subst, if◌then◌else◌}
use Rattle.std.proofs.lemmas.Bool.Decides.{nat_tests}
use Rattle.std.specs.List.{list_all, list_any}
use Rattle.std.specs.Option.{option_map_or}
use Rattle.std.specs.Str.{bytes_eq}
use Rattle.std.specs.Str.Parse.{digits_value}
use Rattle.tre_pairs.specs.declared.TheConstants.{TIME_MAX}
use Rattle.tre_decimal.specs.Decimal.{is_numeral}
use Rattle.tre_define.specs.Signals.{SignalDefined}
use Rattle.tre_parts.specs.Format.{Step, LeadsInTime, KeepsTime}
use Rattle.tre_trace.specs.declared.fault.TraceKind.{TraceKind}
use Rattle.tre_trace.specs.declared.fault.TraceKind.TheVariants.{TooLate, BadToken, BadScale, UnknownName, TooFine, TimeBack}
use Rattle.tre_trace.specs.Reading.{Vocabulary, Stretch, segment_for}
use Rattle.tre_vcd.specs.VcdReading.{is_command, is_dump, is_scalar, are_declared, is_defined, in_dump, scopes_at, Terms, has_tick, units_at, scalar, wide, Statement, scope, upscope, var, timescale, definitions, time, change, dump, dump_end, Open, nothing, section, comment, vector, number, Place, time_at, stretch_until, goes_to, is_end, is_whole, scope_says, section_says, command_says, time_says, ticks_say, keyword_says, scalar_says, vector_says, value_says, token_at, token_says, vcd_format}

-- No segment is said, and no other time is reached.
pub record StatesNoTime (past : List Statement) (said : Result (Step Place) TraceKind) : Type 0
  where
    pub silent : (step : Step Place) → said ≡ Ok step → (step.stretches ≡ []) × (time_at
        step.state.past ≡ time_at past)

silent-err : (past : List Statement) (kind : TraceKind) → StatesNoTime past (Err kind)
silent-err past kind = record { silent = λ step is. cc (is) }

silent-goes : (past now : List Statement) (inside : Open) → time_at now ≡ time_at past
    → StatesNoTime past (goes_to now inside)
silent-goes past now inside same = record {
  silent = λ step is.
      let e : record { stretches = []; state = record { past = now; inside = inside } } ≡ step =
      cc (is) in
      subst (λ (s : Step Place). (s.stretches ≡ []) × (time_at s.state.past ≡ time_at past)) e
      (refl, same);
}

silent-if : (past : List Statement) (test : Bool) (one two : Result (Step Place) TraceKind)
    → StatesNoTime past one → StatesNoTime past two → StatesNoTime past (if test then one else two)
silent-if past true one two silent other = silent
silent-if past false one two silent other = other

silent-scope : (past : List Statement) (tokens : List (List ℕ)) → StatesNoTime past
    (scope_says past tokens)
silent-scope past [] = silent-err past BadToken
silent-scope past (kind ∷ []) = silent-err past BadToken
silent-scope past (kind ∷ name ∷ tokens) = silent-goes past (scope name ∷ past) nothing refl

silent-section : (past : List Statement) (command : List ℕ) (tokens : List (List ℕ))
    → StatesNoTime past (section_says past command tokens)
silent-section past command tokens =
    silent-if past (bytes_eq command (codes "$scope")) _ _ (silent-scope past tokens)
    (silent-if past (bytes_eq command (codes "$upscope")) _ _
    (silent-goes past (upscope ∷ past) nothing refl)
    (silent-if past (bytes_eq command (codes "$var")) _ _
    (silent-if past (nat_lt (length tokens) 4) _ _
    (silent-err past BadToken) (silent-goes past (var tokens ∷ past) nothing refl))
    (silent-if past (bytes_eq command (codes "$timescale")) _ _
    (silent-goes past (timescale tokens ∷ past) nothing refl)
    (silent-if past (bytes_eq command (codes "$enddefinitions")) _ _
    (silent-goes past (definitions ∷ past) nothing refl) (silent-goes past past nothing refl)))))

pub silent-command : (terms : Terms) (past : List Statement) (token : List ℕ) → StatesNoTime past
    (command_says terms past token)
silent-command terms past token =
    silent-if past (not (is_command token) || is_end token || is_dump token) _ _
    (silent-err past BadToken)
    (silent-if past (bytes_eq token (codes "$upscope") && length (scopes_at past) == 0) _ _
    (silent-err past BadToken)
    (silent-if past
    (bytes_eq token (codes "$enddefinitions") && not (has_tick terms past)) _ _
    (silent-err past BadScale)
    (silent-if past
    (bytes_eq token (codes "$enddefinitions")
    && not (list_all (are_declared terms.definitions past) terms.declared))
    _ _ (silent-err past UnknownName) (silent-goes past past (section token []) refl))))

silent-keyword : (past : List Statement) (token : List ℕ) → StatesNoTime past (keyword_says past
    token)
silent-keyword past token =
    silent-if past (is_dump token) _ _ (silent-if past (in_dump past) _ _ (silent-err past BadToken)
    (silent-goes past (dump ∷ past) nothing refl))
    (silent-if past (is_end token) _ _ (silent-if past (in_dump past) _ _
    (silent-goes past (dump_end ∷ past) nothing refl) (silent-err past BadToken))
    (silent-if past (bytes_eq token (codes "$comment")) _ _ (silent-goes past past comment refl)
    (silent-err past BadToken)))

silent-scalar : (past : List Statement) (letter : ℕ) (identifier : List ℕ) → StatesNoTime past
    (scalar_says past letter identifier)
silent-scalar past letter [] = silent-err past BadToken
silent-scalar past letter (byte ∷ bytes) =
    silent-goes past (change scalar (byte ∷ bytes) (letter ∷ []) ∷ past) nothing refl

silent-vector : (past : List Statement) (value : List ℕ) → StatesNoTime past (vector_says past
    value)
silent-vector past [] = silent-err past BadToken
silent-vector past (byte ∷ bytes) = silent-goes past past (vector (byte ∷ bytes)) refl

-- a token where something is open
pub silent-open : (terms : Terms) (past : List Statement) (inside : Open)
    → is_whole inside ≡ false → (token : List ℕ)
    → StatesNoTime past (token_at terms past inside token)
silent-open terms past nothing is token = cc (is)
silent-open terms past (section command tokens) is token =
    silent-if past (is_end token) _ _ (silent-section past command tokens)
    (silent-goes past past (section command (tokens ++ token ∷ [])) refl)
silent-open terms past comment is token =
    silent-goes past past (if is_end token then nothing else comment) refl
silent-open terms past (vector letters) is token =
    silent-goes past (change wide token letters ∷ past) nothing refl
silent-open terms past number is token = silent-goes past past nothing refl

-- a token among the values that is no time
pub silent-value : (past : List Statement) (byte : ℕ) (bytes : List ℕ) → StatesNoTime past
    (if byte == 36 then keyword_says past (byte ∷ bytes)
    else (if byte == 98 || byte == 66 then vector_says past bytes
    else (if list_any (λ letter. byte == letter) (codes "rRsS") then goes_to past number
    else (if is_scalar byte then scalar_says past byte bytes else Err BadToken))))
silent-value past byte bytes =
    silent-if past (byte == 36) _ _ (silent-keyword past (byte ∷ bytes))
    (silent-if past (byte == 98 || byte == 66) _ _ (silent-vector past bytes)
    (silent-if past (list_any (λ letter. byte == letter) (codes "rRsS")) _ _
    (silent-goes past past number refl)
    (silent-if past (is_scalar byte) _ _ (silent-scalar past byte bytes)
    (silent-err past BadToken))))

-- ---- the order of time

-- what is said leads from the time of the past to the one after it
pub record KeepsOrder (past : List Statement) (said : Result (Step Place) TraceKind) : Type 0 where
  pub leads : (asked : Vocabulary) (step : Step Place) → said ≡ Ok step
      → LeadsInTime (time_at past) (map (segment_for asked) step.stretches) (time_at
      step.state.past)

keeps-silent : (past : List Statement) (said : Result (Step Place) TraceKind) → StatesNoTime past
    said
    → KeepsOrder past said
keeps-silent past said silent = record {
  leads = λ asked step is.
      let none = silent.silent step is in
      subst (λ (stretches : List Stretch). LeadsInTime (time_at past) (map (segment_for asked)
      stretches)
      (time_at step.state.past)) (sym none.0)
      (record { long = tt; ends = sym none.1; in_time = λ h. rw (none.1) h });
}

keeps-if : (past : List Statement) (test : Bool) (one two : Result (Step Place) TraceKind)
    → KeepsOrder past one → KeepsOrder past two → KeepsOrder past (if test then one else two)
keeps-if past true one two keeps other = keeps
keeps-if past false one two keeps other = other

keeps-later : (defined : List SignalDefined) (past : List Statement) (ticks : ℕ)
    → time_at past < ticks
    → ticks ≤ TIME_MAX
    → KeepsOrder past (Ok (record {
      stretches = stretch_until defined past ticks ∷ [];
      state = record { past = time ticks ∷ past; inside = nothing };
    }))
keeps-later defined past ticks later fits = record {
  leads = λ asked step is.
      let said : Step Place = record {
        stretches = stretch_until defined past ticks ∷ [];
        state = record { past = time ticks ∷ past; inside = nothing };
      } in
      let e : said ≡ step = cc (is) in
      subst (λ (s : Step Place). LeadsInTime (time_at past)
      (map (segment_for asked) s.stretches) (time_at s.state.past)) e
      (record { long = (omega arith, tt); ends = omega (arith, later); in_time = λ h. fits });
}

keeps-ticks : (defined : List SignalDefined) (past : List Statement) (ticks : ℕ)
    (back late same : Bool)
    → nat_lt ticks (time_at past) ≡ back → nat_lt TIME_MAX ticks ≡ late → (ticks == time_at past)
    ≡ same
    → KeepsOrder past
    (if back then Err TimeBack
    else (if late then Err TooLate
    else (if same then goes_to (time ticks ∷ past) nothing
    else Ok (record {
      stretches = stretch_until defined past ticks ∷ [];
      state = record { past = time ticks ∷ past; inside = nothing };
    }))))
keeps-ticks defined past ticks true late same e l s = keeps-silent past _ (silent-err past TimeBack)
keeps-ticks defined past ticks false true same e l s = keeps-silent past _ (silent-err past TooLate)
keeps-ticks defined past ticks false false true e l s =
    let same : ticks ≡ time_at past = grind (arith, nat_tests) in
    keeps-silent past _ (silent-goes past (time ticks ∷ past) nothing same)
keeps-ticks defined past ticks false false false e l s =
    let not_before : time_at past ≤ ticks = grind (arith, nat_tests) in
    let other : ¬ (ticks ≡ time_at past) = grind (arith, nat_tests) in
    let fits : ticks ≤ TIME_MAX = grind (arith, nat_tests) in
    keeps-later defined past ticks (omega (arith, not_before, other)) fits

keeps-units : (defined : List SignalDefined) (past : List Statement) (units : Option ℕ)
    → KeepsOrder past (option_map_or (time_says defined past) units (Err TooFine))
keeps-units defined past None = keeps-silent past _ (silent-err past TooFine)
keeps-units defined past (Some units) = keeps-ticks defined past units _ _ _ refl refl refl

keeps-number : (terms : Terms) (past : List Statement) (digits : List ℕ) → KeepsOrder past
    (ticks_say terms past digits)
keeps-number terms past digits =
    keeps-if past (is_numeral digits) _ _
    (keeps-units terms.definitions past (units_at terms past (digits_value 10 digits)))
    (keeps-silent past _ (silent-err past BadToken))

keeps-value : (terms : Terms) (past : List Statement) (token : List ℕ) → KeepsOrder past
    (value_says terms past token)
keeps-value terms past [] = keeps-silent past _ (silent-goes past past nothing refl)
keeps-value terms past (byte ∷ bytes) =
    keeps-if past (byte == 35) _ _ (keeps-number terms past bytes)
    (keeps-silent past _ (silent-value past byte bytes))

keeps-token : (terms : Terms) (past : List Statement) (inside : Open) (token : List ℕ)
    → KeepsOrder past (token_at terms past inside token)
keeps-token terms past nothing token = keeps-if past (is_defined past) _ _
    (keeps-value terms past token) (keeps-silent past _ (silent-command terms past token))
keeps-token terms past (section command tokens) token =
    keeps-silent past _ (silent-open terms past (section command tokens) refl token)
keeps-token terms past comment token =
    keeps-silent past _ (silent-open terms past comment refl token)
keeps-token terms past (vector letters) token =
    keeps-silent past _ (silent-open terms past (vector letters) refl token)
keeps-token terms past number token =
    keeps-silent past _ (silent-open terms past number refl token)

keeps-part : (terms : Terms) (place : Place) (part : List ℕ) → KeepsOrder place.past
    (token_says terms place part)
unfolding token_says
keeps-part terms place [] =
    keeps-silent place.past _ (silent-goes place.past place.past place.inside refl)
keeps-part terms place (byte ∷ bytes) = keeps-token terms place.past place.inside (byte ∷ bytes)

pub vcd-keeps_time : (terms : Terms) → KeepsTime (vcd_format terms)
vcd-keeps_time terms = record {
  begins = refl;
  leads = λ asked place part step is.
      (keeps-part terms place part).leads asked step is;
}
