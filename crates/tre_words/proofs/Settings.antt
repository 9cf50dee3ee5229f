-- One word in the walk of `clap` over the words.
use Rattle.std.proofs.Common.{◌≡◌, arith, ◌∙◌, inl, inr, ◌++◌, ◌==◌, ◌&&◌, ◌||◌, cond, not, ℕ, Bool, true, false, List, ◌∷◌, [], Option, None, Some, refl, sym, ap, subst, codes, get_or, length, true≢false}
use Rattle.std.proofs.lemmas.Bool.Decides.{nat_tests}
use Rattle.std.proofs.lemmas.List.{append-nil}
use Rattle.std.proofs.lemmas.Slice.Eq.{bytes_eq-Decides}
use Rattle.std.specs.Prelude.{nat_lt}
use Rattle.std.specs.Option.{option_map_or}
use Rattle.std.specs.Str.{bytes_eq}
use Rattle.clap.specs.Lexer.{long_of, short_of}
use Rattle.clap.specs.Walk.{Held, Names, Row, Rule, Step, Text, Waiting, Walk, after_step, after_flag, arg_by_id, arg_by_long, at_row, has_row, idle, long_met, long_or_other, more_values, next, option, option_word, pushed, settled, used_by_id, value as goes_on, short_or_plain, is_pending, plain_word, positional, reading_by, settled_rows, trailing, used, walked, with_values, without}
use Rattle.clap.specs.Simple.{Shape, built, filled, names_of}
use Rattle.clap.specs.Kinds.{Kinds, or_else}
use Rattle.clap.specs.Faults.{bundle_fault, flag_word_fault, long_fault, settle_fault, step_fault, turn_fault, use_fault}
use Rattle.clap.specs.Words.{new_rule}
use Rattle.clap.specs.declared.builder.value_parser.Reading.{Reading}
use Rattle.clap.specs.declared.error.kind.ErrorKind.TheVariants.{ArgumentConflict, InvalidValue, UnknownArgument}
use Rattle.clap.specs.declared.parser.matches.ValueSource.TheVariants.{CommandLine}
use Rattle.clap.proofs.OnLiterals.{clap_on_literals}
use Rattle.tre_words.specs.CommandLine.{command_line, flag_rule, option_rule}
use Rattle.tre_words.specs.Settings.{IsPlain, flags, is_among, options}

abbrev pub Pending : Type 0
Pending = Option (Text × List Text)

abbrev pub held : List Row → Pending → Held
held rows pending = record { rows = rows; pending = pending; skip = 0 }

-- where the walk stands between two words, also behind `--`
abbrev pub standing : Bool → List Row → Pending → Waiting → ℕ → Walk
standing marked rows pending waiting position = record {
  held = held rows pending;
  waiting = waiting;
  position = position;
  is_trailing = marked;
  stopped = None;
}

abbrev pub state : List Row → Pending → Waiting → ℕ → Walk
state = standing false

abbrev pub shape : Shape
shape = (built command_line).top

abbrev pub rules : List Rule
rules = shape.rules

abbrev pub names : Names
names = names_of (built command_line)

-- the rules of a flag, of an option with these defaults, and of the text
abbrev pub flag_of : Text → Rule
flag_of name = filled (flag_rule name)

abbrev pub option_of : Text → List Text → Rule
option_of name defaults = filled (record (option_rule name) { defaults = defaults })

abbrev pub text_rule : Rule
text_rule = get_or rules (length (flags ++ options)) (new_rule [])

-- ---- the options

-- What is computed of a name that is written out: the rule that it names, and how `--name` and
-- `--name=value` are cut.
abbrev pub IsNamed : Text → Rule → Type 0
IsNamed name rule = (arg_by_long rules name ≡ Some rule)
    × (arg_by_id rules name ≡ Some rule)
    × (long_of (codes "--" ++ name) ≡ Some (name, None))
    × ((value : Text) → long_of (codes "--" ++ name ++ codes "=" ++ value) ≡ Some (name, Some value))
    × (bytes_eq (codes "--" ++ name) (codes "--") ≡ false)
    × ((value : Text) → bytes_eq (codes "--" ++ name ++ codes "=" ++ value) (codes "--") ≡ false)
    × (bytes_eq name name ≡ true)
    × (bytes_eq name (codes "EXPR") ≡ false)

abbrev pub Optional : Text → Type 0
Optional name = (defaults : List Text) × IsNamed name (option_of name defaults)

abbrev AreAll : (Text → Type 0) → List Text → Type 0
AreAll P [] = Unit {0}
AreAll P (name ∷ all) = P name × AreAll P all

pick : (P : Text → Type 0) (all : List Text) → AreAll P all → (name : Text)
    → is_among all name ≡ true → P name
pick P [] are name is = absurd (true≢false (sym is))
pick P (one ∷ all) are name is = go (bytes_eq one name) refl is (pick P all are.1 name)
  where
    go : (b : Bool) → bytes_eq one name ≡ b → (b || is_among all name) ≡ true
        → (is_among all name ≡ true → P name) → P name
    go true e is later = subst P ((bytes_eq-Decides one name).0 e) are.0
    go false e is later = later is

pub flag_named : (name : Text) → is_among flags name ≡ true → IsNamed name (flag_of name)
unfolding command_line clap_on_literals
flag_named = pick (λ name. IsNamed name (flag_of name)) flags (
  (refl, refl, refl, (λ value. refl), refl, (λ value. refl), refl, refl),
  (
    (refl, refl, refl, (λ value. refl), refl, (λ value. refl), refl, refl),
    ((refl, refl, refl, (λ value. refl), refl, (λ value. refl), refl, refl), tt),
  ),
)

pub option_named : (name : Text) → is_among options name ≡ true → Optional name
unfolding command_line clap_on_literals
option_named = pick Optional options (
  (codes "text" ∷ [], (refl, refl, refl, (λ value. refl), refl, (λ value. refl), refl, refl)),
  (
    (codes "-" ∷ [], (refl, refl, refl, (λ value. refl), refl, (λ value. refl), refl, refl)),
    (
      (codes "1073741824" ∷ [], (refl, refl, refl, (λ value. refl), refl, (λ value. refl), refl, refl)),
      (
        (codes "0" ∷ [], (refl, refl, refl, (λ value. refl), refl, (λ value. refl), refl, refl)),
        (
          ([], (refl, refl, refl, (λ value. refl), refl, (λ value. refl), refl, refl)),
          (
            ([], (refl, refl, refl, (λ value. refl), refl, (λ value. refl), refl, refl)),
            (
              ([], (refl, refl, refl, (λ value. refl), refl, (λ value. refl), refl, refl)),
              (
                ([], (refl, refl, refl, (λ value. refl), refl, (λ value. refl), refl, refl)),
                (
                  ([], (refl, refl, refl, (λ value. refl), refl, (λ value. refl), refl, refl)),
                  tt,
                ),
              ),
            ),
          ),
        ),
      ),
    ),
  ),
)

-- ---- what a use of an option adds

-- the row of an option with one value
abbrev pub new_row : Text → Reading → Text → Row
new_row id how value = record {
  id = id;
  values = value ∷ [];
  count = None;
  source = Some CommandLine;
  reading = how;
}

pub at_none : (id : Text) (change : Row → List Row) (missing rows : List Row)
    → has_row id rows ≡ false → at_row id change missing rows ≡ rows ++ missing
at_none id change missing [] none = refl
at_none id change missing (row ∷ rows) none =
    go (bytes_eq row.id id) none (λ rest. at_none id change missing rows rest)
  where
    go : (b : Bool) → (b || has_row id rows) ≡ false
        → (has_row id rows ≡ false → at_row id change missing rows ≡ rows ++ missing)
        → cond b (change row ++ rows) (row ∷ at_row id change missing rows)
        ≡ row ∷ (rows ++ missing)
    go true none rest = absurd (true≢false none)
    go false none rest = ap (λ (more : List Row). row ∷ more) (rest none)

pub adds : (id : Text) (how : Reading) (value : Text) (rows : List Row) → has_row id rows ≡ false
    → with_values id how CommandLine (value ∷ []) (without id rows)
    ≡ rows ++ new_row id how value ∷ []
adds id how value rows none =
    let same : without id rows ≡ rows = at_none id (λ _. []) [] rows none ∙ append-nil rows in
    ap (with_values id how CommandLine (value ∷ [])) same
    ∙ at_none id (more_values CommandLine (value ∷ [])) (new_row id how value ∷ []) rows none

pub text_adds : (value : Text) (rows : List Row) → has_row (codes "EXPR") rows ≡ false
    → used text_rule (value ∷ []) rows
    ≡ rows ++ new_row (codes "EXPR") (reading_by text_rule) value ∷ []
unfolding command_line clap_on_literals
text_adds value rows none = adds _ _ _ rows none

-- what is wrong with a second use
abbrev pub again : Bool → Kinds
again given = or_else (cond (given && not false) (ArgumentConflict ∷ []) []) []

pub once : (given : Bool) → given ≡ false → again given ≡ []
once given none = rw none refl

pub never_twice : (given : Bool) → again given ≡ [] → given ≡ false
never_twice true e = cc
never_twice false e = refl

-- ---- a word that is `--name` or `--name=value`

abbrev Lexed : Type 0
Lexed = Option (Text × Option Text)

-- what the word comes to, where it is no subcommand, and is `--` or else is cut so
abbrev met_at : Bool → Lexed → Text → Waiting → ℕ → Held → Held × Step
met_at is_end lexed word waiting position h =
    cond is_end (h, trailing position) (long_or_other rules waiting word lexed h)

abbrev walk_at : Bool → Lexed → Text → List Row → Pending → Waiting → ℕ → Walk
walk_at is_end lexed word rows pending waiting position =
    let met = met_at is_end lexed word waiting position (held rows pending) in
    after_step rules word (state rows pending waiting position) met.0 met.1

walks_at : (word : Text) (rows : List Row) (pending : Pending) (waiting : Waiting) (position : ℕ)
    → walked rules names (state rows pending waiting position) word
    ≡ walk_at (bytes_eq word (codes "--")) (long_of word) word rows pending waiting position
unfolding command_line walked
walks_at word rows pending idle position = refl
walks_at word rows pending (option name) position = refl
walks_at word rows pending positional position = refl

abbrev fault_at : Bool → Lexed → Text → List Row → Pending → Waiting → ℕ → Kinds
fault_at is_end lexed word rows pending waiting position =
    let met = met_at is_end lexed word waiting position (held rows pending) in
    or_else (cond is_end [] (flag_word_fault rules false lexed word (held rows pending)))
    (step_fault shape position met.0 met.1)

faults_at : (word : Text) (rows : List Row) (pending : Pending) (waiting : Waiting) (position : ℕ)
    → turn_fault shape names (state rows pending waiting position) word
    ≡ fault_at (bytes_eq word (codes "--")) (long_of word) word rows pending waiting position
unfolding command_line
faults_at word rows pending idle position = refl
faults_at word rows pending (option name) position = refl
faults_at word rows pending positional position = refl

-- the word names the rule, with this value or none
record IsCut (word name : Text) (value : Option Text) (rule : Rule) : Type 0 where
  other : bytes_eq word (codes "--") ≡ false
  cut : long_of word ≡ Some (name, value)
  found : arg_by_long rules name ≡ Some rule

abbrev met_by : Option Rule → Option Text → Text → Waiting → Held → Held × Step
met_by rule value word waiting h = after_flag rules waiting word (long_met rules rule value h).0
    (long_met rules rule value h).1

long_walks : (word name : Text) (value : Option Text) (rule : Rule) → IsCut word name value rule
    → (rows : List Row) (pending : Pending) (waiting : Waiting) (position : ℕ)
    → walked rules names (state rows pending waiting position) word
    ≡ after_step rules word (state rows pending waiting position)
    (met_by (Some rule) value word waiting (held rows pending)).0
    (met_by (Some rule) value word waiting (held rows pending)).1
long_walks word name value rule is rows pending waiting position =
    walks_at word rows pending waiting position
    ∙ (ap (λ (b : Bool). walk_at b (long_of word) word rows pending waiting position) is.other
    ∙ (ap (λ (lexed : Lexed). walk_at false lexed word rows pending waiting position) is.cut
    ∙ ap (λ (found : Option Rule). after_step rules word (state rows pending waiting position)
    (met_by found value word waiting (held rows pending)).0
    (met_by found value word waiting (held rows pending)).1) is.found))

long_faults : (word name : Text) (value : Option Text) (rule : Rule) → IsCut word name value rule
    → (rows : List Row) (pending : Pending) (waiting : Waiting) (position : ℕ)
    → turn_fault shape names (state rows pending waiting position) word
    ≡ or_else (long_fault rules false (Some rule) value (held rows pending))
    (step_fault shape position (met_by (Some rule) value word waiting (held rows pending)).0
    (met_by (Some rule) value word waiting (held rows pending)).1)
long_faults word name value rule is rows pending waiting position =
    faults_at word rows pending waiting position
    ∙ (ap (λ (b : Bool). fault_at b (long_of word) word rows pending waiting position) is.other
    ∙ (ap (λ (lexed : Lexed). fault_at false lexed word rows pending waiting position) is.cut
    ∙ ap (λ (found : Option Rule). or_else (long_fault rules false found value (held rows pending))
    (step_fault shape position (met_by found value word waiting (held rows pending)).0
    (met_by found value word waiting (held rows pending)).1)) is.found))

-- what is wrong with a use behind what is pending
abbrev pub used_behind : Text → List Row → Pending → Kinds
used_behind name rows pending = or_else (or_else (settle_fault rules false (held rows pending))
    (again (has_row name (settled_rows rules pending rows)))) []

pub used_clean : (name : Text) (rows : List Row) (pending : Pending)
    → settle_fault rules false (held rows pending) ≡ []
    → has_row name (settled_rows rules pending rows) ≡ false → used_behind name rows pending ≡ []
used_clean name rows pending clean none =
    let none_again = once (has_row name (settled_rows rules pending rows)) none in
    rw (clean, none_again) refl

flag_cut : (name : Text) → is_among flags name ≡ true
    → IsCut (codes "--" ++ name) name None (flag_of name)
flag_cut name is = let named = flag_named name is in
    record { other = named.4; cut = named.2; found = named.0 }

pub flag_walks : (name : Text) → is_among flags name ≡ true → (rows : List Row)
    (pending : Pending) (waiting : Waiting) (position : ℕ)
    → walked rules names (state rows pending waiting position) (codes "--" ++ name)
    ≡ state (used (flag_of name) [] (settled_rows rules pending rows)) None idle position
flag_walks name is = long_walks (codes "--" ++ name) name None (flag_of name) (flag_cut name is)

pub flag_faults : (name : Text) → is_among flags name ≡ true → (rows : List Row)
    (pending : Pending) (waiting : Waiting) (position : ℕ)
    → turn_fault shape names (state rows pending waiting position) (codes "--" ++ name)
    ≡ used_behind name rows pending
flag_faults name is = long_faults (codes "--" ++ name) name None (flag_of name) (flag_cut name is)

joined_cut : (name value : Text) (is : is_among options name ≡ true)
    → IsCut (codes "--" ++ name ++ codes "=" ++ value) name (Some value)
    (option_of name (option_named name is).0)
joined_cut name value is = let named = (option_named name is).1 in
    record { other = named.5 value; cut = named.3 value; found = named.0 }

pub joined_walks : (name value : Text) (is : is_among options name ≡ true) (rows : List Row)
    (pending : Pending) (waiting : Waiting) (position : ℕ)
    → walked rules names (state rows pending waiting position)
    (codes "--" ++ name ++ codes "=" ++ value)
    ≡ state (used (option_of name []) (value ∷ []) (settled_rows rules pending rows)) None idle
    position
joined_walks name value is = long_walks (codes "--" ++ name ++ codes "=" ++ value) name (Some value)
    (option_of name (option_named name is).0) (joined_cut name value is)

pub joined_faults : (name value : Text) (is : is_among options name ≡ true) (rows : List Row)
    (pending : Pending) (waiting : Waiting) (position : ℕ)
    → turn_fault shape names (state rows pending waiting position)
    (codes "--" ++ name ++ codes "=" ++ value) ≡ used_behind name rows pending
joined_faults name value is = long_faults (codes "--" ++ name ++ codes "=" ++ value) name
    (Some value) (option_of name (option_named name is).0) (joined_cut name value is)

apart_cut : (name : Text) (is : is_among options name ≡ true)
    → IsCut (codes "--" ++ name) name None (option_of name (option_named name is).0)
apart_cut name is = let named = (option_named name is).1 in
    record { other = named.4; cut = named.2; found = named.0 }

pub apart_walks : (name : Text) (is : is_among options name ≡ true) (rows : List Row)
    (pending : Pending) (waiting : Waiting) (position : ℕ)
    → walked rules names (state rows pending waiting position) (codes "--" ++ name)
    ≡ state (settled_rows rules pending rows) (Some (name, [])) (option name) position
apart_walks name is = long_walks (codes "--" ++ name) name None
    (option_of name (option_named name is).0) (apart_cut name is)

pub apart_faults : (name : Text) (is : is_among options name ≡ true) (rows : List Row)
    (pending : Pending) (waiting : Waiting) (position : ℕ)
    → turn_fault shape names (state rows pending waiting position) (codes "--" ++ name)
    ≡ or_else (settle_fault rules false (held rows pending)) []
apart_faults name is = long_faults (codes "--" ++ name) name None
    (option_of name (option_named name is).0) (apart_cut name is)

-- ---- what is pending

abbrev settle_by : Option Rule → List Text → List Row → Kinds
settle_by found values rows = option_map_or (λ rule. use_fault false rule values rows) found []

pub option_settles : (name value : Text) (is : is_among options name ≡ true) (rows : List Row)
    → settled_rows rules (Some (name, value ∷ [])) rows
    ≡ used (option_of name []) (value ∷ []) rows
option_settles name value is rows =
    ap (λ (found : Option Rule). used_by_id found (value ∷ []) rows) (option_named name is).1.1

pub option_pending : (name value : Text) (is : is_among options name ≡ true) (rows : List Row)
    → settle_fault rules false (held rows (Some (name, value ∷ []))) ≡ again (has_row name rows)
option_pending name value is rows =
    ap (λ (found : Option Rule). settle_by found (value ∷ []) rows) (option_named name is).1.1

-- an option that waits for its value settles never
pub never_settles : (name : Text) → is_among options name ≡ true → (rows : List Row)
    → settle_fault rules false (held rows (Some (name, []))) ≡ [] → ⊥
never_settles name is rows clean =
    let wants : settle_fault rules false (held rows (Some (name, []))) ≡ InvalidValue ∷ [] =
    ap (λ (found : Option Rule). settle_by found [] rows) (option_named name is).1.1 in
    let it = sym wants ∙ clean in cc

pub text_settles : (text : Text) (rows : List Row)
    → settled_rows rules (Some (codes "EXPR", text ∷ [])) rows ≡ used text_rule (text ∷ []) rows
unfolding command_line clap_on_literals
text_settles text rows = refl

pub text_pending : (text : Text) (rows : List Row)
    → settle_fault rules false (held rows (Some (codes "EXPR", text ∷ [])))
    ≡ again (has_row (codes "EXPR") rows)
unfolding command_line clap_on_literals
text_pending text rows = refl

-- ---- a word that is no option

record IsOther (word : Text) : Type 0 where
  other : bytes_eq word (codes "--") ≡ false
  cut : long_of word ≡ None
  bundle : short_of word ≡ None

other : (word : Text) → IsPlain word → IsOther word
other word (inl hyphen) =
    subst IsOther (sym hyphen) (record { other = refl; cut = refl; bundle = refl })
other [] (inr none) = record { other = refl; cut = refl; bundle = refl }
other (byte ∷ rest) (inr none) = go (byte == 45) refl
  where
    go : (b : Bool) → (byte == 45) ≡ b → IsOther (byte ∷ rest)
    go true e = let same : byte ≡ 45 = grind (arith, nat_tests) in
        absurd (none rest (ap (λ (first : ℕ). first ∷ rest) same))
    go false e = record { other = rw e refl; cut = rw e refl; bundle = rw e refl }

plain_walks : (word : Text) → IsPlain word → (rows : List Row) (pending : Pending)
    (waiting : Waiting) (position : ℕ)
    → walked rules names (state rows pending waiting position) word
    ≡ after_step rules word (state rows pending waiting position)
    (plain_word rules waiting word (held rows pending)).0
    (plain_word rules waiting word (held rows pending)).1
plain_walks word plain rows pending waiting position = let is = other word plain in
    walks_at word rows pending waiting position
    ∙ (ap (λ (b : Bool). walk_at b (long_of word) word rows pending waiting position) is.other
    ∙ (ap (λ (lexed : Lexed). walk_at false lexed word rows pending waiting position) is.cut
    ∙ ap (λ (flags : Option Text). after_step rules word (state rows pending waiting position)
    (short_or_plain rules waiting word flags (held rows pending)).0
    (short_or_plain rules waiting word flags (held rows pending)).1) is.bundle))

plain_faults : (word : Text) → IsPlain word → (rows : List Row) (pending : Pending)
    (waiting : Waiting) (position : ℕ)
    → turn_fault shape names (state rows pending waiting position) word
    ≡ step_fault shape position (plain_word rules waiting word (held rows pending)).0
    (plain_word rules waiting word (held rows pending)).1
plain_faults word plain rows pending waiting position = let is = other word plain in
    faults_at word rows pending waiting position
    ∙ (ap (λ (b : Bool). fault_at b (long_of word) word rows pending waiting position) is.other
    ∙ (ap (λ (lexed : Lexed). fault_at false lexed word rows pending waiting position) is.cut
    ∙ ap (λ (flags : Option Text).
    or_else (option_map_or (λ flags. bundle_fault rules false flags (held rows pending)) flags [])
    (step_fault shape position (short_or_plain rules waiting word flags (held rows pending)).0
    (short_or_plain rules waiting word flags (held rows pending)).1)) is.bundle))

pub value_walks : (name value : Text) → is_among options name ≡ true → IsPlain value
    → (rows : List Row) (position : ℕ)
    → walked rules names (state rows (Some (name, [])) (option name) position) value
    ≡ state rows (Some (name, value ∷ [])) idle position
value_walks name value is plain rows position = let named = (option_named name is).1 in
    plain_walks value plain rows (Some (name, [])) (option name) position
    ∙ (ap (λ (found : Option Rule). after_step rules value
    (state rows (Some (name, [])) (option name) position)
    (option_word found name value (held rows (Some (name, [])))).0
    (next (option_word found name value (held rows (Some (name, [])))).1)) named.1
    ∙ ap (λ (b : Bool). state rows (Some (name, value ∷ []))
    (cond (nat_lt (cond b 1 0) 1) (option name) idle) position) named.6)

pub value_faults : (name value : Text) → IsPlain value → (rows : List Row) (position : ℕ)
    → turn_fault shape names (state rows (Some (name, [])) (option name) position) value ≡ []
value_faults name value plain rows position =
    plain_faults value plain rows (Some (name, [])) (option name) position

-- ---- the text

-- where the text leads; an option with several values would take it
abbrev text_at : Bool → Bool → List Row → Pending → Text → Walk
text_at several marked rows pending text = record {
  held = pushed (codes "EXPR") text
      (cond (several && false) (held rows pending) (settled rules (held rows pending)));
  waiting = idle;
  position = 2;
  is_trailing = marked;
  stopped = None;
}

text_is : (several marked : Bool) (rows : List Row) (pending : Pending) (text : Text)
    → text_at several marked rows pending text
    ≡ standing marked (settled_rows rules pending rows) (Some (codes "EXPR", text ∷ [])) idle 2
text_is true marked rows pending text = refl
text_is false marked rows pending text = refl

text_goes : (rows : List Row) (pending : Pending) (text : Text)
    → after_step rules text (state rows pending idle 1) (held rows pending) goes_on
    ≡ text_at (is_pending text_rule pending) false rows pending text
unfolding command_line clap_on_literals
text_goes rows pending text = refl

pub text_walks : (text : Text) → IsPlain text → (rows : List Row) (pending : Pending)
    → walked rules names (state rows pending idle 1) text
    ≡ state (settled_rows rules pending rows) (Some (codes "EXPR", text ∷ [])) idle 2
text_walks text plain rows pending = plain_walks text plain rows pending idle 1
    ∙ (text_goes rows pending text ∙ text_is (is_pending text_rule pending) false rows pending text)

settles_first : (several : Bool) (kinds : Kinds) → cond (several && false) [] kinds ≡ kinds
settles_first true kinds = refl
settles_first false kinds = refl

text_step : (rows : List Row) (pending : Pending)
    → step_fault shape 1 (held rows pending) goes_on
    ≡ cond (is_pending text_rule pending && false) [] (settle_fault rules false (held rows pending))
unfolding command_line clap_on_literals
text_step rows pending = refl

pub text_faults : (text : Text) → IsPlain text → (rows : List Row) (pending : Pending)
    → turn_fault shape names (state rows pending idle 1) text
    ≡ settle_fault rules false (held rows pending)
text_faults text plain rows pending = plain_faults text plain rows pending idle 1
    ∙ (text_step rows pending ∙ settles_first (is_pending text_rule pending) _)

second_step : (rows : List Row) (pending : Pending)
    → step_fault shape 2 (held rows pending) goes_on ≡ UnknownArgument ∷ []
unfolding command_line clap_on_literals
second_step rows pending = refl

pub no_second : (text : Text) → IsPlain text → (rows : List Row) (pending : Pending)
    → turn_fault shape names (state rows pending idle 2) text ≡ [] → ⊥
no_second text plain rows pending clean = let it = sym (second_step rows pending)
    ∙ (sym (plain_faults text plain rows pending idle 2) ∙ clean) in cc

-- ---- `--`, and behind it

pub end_walks : (rows : List Row) (pending : Pending) (waiting : Waiting) (position : ℕ)
    → walked rules names (state rows pending waiting position) (codes "--")
    ≡ standing true rows pending waiting position
end_walks rows pending waiting position = walks_at (codes "--") rows pending waiting position

pub end_faults : (rows : List Row) (pending : Pending) (waiting : Waiting) (position : ℕ)
    → turn_fault shape names (state rows pending waiting position) (codes "--") ≡ []
end_faults rows pending waiting position = faults_at (codes "--") rows pending waiting position

trail_goes : (rows : List Row) (pending : Pending) (waiting : Waiting) (text : Text)
    → walked rules names (standing true rows pending waiting 1) text
    ≡ text_at (is_pending text_rule pending) true rows pending text
unfolding command_line clap_on_literals
trail_goes rows pending waiting text = refl

pub trail_walks : (rows : List Row) (pending : Pending) (waiting : Waiting) (text : Text)
    → walked rules names (standing true rows pending waiting 1) text
    ≡ standing true (settled_rows rules pending rows) (Some (codes "EXPR", text ∷ [])) idle 2
trail_walks rows pending waiting text = trail_goes rows pending waiting text
    ∙ text_is (is_pending text_rule pending) true rows pending text

pub trail_faults : (rows : List Row) (pending : Pending) (waiting : Waiting) (text : Text)
    → turn_fault shape names (standing true rows pending waiting 1) text
    ≡ settle_fault rules false (held rows pending)
trail_faults rows pending waiting text =
    text_step rows pending ∙ settles_first (is_pending text_rule pending) _

pub no_second_behind : (rows : List Row) (pending : Pending) (waiting : Waiting) (text : Text)
    → turn_fault shape names (standing true rows pending waiting 2) text ≡ [] → ⊥
no_second_behind rows pending waiting text clean = let it = sym (second_step rows pending) ∙ clean in cc
