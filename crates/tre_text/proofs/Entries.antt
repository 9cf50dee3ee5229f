-- What a line says, by what stands on it.
use Rattle.std.proofs.Common.{◌≡◌, ◌≢◌, ℕ, ◌+◌, ◌<◌, ◌≤◌, nat_le, ◌==◌, true, false, None, Some, List, [], ◌∷◌, ◌++◌, length, get_or, Ok, Err, codes, refl, ap, subst, ◌∙◌, arith}
use Rattle.std.proofs.lemmas.Bool.{false_from_ne_true}
use Rattle.std.proofs.lemmas.Bool.Decides.{nat_tests}
use Rattle.std.proofs.lemmas.Slice.Eq.{bytes_eq-Decides}
use Rattle.std.specs.List.{list_all}
use Rattle.std.specs.Char.{is_ascii_digit}
use Rattle.tre_pairs.specs.declared.TheConstants.{TIME_MAX}
use Rattle.tre_decimal.specs.Decimal.{units_of}
use Rattle.tre_text.specs.TextReading.{Past, begins_comment, begins_events, spells_word, past_at, no_stretch, one_stretch, entry_says, fields_say, fields_of, line_says}
use Rattle.tre_trace.specs.declared.fault.TraceKind.TheVariants.{BadNumber, Zero, TooLate, BadName}

pub equals : (a b : ℕ) → a ≡ b → (a == b) ≡ true
equals a b h = grind (arith, nat_tests)

pub differs : (a b : ℕ) → a ≢ b → (a == b) ≡ false
differs a b h = grind (arith, nat_tests)

pub within : (a b : ℕ) → a ≤ b → nat_le a b ≡ true
within a b h = grind (arith, nat_tests)

pub beyond : (a b : ℕ) → b < a → nat_le a b ≡ false
beyond a b h = grind (arith, nat_tests)

comment : (first : List ℕ) → 0 < length first → get_or first 0 0 ≡ 35 → begins_comment first ≡ true
comment first some is = equals (get_or first 0 0) 35 is

pub no_comment : (first : List ℕ) → 0 < length first → get_or first 0 0 ≢ 35 → begins_comment first
    ≡ false
no_comment first some other = differs (get_or first 0 0) 35 other

pub says-nothing : (scale : ℕ) (past : Past) (line : List ℕ) → fields_of line ≡ []
    → line_says scale past line ≡ Ok (no_stretch past)
unfolding line_says
says-nothing scale past line is = ap (fields_say scale past) is

pub says-comment : (scale : ℕ) (past : Past) (line first : List ℕ)
    (fields : List (List ℕ))
    → fields_of line ≡ first ∷ fields → 0 < length first
    → get_or first 0 0 ≡ 35 → line_says scale past line ≡ Ok (no_stretch past)
unfolding line_says
says-comment scale past line first fields is some hash = ap (fields_say scale past) is
    ∙ rw (comment first some hash) refl

-- the fields of a line that is no comment and says no events
pub record IsEntryOf (line first : List ℕ) (fields : List (List ℕ)) : Type 0 where
  pub is : fields_of line ≡ first ∷ fields
  pub no_comment : begins_comment first ≡ false
  pub no_events : begins_events first ≡ false

pub says-no_number : (scale : ℕ) (past : Past) (line first : List ℕ)
    (fields : List (List ℕ)) → IsEntryOf line first fields → units_of scale first ≡ None
    → line_says scale past line ≡ Err BadNumber
unfolding line_says
says-no_number scale past line first fields entry bad =
    ap (fields_say scale past) entry.is
    ∙ rw (entry.no_comment, entry.no_events)
    (ap (λ units. entry_says past units fields) bad)

-- what a line says that begins with a number of units
module _ (scale : ℕ) (past : Past) (line first : List ℕ) (fields : List (List ℕ))
    (entry : IsEntryOf line first fields) (len : ℕ) (is : units_of scale first ≡ Some len)
  where
    says-entry : line_says scale past line ≡ entry_says past (Some len) fields
    unfolding line_says
    says-entry =
        ap (fields_say scale past) entry.is
        ∙ rw (entry.no_comment, entry.no_events)
        (ap (λ units. entry_says past units fields) is)

    pub says-zero : len ≡ 0 → line_says scale past line ≡ Err Zero
    says-zero zero = says-entry ∙ rw (equals len 0 zero) refl

    pub says-late : len ≢ 0 → TIME_MAX < past.end + len → line_says scale past line ≡ Err TooLate
    says-late some late =
        says-entry ∙ rw (differs len 0 some, beyond (past.end + len) TIME_MAX late) refl

    pub says-no_name : len ≢ 0 → past.end + len ≤ TIME_MAX → list_all spells_word fields ≡ false
        → line_says scale past line ≡ Err BadName
    says-no_name some fits bad =
        says-entry ∙ rw (differs len 0 some, within (past.end + len) TIME_MAX fits, bad) refl

    pub says-stretch : len ≢ 0 → past.end + len ≤ TIME_MAX → list_all spells_word fields ≡ true
        → line_says scale past line
        ≡ Ok (one_stretch past len fields)
    says-stretch some fits words =
        says-entry ∙ rw (differs len 0 some, within (past.end + len) TIME_MAX fits, words) refl

pub says-marked : (scale : ℕ) (past : Past) (line first : List ℕ)
    (fields : List (List ℕ))
    → fields_of line ≡ first ∷ fields → begins_comment first ≡ true
    → line_says scale past line ≡ Ok (no_stretch past)
unfolding line_says
says-marked scale past line first fields is hash = ap
    (fields_say scale past) is ∙ rw hash refl

-- what a line says whose first field is the sign of events
module _ (scale : ℕ) (past : Past) (first : List ℕ) (fields : List (List ℕ))
    (no_comment : begins_comment first ≡ false) (sign : begins_events first ≡ true) where
  pub fields-events : list_all spells_word fields ≡ true
      → fields_say scale past (first ∷ fields)
      ≡ Ok (no_stretch (past_at past.end (past.said ++ fields)))
  fields-events words = rw (no_comment, sign, words) refl

  pub fields-no_event : list_all spells_word fields ≡ false
      → fields_say scale past (first ∷ fields) ≡ Err BadName
  fields-no_event bad = rw (no_comment, sign, bad) refl

pub says-fields : (scale : ℕ) (past : Past) (line : List ℕ)
    (fields : List (List ℕ)) → fields_of line ≡ fields
    → line_says scale past line ≡ fields_say scale past fields
unfolding line_says
says-fields scale past line fields is = ap (fields_say scale past) is

-- the sign of events is no comment
pub sign-no_comment : (first : List ℕ) → begins_events first ≡ true → begins_comment first ≡ false
sign-no_comment first sign =
    ap begins_comment ((bytes_eq-Decides first (codes "@")).0 sign)

digit-other : (byte : ℕ) → is_ascii_digit byte ≡ true → (byte == 35) ≡ false
digit-other byte digit = grind (arith, nat_tests)

-- What is a number of units begins with a digit: tre_decimal has this law.
abbrev pub BeginWithDigits : Type 0
BeginWithDigits = (scale byte units : ℕ) (bytes : List ℕ)
    → units_of scale (byte ∷ bytes) ≡ Some units → is_ascii_digit byte ≡ true

-- So a number is no comment.
pub number-no_comment : BeginWithDigits → (scale units : ℕ) (first : List ℕ)
    → units_of scale first ≡ Some units → begins_comment first ≡ false
number-no_comment digits scale units [] is = refl
number-no_comment digits scale units (byte ∷ bytes) is =
    digit-other byte (digits scale byte units bytes is)

-- and no sign of events
pub number-no_events : BeginWithDigits → (scale units : ℕ) (first : List ℕ)
    → units_of scale first ≡ Some units → begins_events first ≡ false
number-no_events digits scale units first is =
    false_from_ne_true (begins_events first) (λ sign.
    let digit = digits scale 64 units []
    (subst (λ text. units_of scale text ≡ Some units)
    ((bytes_eq-Decides first (codes "@")).0 sign) is) in
    cc (digit))
