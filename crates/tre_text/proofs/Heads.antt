-- What a line says, by what its first field says.
use Rattle.std.proofs.Common.{◌≡◌, ℕ, ◌+◌, ◌-◌, ◌^◌, ◌≤◌, min, true, false, None, Some, Option, List, ◌∷◌, Ok, Err, refl, ap, subst, ◌∙◌, arith}
use Rattle.std.specs.List.{list_all}
use Rattle.std.specs.Option.{option_map}
use Rattle.tre_decimal.specs.Decimal.{units_of}
use Rattle.tre_pairs.specs.declared.TheConstants.{TIME_MAX}
use Rattle.tre_text.specs.Lines.{FindsEntry, FindsEvents, IsLength, Heads, bits_after, list_of, said_of}
use Rattle.tre_text.specs.TextReading.{Past, begins_comment, begins_events, spells_word, entry_says, fields_say, fields_of, line_says}
use Rattle.tre_text.specs.declared.found.Head.{Head}
use Rattle.tre_text.specs.declared.found.Head.TheVariants.{Events, Entry}
use Rattle.tre_text.specs.declared.known.Known.{Known}
use Rattle.tre_text.proofs.Entries.{BeginWithDigits, IsEntryOf, equals, number-no_events, says-fields, says-no_name, says-stretch, fields-events, fields-no_event}
use Rattle.tre_trace.specs.Reading.{Vocabulary}
use Rattle.tre_trace.specs.declared.fault.TraceKind.TheVariants.{Zero, BadName}

-- A number of units, of which the machine told this much.
pub record IsTold (units : Option ℕ) (number : ℕ) : Type 0 where
  pub whole : ℕ
  pub is : units ≡ Some whole
  pub value : number ≡ min whole (2 ^ 64 - 1)

pub told : (units : Option ℕ) (number : ℕ)
    → Some number ≡ option_map (λ whole. min whole (2 ^ 64 - 1)) units → IsTold units number
told None number is = cc
told (Some whole) number is = record { whole = whole; is = refl; value = cc }

-- A first field that is a number of units, and no comment.
module _ (digits : BeginWithDigits) (scale : ℕ) (past : Past) (first : List ℕ)
    (no_comment : begins_comment first ≡ false) (number : ℕ)
    (told : IsTold (units_of scale first) number) where
  no_events : begins_events first ≡ false
  no_events = number-no_events digits scale told.whole first told.is

  first-says : (fields : List (List ℕ))
      → fields_say scale past (first ∷ fields) ≡ entry_says past (Some told.whole) fields
  first-says fields =
      rw (no_comment, no_events) (ap (λ units. entry_says past units fields) told.is)

  pub heads-zero : number ≡ 0 → (fields : List (List ℕ))
      → fields_say scale past (first ∷ fields) ≡ Err Zero
  heads-zero zero fields =
      let none : told.whole ≡ 0 = omega (arith, told.value, zero) in
      first-says fields ∙ rw (equals told.whole 0 none) refl

-- what stands on a line behind the past, and what is known of that
module _ (asked : Vocabulary) (scale : ℕ) (past : Past) (known : Known) (end : past.end ≡ known.end)
    (line first : List ℕ) (fields : List (List ℕ))
    (is : fields_of line ≡ first ∷ fields) (no_comment : begins_comment first ≡ false) where
  entry_of : (len : ℕ) → IsLength scale known.end first len → IsEntryOf line first fields
  entry_of len length = record {
    is = is;
    no_comment = no_comment;
    no_events = length.no_events;
  }

  fits_behind : (len : ℕ) → IsLength scale known.end first len → past.end + len ≤ TIME_MAX
  fits_behind len length = omega (arith, length.fits, end)

  -- A field that is no name is a fault of both kinds of lines.
  pub no_name-behind : (head : Head) → Heads scale known.end first (Ok head)
      → list_all spells_word fields ≡ false → line_says scale past line ≡ Err BadName
  no_name-behind Events sign bad = says-fields scale past line _ is
      ∙ fields-no_event scale past first fields no_comment sign bad
  no_name-behind (Entry len) length bad =
      says-no_name scale past line first fields (entry_of len length) len length.is length.some
      (fits_behind len length) bad

  module _ (head : Head) (heads : Heads scale known.end first (Ok head)) (bits : ℕ)
      (value : bits ≡ bits_after (list_of head asked.names asked.events) (said_of head known)
      fields)
      (words : list_all spells_word fields ≡ true) where
    bits_for : (other : Head) → head ≡ other
        → bits ≡ bits_after (list_of other asked.names asked.events) (said_of other known) fields
    bits_for other e = value
        ∙ ap (λ h. bits_after (list_of h asked.names asked.events) (said_of h known) fields) e

    pub events-behind : head ≡ Events
        → FindsEvents (line_says scale past line) past asked.events known.pending bits
    events-behind e =
        let sign = subst (λ h. Heads scale known.end first (Ok h)) e heads in
        record {
          fields = fields;
          says = says-fields scale past line _ is
              ∙ fields-events scale past first fields no_comment sign words;
          bits_are = bits_for Events e;
        }

    pub segment-behind : (len : ℕ) → head ≡ Entry len
        → FindsEntry (line_says scale past line) past asked.names len bits
    segment-behind len e =
        let length : IsLength scale known.end first len =
        subst (λ h. Heads scale known.end first (Ok h)) e heads in
        record {
          fields = fields;
          says = says-stretch scale past line first fields (entry_of len length) len length.is
              length.some (fits_behind len length) words;
          bits_are = bits_for (Entry len) e;
          fits = fits_behind len length;
        }
