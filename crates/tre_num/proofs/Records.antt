-- The records that are left, one after the other.
use Rattle.std.proofs.Common.{subst, ◌≡◌, ℕ, zero, suc, ◌+◌, ◌<◌, ◌≤◌, Bool, true, false, Option, Some, None, List, [], ◌∷◌, ◌++◌, length, refl, sym, ap, ◌∙◌, inl, inr, arith}
use Rattle.std.specs.Prelude.{◌==◌, ◌&&◌, if◌then◌else◌}
use Rattle.std.proofs.lemmas.Bool.{false≢true}
use Rattle.csv.specs.Machine.{Read, carriage_return, after_end, ends_with, in_field, start_field, start_record, step, ends_at_end, is_end, is_byte, fields_after, field_after, next_record}
use Rattle.csv.specs.Reading.{Reached, ReadRecord, default_config, names_headers, reader_config, reader_headers, reader_state, reader_trim, records, records_from, records_next, source_of, took_first}
use Rattle.csv.specs.declared.parser.Action.{Action}
use Rattle.csv.specs.declared.parser.Config.{Config}
use Rattle.csv.specs.declared.parser.State.{State}
use Rattle.csv.specs.declared.parser.State.TheVariants as st
use Rattle.csv.specs.declared.parser.Terminator.{Terminator}
use Rattle.csv.specs.declared.parser.Terminator.TheVariants as term
use Rattle.csv.specs.declared.reader.Reader.{Reader}
use Rattle.csv.specs.declared.reader.Trim.TheVariants as trim
use Rattle.csv.proofs.ReadFacts.{rows-end, rows-more}
use Rattle.tre_num.specs.Left.{IsLeft, TakesRecord}

-- ---- behind a record

-- A byte that ends a record leaves a state between records.
abbrev Ends : State × Action → Type 0
Ends r = is_end r.1 ≡ true → ends_at_end r.0 ≡ false

either : (test : Bool) (x y : State × Action) → Ends x → Ends y → Ends (if test then x else y)
either true x y p q = p
either false x y p q = q

behind_end : (terminator : Terminator) (c : ℕ) → ends_at_end (after_end terminator c) ≡ false
behind_end term.CRLF c = by (c == carriage_return) where
  by : (test : Bool) → ends_at_end (if test then st.AfterCr else st.StartRecord) ≡ false
  by true = refl
  by false = refl
behind_end (term.Any t) c = refl

in_field-ends : (cfg : Config) (c : ℕ) → Ends (in_field cfg c)
in_field-ends cfg c =
    either (c == cfg.delimiter) _ _ (λ e. absurd (false≢true e))
    (either (ends_with cfg.terminator c) _ _ (λ e. behind_end cfg.terminator c)
    (λ e. absurd (false≢true e)))

start_field-ends : (cfg : Config) (c : ℕ) → Ends (start_field cfg c)
start_field-ends cfg c =
    either (cfg.quoting && (c == cfg.quote)) _ _ (λ e. absurd (false≢true e)) (in_field-ends cfg c)

start_record-ends : (cfg : Config) (c : ℕ) → Ends (start_record cfg c)
start_record-ends cfg c =
    either (ends_with cfg.terminator c) _ _ (λ e. absurd (false≢true e))
    (either (is_byte cfg.comment c) _ _ (λ e. absurd (false≢true e)) (start_field-ends cfg c))

step-ends : (cfg : Config) (s : State) (c : ℕ) → Ends (step cfg s c)
step-ends cfg st.StartRecord c = start_record-ends cfg c
step-ends cfg st.StartField c = start_field-ends cfg c
step-ends cfg st.InField c = in_field-ends cfg c
step-ends cfg st.InQuoted c =
    either (cfg.quoting && (c == cfg.quote)) _ _ (λ e. absurd (false≢true e))
    (either (cfg.quoting && is_byte cfg.escape c) _ _ (λ e. absurd (false≢true e))
    (λ e. absurd (false≢true e)))
step-ends cfg st.InEscape c = λ e. absurd (false≢true e)
step-ends cfg st.AfterQuote c =
    either (cfg.quoting && cfg.double_quote && (c == cfg.quote)) _ _
    (λ e. absurd (false≢true e)) (in_field-ends cfg c)
step-ends cfg st.InComment c =
    either (c == 10) _ _ (λ e. absurd (false≢true e)) (λ e. absurd (false≢true e))
step-ends cfg st.AfterCr c =
    either (c == 10) _ _ (λ e. absurd (false≢true e)) (start_record-ends cfg c)

-- What a read leaves: a state between records, and no more bytes than there were.
record Leaves (read : Read) (bytes : List ℕ) : Type 0 where
  between : ends_at_end read.1 ≡ false
  fewer : length read.2 ≤ length bytes

next-leaves : (cfg : Config) (s : State) (fields : List (List ℕ)) (field bytes : List ℕ)
    (read : Read) → next_record cfg s fields field bytes ≡ Some read → Leaves read bytes
unfolding next_record
next-leaves cfg s fields field [] read is = by (ends_at_end s) is
  where
    by : (ends : Bool)
        → (if ends then Some (fields ++ (field ∷ []), st.StartRecord, []) else None) ≡ Some read
        → Leaves read []
    by true is =
        let same : (fields ++ (field ∷ []), st.StartRecord, []) ≡ read = cc in
        subst (λ r. Leaves r []) same (record { between = refl; fewer = omega arith })
    by false is = cc
next-leaves cfg s fields field (c ∷ rest) read is =
    by (is_end (step cfg s c).1) (step-ends cfg s c)
    (λ more. next-leaves cfg (step cfg s c).0 (fields_after (step cfg s c).1 fields field)
    (field_after (step cfg s c).1 c field) rest read more) is
  where
    after : State × Action
    after = step cfg s c

    by : (ends : Bool) → (ends ≡ true → ends_at_end after.0 ≡ false)
        → (next_record cfg after.0 (fields_after after.1 fields field)
        (field_after after.1 c field) rest ≡ Some read → Leaves read rest)
        → (if ends then Some (fields_after after.1 fields field, after.0, rest)
        else next_record cfg after.0 (fields_after after.1 fields field)
        (field_after after.1 c field) rest) ≡ Some read
        → Leaves read (c ∷ rest)
    by true between behind is =
        let same : (fields_after after.1 fields field, after.0, rest) ≡ read = cc in
        subst (λ r. Leaves r (c ∷ rest)) same
        (record { between = between refl; fewer = omega arith })
    by false between behind is =
        let more = behind is in
        record { between = more.between; fewer = omega (arith, more.fewer) }

no_read : (ends : Bool) (one read : Read) → ends ≡ false
    → (if ends then Some one else None) ≡ Some read → ⊥
no_read true one read e is = absurd (false≢true (sym e))
no_read false one read e is = cc

-- Between two records a read takes at least a byte.
next-less : (cfg : Config) (s : State) (bytes : List ℕ) (read : Read) → ends_at_end s ≡ false
    → next_record cfg s [] [] bytes ≡ Some read → length read.2 < length bytes
unfolding next_record
next-less cfg s [] read between is =
    absurd (no_read (ends_at_end s) (([] ∷ []), st.StartRecord, []) read between is)
next-less cfg s (c ∷ rest) read between is = by (is_end (step cfg s c).1) is
  where
    after : State × Action
    after = step cfg s c

    by : (ends : Bool)
        → (if ends then Some (fields_after after.1 [] [], after.0, rest)
        else next_record cfg after.0 (fields_after after.1 [] []) (field_after after.1 c []) rest)
        ≡ Some read
        → length read.2 < length (c ∷ rest)
    by true is =
        let same : (fields_after after.1 [] [], after.0, rest) ≡ read = cc in
        subst (λ r. length r.2 < length (c ∷ rest)) same (omega arith)
    by false is =
        let more = next-leaves cfg after.0 (fields_after after.1 [] []) (field_after after.1 c [])
        rest read is in
        omega (arith, more.fewer)

-- ---- the records that are left

module _ {R : Type 0} (known : R → Option (List ℕ)) (old new : Reader R)
    (left : List (List (List ℕ))) (is : IsLeft known old left) where
  -- A record that was read is the first of those that were left.
  pub takes-next : (fields : List (List ℕ)) → ReadRecord known old new true fields
      → took_first new ≡ true → TakesRecord known fields new left
  unfolding Reached records_from
  takes-next fields did taken = by is.most is.room is.is
    where
      by : (most : ℕ) → length is.bytes < most
          → left ≡ records_from default_config most (reader_state old) is.bytes
          → TakesRecord known fields new left
      by zero room e = absurd (omega arith)
      by (suc n) room e =
          let more = rows-more known old new fields default_config (reader_state old)
          is.bytes is.bytes [] is.config is.source (refl, refl) did in
          let read = more.2.0 in
          let next = more.2.1 in
          let less = next-less default_config (reader_state old) is.bytes read is.between next in
          let kept = next-leaves default_config (reader_state old) [] [] is.bytes read next in
          record {
            others = records_from default_config n (reader_state new) more.0;
            first = e
                ∙ ap (records_next (records_from default_config n)) next
                ∙ ap (λ fields. fields ∷ records_from default_config n read.1 read.2)
                (sym more.2.2)
                ∙ ap (λ s. fields ∷ records_from default_config n s read.2) more.2.3.0
                ∙ ap (λ bytes. fields ∷ records_from default_config n (reader_state new) bytes)
                more.2.3.1;
            rest = record {
              trim = did.3 ∙ is.trim;
              ready = inl taken;
              config = did.2 ∙ is.config;
              bytes = more.0;
              source = more.1;
              between = ap ends_at_end (sym more.2.3.0) ∙ kept.between;
              most = n;
              room = omega (arith, less, ap length more.2.3.1);
              is = refl;
            };
          }

  -- Where no record was read, none was left.
  pub none-left : (fields : List (List ℕ)) → ReadRecord known old new false fields → left ≡ []
  unfolding records_from
  none-left fields did = by is.most is.is
    where
      by : (most : ℕ) → left ≡ records_from default_config most (reader_state old) is.bytes
          → left ≡ []
      by zero e = e
      by (suc n) e =
          e ∙ ap (records_next (records_from default_config n))
          (rows-end known old new fields default_config is.bytes is.config is.source did)

-- All records are left of a reader that has read nothing.
pub IsLeft-begins : {R : Type 0} (known : R → Option (List ℕ)) (rows : Reader R)
    (bytes : List ℕ) → reader_trim rows ≡ trim.None → names_headers rows ≡ false
    → reader_headers rows ≡ None → reader_config rows ≡ default_config
    → reader_state rows ≡ st.StartRecord → source_of known rows ≡ Some bytes
    → IsLeft known rows (records default_config bytes)
IsLeft-begins known rows bytes trims plain headers config state source =
    record {
      trim = trims;
      ready = inr (inr (plain, headers));
      config = config;
      bytes = bytes;
      source = source;
      between = ap ends_at_end state;
      most = length bytes + 1;
      room = omega arith;
      is = sym (ap (λ s. records_from default_config (length bytes + 1) s bytes) state);
    }
