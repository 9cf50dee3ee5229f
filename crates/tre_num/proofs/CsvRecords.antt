-- The records of the crate csv, by its defaults, are those of specs/Records.antt.
use Rattle.std.proofs.Common.{rules, refl, ap, ◌≡◌, ◌∙◌, ℕ, zero, suc, Bool, List, ◌+◌, ◌<◌, length, ◌||◌, true, false, [], ◌∷◌, ◌++◌, ◌==◌, arith, true≢false}
use Rattle.std.proofs.lemmas.Bool.Decides.{nat_tests}
use Rattle.std.specs.Prelude.{if◌then◌else◌, None, Some, take, drop, slice_get}
use Rattle.csv.specs.Records.{field_at}
use Rattle.std.specs.Str.{bytes_eq}
use Rattle.csv.specs.Reading.{records_next, records_from, default_config, strip_bom, is_bom}
use Rattle.csv.specs.Reading as kit
use Rattle.csv.specs.Machine.{next_record, fields_after, field_after, is_end}
use Rattle.csv.specs.declared.parser.State.{State}
use Rattle.csv.specs.declared.parser.State.TheVariants as st
use Rattle.csv.specs.declared.parser.Action.{Action}
use Rattle.csv.specs.declared.parser.Action.TheVariants as act
use Rattle.tre_num.specs.Records.{line, field, bare, quoted, closed, records, records_of, byte_order_mark}

-- what follows one step
abbrev on : ℕ → State × Action → ℕ → List (List ℕ) → List ℕ → List ℕ → List (List (List ℕ))
on n p c fields text rest = records_next (records_from default_config n)
    (if is_end p.1 then Some (fields_after p.1 fields text, p.0, rest)
    else next_record default_config p.0 (fields_after p.1 fields text) (field_after p.1 c text) rest)

abbrev from_state : ℕ → State → List (List ℕ) → List ℕ → List ℕ → List (List (List ℕ))
from_state n s fields text rest =
    records_next (records_from default_config n) (next_record default_config s fields text rest)

-- all states say the same of the rest
record Says (n : ℕ) (rest : List ℕ) : Type 0 where
  starts : from_state n st.StartRecord [] [] rest ≡ records line [] [] rest
  cr : from_state n st.AfterCr [] [] rest ≡ records line [] [] rest
  start_field : (fields : List (List ℕ)) → from_state n st.StartField fields [] rest ≡ records field [] fields rest
  in_field : (text : List ℕ) (fields : List (List ℕ)) → from_state n st.InField fields text rest ≡ records bare text fields rest
  in_quotes : (text : List ℕ) (fields : List (List ℕ)) → from_state n st.InQuoted fields text rest ≡ records quoted text fields rest
  behind : (text : List ℕ) (fields : List (List ℕ)) → from_state n st.AfterQuote fields text rest ≡ records closed text fields rest

record Same (n : ℕ) (rest : List ℕ) : Type 0 where
  says : Says n rest
  end : records_from default_config n st.StartRecord rest ≡ records line [] [] rest
  end_cr : records_from default_config n st.AfterCr rest ≡ records line [] [] rest

-- within a field
within : (n c : ℕ) (rest : List ℕ) → Same n rest → (d r l : Bool) (fields : List (List ℕ)) (text : List ℕ)
    → on n (if d then (st.StartField, act.EndField)
    else if r || l then (if r then st.AfterCr else st.StartRecord, act.EndRecord) else (st.InField, act.Copy)) c fields text rest
    ≡ (if d then records field [] (fields ++ text ∷ []) rest
    else (if r || l then (fields ++ text ∷ []) ∷ records line [] [] rest else records bare (text ++ c ∷ []) fields rest))
within n c rest h true r l fields text = h.says.start_field (fields ++ text ∷ [])
within n c rest h false true l fields text = ap (λ x. (fields ++ text ∷ []) ∷ x) h.end_cr
within n c rest h false false true fields text = ap (λ x. (fields ++ text ∷ []) ∷ x) h.end
within n c rest h false false false fields text = h.says.in_field (text ++ c ∷ []) fields

-- at the begin of a field
begun : (n c : ℕ) (rest : List ℕ) → Same n rest → (q d r l : Bool) (fields : List (List ℕ))
    → on n (if q then (st.InQuoted, act.Skip) else if d then (st.StartField, act.EndField)
    else if r || l then (if r then st.AfterCr else st.StartRecord, act.EndRecord) else (st.InField, act.Copy)) c fields [] rest
    ≡ (if q then records quoted [] fields rest else (if d then records field [] (fields ++ [] ∷ []) rest
    else (if r || l then (fields ++ [] ∷ []) ∷ records line [] [] rest else records bare (c ∷ []) fields rest)))
begun n c rest h true d r l fields = h.says.in_quotes [] fields
begun n c rest h false d r l fields = within n c rest h d r l fields []

-- behind quotes
after : (n c : ℕ) (rest : List ℕ) → Same n rest → (q d r l : Bool) (fields : List (List ℕ)) (text : List ℕ)
    → on n (if q then (st.InQuoted, act.Copy) else if d then (st.StartField, act.EndField)
    else if r || l then (if r then st.AfterCr else st.StartRecord, act.EndRecord) else (st.InField, act.Copy)) c fields text rest
    ≡ (if q then records quoted (text ++ c ∷ []) fields rest else (if d then records field [] (fields ++ text ∷ []) rest
    else (if r || l then (fields ++ text ∷ []) ∷ records line [] [] rest else records bare (text ++ c ∷ []) fields rest)))
after n c rest h true d r l fields text = h.says.in_quotes (text ++ c ∷ []) fields
after n c rest h false d r l fields text = within n c rest h d r l fields text

quotes : (n c : ℕ) (rest : List ℕ) → Same n rest → (q : Bool) (fields : List (List ℕ)) (text : List ℕ)
    → on n (if q then (st.AfterQuote, act.Skip) else (st.InQuoted, act.Copy)) c fields text rest
    ≡ (if q then records closed text fields rest else records quoted (text ++ c ∷ []) fields rest)
quotes n c rest h true fields text = h.says.behind text fields
quotes n c rest h false fields text = h.says.in_quotes (text ++ c ∷ []) fields

-- at the begin of a line: the order of the tests is another one
begins : (n c : ℕ) (rest : List ℕ) → Same n rest → (q d r l : Bool)
    → (q ≡ true → (r || l) ≡ false) → (d ≡ true → (r || l) ≡ false)
    → on n (if r || l then (st.StartRecord, act.Skip) else if q then (st.InQuoted, act.Skip)
    else if d then (st.StartField, act.EndField)
    else if r || l then (if r then st.AfterCr else st.StartRecord, act.EndRecord) else (st.InField, act.Copy)) c [] [] rest
    ≡ (if q then records quoted [] [] rest else (if d then records field [] ([] ∷ []) rest
    else (if r || l then records line [] [] rest else records bare (c ∷ []) [] rest)))
begins n c rest h true d true l qs ds = absurd (true≢false (qs refl))
begins n c rest h true d false true qs ds = absurd (true≢false (qs refl))
begins n c rest h true d false false qs ds = h.says.in_quotes [] []
begins n c rest h false true true l qs ds = absurd (true≢false (ds refl))
begins n c rest h false true false true qs ds = absurd (true≢false (ds refl))
begins n c rest h false true false false qs ds = h.says.start_field ([] ∷ [])
begins n c rest h false false true l qs ds = h.says.starts
begins n c rest h false false false true qs ds = h.says.starts
begins n c rest h false false false false qs ds = h.says.in_field (c ∷ []) []

behind_cr : (n c : ℕ) (rest : List ℕ) → Same n rest → (q d r l : Bool)
    → (q ≡ true → (r || l) ≡ false) → (d ≡ true → (r || l) ≡ false)
    → on n (if l then (st.StartRecord, act.Skip) else if r || l then (st.StartRecord, act.Skip)
    else if q then (st.InQuoted, act.Skip) else if d then (st.StartField, act.EndField)
    else if r || l then (if r then st.AfterCr else st.StartRecord, act.EndRecord) else (st.InField, act.Copy)) c [] [] rest
    ≡ (if q then records quoted [] [] rest else (if d then records field [] ([] ∷ []) rest
    else (if r || l then records line [] [] rest else records bare (c ∷ []) [] rest)))
behind_cr n c rest h q d r false qs ds = begins n c rest h q d r false qs ds
behind_cr n c rest h true d true true qs ds = absurd (true≢false (qs refl))
behind_cr n c rest h true d false true qs ds = absurd (true≢false (qs refl))
behind_cr n c rest h false true true true qs ds = absurd (true≢false (ds refl))
behind_cr n c rest h false true false true qs ds = absurd (true≢false (ds refl))
behind_cr n c rest h false false true true qs ds = h.says.starts
behind_cr n c rest h false false false true qs ds = h.says.starts

no_end : (c : ℕ) → (c == 34) ≡ true → ((c == 13) || (c == 10)) ≡ false
no_end c is = grind (arith, nat_tests)

no_comma : (c : ℕ) → (c == 44) ≡ true → ((c == 13) || (c == 10)) ≡ false
no_comma c is = grind (arith, nat_tests)

steps : (n c : ℕ) (rest : List ℕ) → Same n rest → Says n (c ∷ rest)
unfolding next_record records
steps n c rest h = record {
  starts = begins n c rest h (c == 34) (c == 44) (c == 13) (c == 10) (no_end c) (no_comma c);
  cr = behind_cr n c rest h (c == 34) (c == 44) (c == 13) (c == 10) (no_end c) (no_comma c);
  start_field = λ fields. begun n c rest h (c == 34) (c == 44) (c == 13) (c == 10) fields;
  in_field = λ text fields. within n c rest h (c == 44) (c == 13) (c == 10) fields text;
  in_quotes = λ text fields. quotes n c rest h (c == 34) fields text;
  behind = λ text fields. after n c rest h (c == 34) (c == 44) (c == 13) (c == 10) fields text;
}

none : (n : ℕ) (s : State) → next_record default_config s [] [] [] ≡ None
    → records_from default_config n s [] ≡ []
unfolding records_from
none zero s is = refl
none (suc n) s is = ap (records_next (records_from default_config n)) is

at_end : (n : ℕ) → Same n []
unfolding next_record records
at_end n = record {
  says = record {
    starts = refl;
    cr = refl;
    start_field = λ fields. ap (λ x. (fields ++ [] ∷ []) ∷ x) (none n st.StartRecord refl);
    in_field = λ text fields. ap (λ x. (fields ++ text ∷ []) ∷ x) (none n st.StartRecord refl);
    in_quotes = λ text fields. ap (λ x. (fields ++ text ∷ []) ∷ x) (none n st.StartRecord refl);
    behind = λ text fields. ap (λ x. (fields ++ text ∷ []) ∷ x) (none n st.StartRecord refl);
  };
  end = none n st.StartRecord refl;
  end_cr = none n st.AfterCr refl;
}

whole : (rest : List ℕ) (n : ℕ) → length rest < n → Same n rest
unfolding records_from
whole [] n fits = at_end n
whole (c ∷ rest) zero fits = absurd (omega (arith, fits))
whole (c ∷ rest) (suc n) fits =
    let here = steps (suc n) c rest (whole rest (suc n) (omega (arith, fits))) in
    let next = steps n c rest (whole rest n (omega (arith, fits))) in
    record { says = here; end = next.starts; end_cr = next.cr }

pub tables : (bytes : List ℕ) → kit.records default_config bytes ≡ records line [] [] bytes
tables bytes = (whole bytes (length bytes + 1) (omega arith)).end

-- A byte order mark counts for nothing in both.
unmarked : (bytes : List ℕ) → strip_bom bytes
    ≡ (if bytes_eq (take 3 bytes) byte_order_mark then drop 3 bytes else bytes)
unfolding strip_bom
unmarked [] = refl
unmarked (a ∷ []) = search rules
unmarked (a ∷ b ∷ []) = search rules
unmarked (a ∷ b ∷ c ∷ rest) = search rules

pub same_records : (bytes : List ℕ) → kit.records default_config (strip_bom bytes) ≡ records_of bytes
same_records bytes = ap (kit.records default_config) (unmarked bytes) ∙ tables _

pub field-is : (fields : List (List ℕ)) (place : ℕ) → field_at fields place ≡ slice_get fields place
unfolding field_at
field-is [] place = refl
field-is (one ∷ fields) zero = refl
field-is (one ∷ fields) (suc place) = field-is fields place
