-- Every text is some definitions by signals, or has a first fault.
use Rattle.std.proofs.Common.{◌≡◌, ◌⊎◌, ℕ, ◌<◌, ◌≤◌, Bool, true, false, Option, Some, None, List, [], ◌∷◌, ◌++◌, take, drop, inl, inr, refl, sym, ap, subst, ◌∙◌, arith, rules}
use Rattle.std.proofs.lemmas.Bool.{cases_lt}
use Rattle.std.proofs.lemmas.List.{length-take, take-append-drop}
use Rattle.std.proofs.lemmas.Option.{none-some}
use Rattle.std.specs.Str.{IsUtf8}
use Rattle.tre_state.specs.Name.{continues_name, IsName}
use Rattle.tre_define.specs.declared.let_fault.LetFault.{LetFault}
use Rattle.tre_define.specs.declared.reads.Reads.{Reads}
use Rattle.tre_define.specs.Behind.{ReadBehind, read_behind}
use Rattle.tre_define.specs.Pieces.{behind_equals, behind_piece, past_spaces, piece}
use Rattle.tre_define.specs.Signals.{AreRefused, DefineSignals, IsReadBehind, IsSignal, SignalDefined, Spells, name_of_signal, signal_len}
use Rattle.tre_define.specs.Texts.{parts_of}
use Rattle.tre_define.proofs.Cutting.{equals-is}
use Rattle.tre_define.proofs.Deciding.{Decided, name_or}
use Rattle.tre_define.proofs.ReadsOf.{nothing-read, read-is}
use Rattle.tre_define.proofs.SignalLength.{len-within}
use Rattle.tre_define.proofs.SignalParts.{AreParts, behind-text, cut-at, other-text, parts-are, parts-spell}
use Rattle.tre_define.proofs.SomeReading as texts
use Rattle.tre_define.proofs.SomeReading.{IsOrNot}

-- ---- one part

signal-cut : (rest : List ℕ) → 0 < signal_len rest
    → IsSignal (take (signal_len rest) rest) (drop (signal_len rest) rest)
signal-cut rest some = search (rules, signal_len, length-take, len-within, take-append-drop)

-- Of one text the parts are cut in one way.
pub same-rest : (text after : List ℕ) (defined : SignalDefined) (parts : AreParts text defined)
    → behind_equals (behind_piece continues_name text) ≡ Some after
    → past_spaces after ≡ defined.signal ++ parts.behind
same-rest text after defined parts found = search rules

pub no-signal : (text after : List ℕ) (defined : SignalDefined) → Spells text defined
    → behind_equals (behind_piece continues_name text) ≡ Some after
    → (0 < signal_len (past_spaces after) → ⊥) → ⊥
no-signal text after defined is found none =
    let parts = parts-are text defined is in
    let rest = same-rest text after defined parts found in
    none (omega (arith, ap signal_len rest ∙ parts.signal.all, parts.signal.some))

pub no-reads : (text after : List ℕ) (defined : SignalDefined) → Spells text defined
    → behind_equals (behind_piece continues_name text) ≡ Some after
    → IsReadBehind defined.reads defined.other
    (drop (signal_len (past_spaces after)) (past_spaces after))
no-reads text after defined is found =
    let parts = parts-are text defined is in
    let rest = same-rest text after defined parts found in
    let cut = cut-at (past_spaces after) defined.signal parts.behind rest parts.signal in
    subst (λ xs. IsReadBehind defined.reads defined.other xs) (sym cut.back) parts.read

-- The parts that were cut are a definition.
pub cut-spells : (text after : List ℕ) (reads : Reads) (other : List ℕ)
    → behind_equals (behind_piece continues_name text) ≡ Some after
    → 0 < signal_len (past_spaces after)
    → IsReadBehind reads other (drop (signal_len (past_spaces after)) (past_spaces after))
    → IsName (piece continues_name text)
    → Spells text (record {
      name = piece continues_name text;
      signal = take (signal_len (past_spaces after)) (past_spaces after);
      reads = reads;
      other = other;
    })
cut-spells text after reads other found some read name =
    let rest = past_spaces after in
    parts-spell text (record {
      name = piece continues_name text;
      signal = take (signal_len rest) rest;
      reads = reads;
      other = other;
    }) (record {
      after = after;
      behind = drop (signal_len rest) rest;
      name = refl;
      equals = equals-is (behind_piece continues_name text) after found;
      rest = sym (take-append-drop (signal_len rest) rest);
      signal = signal-cut rest some;
      read = read;
    }) name

pub other-read : (text after : List ℕ) (read : ReadBehind) → IsUtf8 text
    → IsName (piece continues_name text)
    → behind_equals (behind_piece continues_name text) ≡ Some after
    → read_behind (drop (signal_len (past_spaces after)) (past_spaces after)) ≡ Some read
    → IsUtf8 read.other
other-read text after read is name found told =
    let behind = drop (signal_len (past_spaces after)) (past_spaces after) in
    other-text behind read.reads read.other
    (behind-text text after is name.0 (equals-is (behind_piece continues_name text) after found))
    (read-is behind read told)

module _ (part after : List ℕ)
    (found : behind_equals (behind_piece continues_name part) ≡ Some after) where
  at_name : (read : ReadBehind) → 0 < signal_len (past_spaces after)
      → IsReadBehind read.reads read.other
      (drop (signal_len (past_spaces after)) (past_spaces after))
      → Decided (IsName (piece continues_name part)) → IsOrNot Spells part
  at_name read some is (inl name) =
      inl (_, cut-spells part after read.reads read.other found some is name)
  at_name read some is (inr never) = inr (λ defined is.
      let parts = parts-are part defined is in
      never (subst IsName (sym parts.name) is.name))

  at_reads : 0 < signal_len (past_spaces after) → (read : Option ReadBehind)
      → read_behind (drop (signal_len (past_spaces after)) (past_spaces after)) ≡ read
      → IsOrNot Spells part
  at_reads some (Some read) e =
      at_name read some
      (read-is (drop (signal_len (past_spaces after)) (past_spaces after)) read e)
      (name_or (piece continues_name part))
  at_reads some None e = inr (λ defined is.
      nothing-read (drop (signal_len (past_spaces after)) (past_spaces after)) e defined.reads
      defined.other (no-reads part after defined is found))

  at_signal : (0 < signal_len (past_spaces after)) ⊎ (signal_len (past_spaces after) ≤ 0)
      → IsOrNot Spells part
  at_signal (inl some) =
      at_reads some _ refl
  at_signal (inr none) = inr (λ defined is.
      no-signal part after defined is found (λ some. absurd (omega (arith, none, some))))

at_equals : (part : List ℕ) (after : Option (List ℕ))
    → behind_equals (behind_piece continues_name part) ≡ after → IsOrNot Spells part
at_equals part None e = inr (λ defined is.
    let parts = parts-are part defined is in
    none-some parts.after (sym e ∙ ap behind_equals parts.equals))
at_equals part (Some after) e = at_signal _ after e (cases_lt 0 (signal_len (past_spaces after)))

is_or_not : (part : List ℕ) → IsOrNot Spells part
is_or_not part = at_equals part (behind_equals (behind_piece continues_name part)) refl

pub some_reading : (text : List ℕ)
    → ((definitions : List SignalDefined) × DefineSignals (parts_of text) definitions)
    ⊎ ((fault : LetFault) × AreRefused (parts_of text) fault)
some_reading = texts.some_reading Spells name_of_signal is_or_not
