-- Every text has an outcome.
use Rattle.std.proofs.Common.{◌≡◌, ℕ, ◌+◌, ◌<◌, ◌≤◌, Bool, true, false, Option, Some, None, List, [], ◌∷◌, length, ◌-◌, ◌⊎◌, inl, inr, refl, sym, ◌∙◌, ap, subst, arith}
use Rattle.std.specs.Prelude.{position, min}
use Rattle.std.specs.Option.{option_or}
use Rattle.std.proofs.lemmas.Bool.{cases_lt}
use Rattle.tre_pairs.specs.declared.TheConstants.{TIME_MAX}
use Rattle.tre_zone.specs.Interval.{IntervalEnds, HasNoDuration, HasRoom, IsIntervalWithin}
use Rattle.tre_zone.proofs.Durations.{Lasts, no_end, room, no_room}
use Rattle.tre_syntax.specs.PatternTree.{PatternTree, node_count}
use Rattle.tre_syntax.specs.declared.pattern.TheConstants.{NODES_MAX}
use Rattle.tre_parse.specs.declared.token.Token.{Token}
use Rattle.tre_parse.specs.declared.token.Token.TheVariants.{Percent}
use Rattle.tre_parse.specs.declared.fault.ParseFault.TheVariants.{TooLong, BadByte, Number as TooBig, TooDeep, Syntax, EmptyInterval, TooManyNames, TooLarge}
use Rattle.tre_parse.specs.declared.limits.TheConstants.{TEXT_MAX, COUNT_MAX}
use Rattle.tre_parse.specs.Words.{Words, names_among}
use Rattle.tre_parse.specs.TokenWords.{words_by}
use Rattle.tre_parse.specs.Reader.{Reading, got, stop}
use Rattle.tre_parse.specs.Limits.{is_above, is_past, deep_place}
use Rattle.tre_parse.specs.Parts.{IsFineInterval}
use Rattle.tre_parse.specs.Outcome.{words, HasEmptyAt, IsFirst, SpellsAll, Outcome, spelt, refused, ComesFirst, IsOutcome}
use Rattle.tre_parse.specs.Scanned.{bad_byte}
use Rattle.tre_parse.specs.ScannedOutcome.{TextTokens, offset_of, NoneBelow, AreTokensOf, text_tokens_of}
use Rattle.tre_parse.specs.Unkept.{NoneEmpty, interval_from, BeginsUnkept, Finds, FindsUpTo}
use Rattle.tre_parse.proofs.Agreement.{scanned, scanned_tokens}
use Rattle.tre_parse.proofs.Fixpoint.{left}
use Rattle.tre_parse.proofs.Judging.{short, good_bytes, at_place, words_length, big_outcome, small, deep_outcome, shallow, cut_outcome, whole_spelt, found, none_past, first_past, past_syntax, past_intervals, past_names, past_size, no_big}
use Rattle.tre_parse.proofs.Unkept.{IsFound, or_none}
use Rattle.tre_parse.proofs.Whole.{read_whole, IsCut}

-- A fact, or that it is none.
abbrev Decided : Type 0 → Type 0
Decided P = P ⊎ (P → ⊥)

at_most : (a b : ℕ) → (b < a) ⊎ (a ≤ b) → Decided (a ≤ b)
at_most a b (inl lt) = inr (λ le. omega arith)
at_most a b (inr le) = inl le

less : (a b : ℕ) → (a < b) ⊎ (b ≤ a) → Decided (a < b)
less a b (inl lt) = inl lt
less a b (inr le) = inr (λ lt. omega arith)

room_or : (low : ℕ) (low_weak : Bool) (high : ℕ) (high_weak : Bool)
    → Decided (HasRoom low low_weak high high_weak)
room_or low true high true = at_most low high (cases_lt high low)
room_or low true high false = less low high (cases_lt low high)
room_or low false high true = less low high (cases_lt low high)
room_or low false high false = less low high (cases_lt low high)

lasting : (ends : IntervalEnds) → Lasts ends → Decided (HasNoDuration ends)
lasting ends l = inr (λ h. h l.d l.n l.some l.within)

with_room : (low : ℕ) (low_weak : Bool) (high : ℕ) (high_weak : Bool)
    → Decided (HasRoom low low_weak high high_weak)
    → Decided (HasNoDuration (record {
      low = low;
      low_weak = low_weak;
      high =
          Some high;
      high_weak = high_weak;
    }))
with_room low low_weak high high_weak (inl h) = lasting _ (room low low_weak high high_weak h)
with_room low low_weak high high_weak (inr h) = inl (no_room low low_weak high high_weak h)

ends_or : (low : ℕ) (low_weak : Bool) (high : Option ℕ) (high_weak : Bool)
    → Decided (HasNoDuration (record {
      low = low;
      low_weak = low_weak;
      high = high;
      high_weak =
          high_weak;
    }))
ends_or low low_weak None high_weak = lasting _ (no_end low low_weak high_weak)
ends_or low low_weak (Some high) high_weak = with_room _ _ high _ (room_or _ _ high _)

empty_or : (ends : IntervalEnds) → Decided (HasNoDuration ends)
empty_or ends = ends_or ends.low ends.low_weak ends.high ends.high_weak

-- ---- the first interval that can't be kept

within_or : (ends : IntervalEnds) → Decided (IsIntervalWithin TIME_MAX ends)
within_or ends = by (cases_lt TIME_MAX ends.low)
  where
    high_by : (low : ℕ) (low_weak : Bool) (high : Option ℕ) (high_weak : Bool) → low ≤ TIME_MAX
        → Decided (IsIntervalWithin TIME_MAX (record {
          low = low;
          low_weak = low_weak;
          high = high;
          high_weak = high_weak;
        }))
    high_by low low_weak None high_weak le = inl (record { low = le; high = tt })
    high_by low low_weak (Some high) high_weak le = high_of (cases_lt TIME_MAX high)
      where
        high_of : (TIME_MAX < high) ⊎ (high ≤ TIME_MAX) → Decided (IsIntervalWithin TIME_MAX (record {
          low = low;
          low_weak = low_weak;
          high = Some high;
          high_weak = high_weak;
        }))
        high_of (inl lt) = inr (λ w. let k = w.high in omega (arith, lt, k))
        high_of (inr more) = inl (record { low = le; high = more })

    by : (TIME_MAX < ends.low) ⊎ (ends.low ≤ TIME_MAX) → Decided (IsIntervalWithin TIME_MAX ends)
    by (inl lt) = inr (λ w. let k = w.low in omega (arith, lt, k))
    by (inr le) = high_by ends.low ends.low_weak ends.high ends.high_weak le

fine_or : (ends : IntervalEnds) → Decided (IsFineInterval ends)
fine_or ends = by (empty_or ends) (within_or ends)
  where
    by : Decided (HasNoDuration ends) → Decided (IsIntervalWithin TIME_MAX ends)
        → Decided (IsFineInterval ends)
    by (inl empty) w = inr (λ fine. fine.lasts empty)
    by (inr lasts) (inl within) = inl (record { lasts = lasts; within = within })
    by (inr lasts) (inr out) = inr (λ fine. out fine.within)

unkept_or : (tokens : List Token) → Decided (BeginsUnkept tokens)
unkept_or tokens = by (interval_from tokens) refl
  where
    same : (one other : IntervalEnds) → Some one ≡ Some other → one ≡ other
    same one other e = cc

    judged : (ends : IntervalEnds) → interval_from tokens ≡ Some ends → Decided (IsFineInterval ends)
        → Decided (BeginsUnkept tokens)
    judged ends e (inl fine) = inr (λ u. u.unkept
        (subst IsFineInterval (same ends u.ends (sym e ∙ u.reads)) fine))
    judged ends e (inr not_fine) = inl (record { ends = ends; reads = e; unkept = not_fine })

    by : (made : Option IntervalEnds) → interval_from tokens ≡ made → Decided (BeginsUnkept tokens)
    by None e = inr (λ u. let some = u.reads in (cc))
    by (Some ends) e = judged ends e (fine_or ends)

abbrev Found : List Token → Type 0
Found tokens = (found : Option ℕ) × Finds tokens found

found_here : (rest : List Token) → Decided (BeginsUnkept rest) → Found rest → Found (Percent ∷ rest)
found_here rest (inl u) k = (Some (length rest), inl (u, refl))
found_here rest (inr never) k = (k.0, inr (never, k.1))

finds_some : (tokens : List Token) → Found tokens
finds_some [] = (None, refl)
finds_some (Percent ∷ rest) = found_here rest (unkept_or rest) (finds_some rest)
finds_some (_ ∷ rest) = let k = finds_some rest in (k.0, k.1)

-- ---- one limit after the other

module _ (scale : ℕ) (text : List ℕ) where
  -- The refusal, or what comes of the limits behind it.
  abbrev First : Type 0
  First = (outcome : Outcome) × ComesFirst (scanned scale text) outcome

  abbrev Below : ℕ → Type 0
  Below n = NoneBelow scale text (scanned scale text) n

  abbrev tokens : TextTokens
  tokens = text_tokens_of scale text

  module _ (r : AreTokensOf scale text (scanned scale text) tokens) where
    named_or : (tree : PatternTree) → SpellsAll (scanned scale text) tree → Below 6
        → (past : Option ℕ) → position is_past tokens.tokens ≡ past → First
    named_or tree spells below (Some place) e = (
      refused (TooManyNames (offset_of tokens place)),
      (
        (
          place,
          first_past scale text (scanned scale text) tokens r place e,
          at_place scale text (scanned scale text) tokens r place,
        ),
        below,
      ),
    )
    named_or tree spells below None e = sized (cases_lt NODES_MAX (node_count tree))
      where
        all : Below 7
        all = past_names scale text (scanned scale text) below
            (none_past scale text (scanned scale text) tokens r e)

        sized : (NODES_MAX < node_count tree) ⊎ (node_count tree ≤ NODES_MAX) → First
        sized (inl large) =
            (refused (TooLarge (min (node_count tree) COUNT_MAX)), ((tree, spells, large, refl), all))
        sized (inr few) = (
          spelt tree (names_among (words (scanned scale text))),
          (
            refl,
            spells,
            past_size scale text (scanned scale text) all tree spells few,
          ),
        )

    lasting_or : (tree : PatternTree) → SpellsAll (scanned scale text) tree → Below 4
        → (unkept : Option ℕ)
        → IsFound scale (names_among (words (scanned scale text))) r.pieces r.theirs unkept → First
    lasting_or tree spells below (Some left) k =
        let read = scanned scale text in
        let known = names_among (words read) in
        let place = length (words_by scale known r.pieces) - left in
        let first = subst (λ (ws : Words). IsFirst (HasEmptyAt scale known ws) place)
        (sym r.written) k in (
          refused (EmptyInterval (offset_of tokens place)),
          (
            (place, first, at_place scale text read tokens r place),
            past_syntax scale text read below tree spells,
          ),
        )
    lasting_or tree spells below None k =
        let read = scanned scale text in
        let none = subst (λ (ws : Words). NoneEmpty scale (names_among (words read)) ws)
        (sym r.written) k in
        named_or tree spells (past_intervals scale text read
        (past_syntax scale text read below tree spells) none) _ refl

    cut_as : Below 4 → IsCut (read_whole tokens.tokens) → First
    cut_as below h =
        let rest = left (read_whole tokens.tokens) in
        let place = length tokens.tokens - length rest in (
          refused (Syntax (offset_of tokens place)),
          cut_outcome scale text (scanned scale text) tokens r _ rest below h refl refl,
        )

    read_on : Below 4 → (made : Reading PatternTree) → read_whole tokens.tokens ≡ made → First
    read_on below (stop rest) e = cut_as below (subst IsCut (sym e) tt)
    read_on below (got tree (t ∷ rest)) e = cut_as below (subst IsCut (sym e) (λ q. cc))
    read_on below (got tree []) e =
        let k = finds_some tokens.tokens in
        lasting_or tree (whole_spelt scale text (scanned scale text) tokens r tree e) below k.0
        (found scale text (scanned scale text) tokens r below k.0 (λ later none.
        subst (Finds tokens.tokens) (sym (ap (option_or k.0) none ∙ or_none k.0)) k.1))

    shallow_or : position is_above tokens.tokens ≡ None → (deep : Option ℕ)
        → deep_place 0 0 tokens.tokens ≡ deep → First
    shallow_or none (Some place) e = (
      refused (TooDeep (offset_of tokens place)),
      deep_outcome scale text (scanned scale text) tokens r place _ none e refl,
    )
    shallow_or none None e =
        read_on (shallow scale text (scanned scale text) tokens r none e) _ refl

    small_or : (big : Option ℕ) → position is_above tokens.tokens ≡ big → First
    small_or (Some place) e = (
      refused (TooBig (offset_of tokens place)),
      big_outcome scale text (scanned scale text) tokens r place _ e refl,
    )
    small_or None e = shallow_or e _ refl

  good_or : (bad : Option ℕ) → bad_byte text ≡ bad → length text ≤ TEXT_MAX → First
  good_or (Some at) e le = (refused (BadByte at), (e, short scale text (scanned scale text) le))
  good_or None e le =
      small_or (scanned_tokens scale text (good_bytes scale text (scanned scale text) le e)) _ refl

  pub outcome_is : (outcome : Outcome) × IsOutcome scale text outcome
  outcome_is = meant (by (cases_lt TEXT_MAX (length text)))
    where
      by : (TEXT_MAX < length text) ⊎ (length text ≤ TEXT_MAX) → First
      by (inl long) = (refused TooLong, (long, λ fault is. omega arith))
      by (inr le) = good_or (bad_byte text) refl le

      meant : First → (outcome : Outcome) × IsOutcome scale text outcome
      meant first = (first.0, (scanned scale text, first.1))
