-- Texts of definitions, and what stands before each bracket of them.
use Rattle.std.proofs.Common.{◌≡◌, ℕ, ◌+◌, ◌<◌, Bool, true, false, not, ◌&&◌, ◌||◌, List, [], ◌∷◌, length, take, get_or, Result, Ok, Err, inl, inr, refl, sym, ap, subst, ◌∙◌, arith}
use Rattle.std.specs.Prelude.{All, OnOk, slice_index}
use Rattle.std.specs.List.{list_all, list_any}
use Rattle.std.specs.Str.{bytes_eq}
use Rattle.std.proofs.lemmas.Bool.{cases_lt}
use Rattle.std.proofs.lemmas.List.{take_at, take_more}
use Rattle.std.proofs.lemmas.List.Elements.{All-push}
use Rattle.std.proofs.lemmas.Slice.Eq.{bytes_eq-Decides}
use Rattle.std.proofs.Math.Seq.{get_or-append_seam}
use Rattle.tre_define.specs.Named.{IsFront}
use Rattle.tre_define.specs.Signals.{SignalDefined}
use Rattle.tre_vcd.specs.Bases.{HasFront, HasSignal, HasSignals, HasTexts}
use Rattle.tre_vcd.specs.declared.bases.Bases.{Bases}

apart-step : (same others all : Bool) → (others ≡ false → all ≡ true)
    → (same || others) ≡ false → (not same && all) ≡ true
apart-step true others all more none = absurd (cc (none))
apart-step false others all more none = more none

none-apart : (name : List ℕ) (names : List (List ℕ)) → list_any (bytes_eq name) names ≡ false
    → list_all (λ other. not (bytes_eq name other)) names ≡ true
none-apart name [] none = refl
none-apart name (other ∷ names) none =
    apart-step (bytes_eq name other) _ _ (none-apart name names) none

-- a name that isn't found among them is none of them
pub not-among : (name : List ℕ) (names : List (List ℕ)) → list_any (bytes_eq name) names ≡ false
    → ¬ ((test : List ℕ → Bool) → list_all test names ≡ true → test name ≡ true)
not-among name names none among =
    let other = among (λ it. not (bytes_eq name it)) (none-apart name names none) in
    let same = (bytes_eq-Decides name name).1 refl in
    cc (other, same)

front-on : {T E : Type 0} (result : Result T E) (mid new : Bases) (text front : List ℕ)
    → ((k : ℕ) → slice_index text k ≡ 91 → HasFront mid (take k text))
    → OnOk result (HasFront new text)
    → ((other : List ℕ) → HasFront mid other → OnOk result (HasFront new other))
    → IsFront front text → OnOk result (HasFront new front)
front-on result mid new text front fronts whole kept (inl same) =
    subst (λ own. OnOk result (HasFront new own)) same whole
front-on result mid new text front fronts whole kept (inr (back, is)) =
    let bracket : slice_index text (length front) ≡ 91 =
    ap (λ all. slice_index all (length front)) is ∙ get_or-append_seam front 91 back 0 in
    let own : take (length front) text ≡ front =
    ap (take (length front)) is ∙ take_at front (91 ∷ back) (length front) refl in
    kept front (subst (HasFront mid) own (fronts (length front) bracket))

-- all fronts of a text, once those before its brackets are there, and then the whole
pub signal-added : {T E : Type 0} (result : Result T E) (mid new : Bases) (text : List ℕ)
    → ((k : ℕ) → slice_index text k ≡ 91 → HasFront mid (take k text))
    → OnOk result (HasFront new text)
    → ((other : List ℕ) → HasFront mid other → OnOk result (HasFront new other))
    → OnOk result (HasSignal new text)
signal-added {T = T} {E = E} (Ok value) mid new text fronts whole kept = record {
  fronts = λ front is. front-on {T = T} {E = E} (Ok value) mid new text front fronts whole kept is;
}
signal-added (Err error) mid new text fronts whole kept = tt

-- more fronts are there
signal-kept : (old new : Bases) (text : List ℕ)
    → ((other : List ℕ) → HasFront old other → HasFront new other) → HasSignal old text
    → HasSignal new text
signal-kept old new text kept has = record {
  fronts = λ front is. kept front (has.fronts front is);
}

texts-kept : (old new : Bases) (one : SignalDefined)
    → ((other : List ℕ) → HasFront old other → HasFront new other) → HasTexts old one
    → HasTexts new one
texts-kept old new one kept has = record {
  signal = signal-kept old new one.signal kept has.signal;
  other = signal-kept old new one.other kept has.other;
}

-- one definition more
pub signals-more : (old mid new : Bases) (all : List SignalDefined) (i : ℕ) (one : SignalDefined)
    (signal other : List ℕ) → i < length all → get_or all i one ≡ one → signal ≡ one.signal
    → other ≡ one.other → ((text : List ℕ) → HasFront old text → HasFront mid text)
    → ((text : List ℕ) → HasFront mid text → HasFront new text)
    → HasSignals old (take i all) → HasSignal mid signal → HasSignal new other
    → HasSignals new (take (i + 1) all)
signals-more old mid new all i one signal other below same is other_is first second before own
    last =
    let kept = λ (text : List ℕ) (has : HasFront old text). second text (first text has) in
    let old_ones : All (HasTexts new) (take i all) =
    λ k d within. texts-kept old new (get_or (take i all) k d) kept (before.each k d within) in
    let both : HasTexts new one = record {
      signal = subst (HasSignal new) is (signal-kept mid new signal second own);
      other = subst (HasSignal new) other_is last;
    } in
    record {
      each = subst (All (HasTexts new)) (sym (take_more all i one below))
          (All-push (HasTexts new) (take i all) (get_or all i one) old_ones
          (subst (HasTexts new) (sym same) both));
    }

-- one place more
pub fronts-more : (old new : Bases) (text : List ℕ) (place : ℕ)
    → ((k : ℕ) → k < place → slice_index text k ≡ 91 → HasFront old (take k text))
    → (slice_index text place ≡ 91 → HasFront new (take place text))
    → ((other : List ℕ) → HasFront old other → HasFront new other)
    → (k : ℕ) → k < place + 1 → slice_index text k ≡ 91 → HasFront new (take k text)
fronts-more old new text place before here kept k below bracket = elim (cases_lt k place) [
  | inl inside ↦ kept (take k text) (before k inside bracket)
  | inr past ↦
      let same : place ≡ k = omega (arith, past, below) in
      subst (λ n. slice_index text n ≡ 91 → HasFront new (take n text)) same here bracket
]
