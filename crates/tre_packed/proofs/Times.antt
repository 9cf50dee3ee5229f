-- The offsets of segments, and of some more behind them.
use Rattle.std.proofs.Common.{◌≡◌, ℕ, zero, suc, ◌+◌, ◌-◌, ◌*◌, ◌/◌, ◌%◌, ◌≤◌, ◌<◌, inl, inr, List, [], ◌∷◌, ◌++◌, length, take, get_or, refl, sym, ap, ◌∙◌, arith}
use Rattle.std.proofs.lemmas.Bool.{cases_lt}
use Rattle.std.proofs.lemmas.List.{length-append, take-append-le, get_or_append_left, get_or-append_right}
use Rattle.tre_packed.specs.Times.{offsets_from, AreOffsets}
use Rattle.tre_trace.proofs.Segments.{end_of-append, end_of-take-le}
use Rattle.tre_trace.specs.Trace.{end_of}
use Rattle.tre_trace.specs.declared.segment.Segment.{Segment}

pub length-offsets : (first : ℕ) (segments : List Segment)
    → length (offsets_from first segments) ≡ length segments
length-offsets first [] = refl
length-offsets first (segment ∷ rest) = ap suc (length-offsets (first + segment.len) rest)

get-offsets : (first : ℕ) (segments : List Segment) (place : ℕ) → place < length segments
    → get_or (offsets_from first segments) place 0 ≡ end_of first (take place segments)
get-offsets first [] place within = absurd (omega (arith, within))
get-offsets first (segment ∷ rest) zero within = refl
get-offsets first (segment ∷ rest) (suc place) within =
    get-offsets (first + segment.len) rest place (omega (arith, within))

end_of-shift : (start first : ℕ) (segments : List Segment)
    → start + end_of first segments ≡ end_of (start + first) segments
end_of-shift start first [] = refl
end_of-shift start first (segment ∷ rest) =
    let step : start + (first + segment.len) ≡ start + first + segment.len = omega arith in
    end_of-shift start (first + segment.len) rest ∙ ap (λ t. end_of t rest) step

-- as far from its block's begin as from the begin of all
pub end-from : (start end : ℕ) (segments : List Segment) → start ≤ end
    → start + end_of (end - start) segments ≡ end_of end segments
end-from start end segments order =
    let whole : start + (end - start) ≡ end = omega (arith, order) in
    end_of-shift start (end - start) segments ∙ ap (λ t. end_of t segments) whole

take_behind : (front block : List Segment) (place : ℕ) → length front ≤ place
    → take place (front ++ block) ≡ front ++ take (place - length front) block
take_behind [] block place late = ap (λ n. take n block) (omega arith)
take_behind (first ∷ rest) block zero late = absurd (omega (arith, late))
take_behind (first ∷ rest) block (suc place) late =
    let step : suc place - suc (length rest) ≡ place - length rest = omega arith in
    rw step (ap (λ l. first ∷ l) (take_behind rest block place (omega (arith, late))))

pub AreOffsets-none : AreOffsets [] []
AreOffsets-none = record { size = refl; times = λ place within. absurd (omega (arith, within)) }

-- more segments behind them, for which the last block, or one behind it, has room
module _ (front block : List Segment) (offsets : List ℕ) (start : ℕ)
    (are : AreOffsets front offsets) (room : length front % 64 + length block ≤ 64)
    (starts : start ≡ end_of 0 (take (length front / 64 * 64) front)) where
  abbrev end : ℕ
  end = end_of 0 front

  pub start-le : start ≤ end_of 0 front
  start-le = omega (arith, starts, end_of-take-le 0 front (length front / 64 * 64))

  abbrev new : List ℕ
  new = offsets_from (end - start) block

  block_of : (place : ℕ) → place / 64 * 64 ≤ length front
      → end_of 0 (take (place / 64 * 64) (front ++ block)) ≡ end_of 0 (take (place / 64 * 64) front)
  block_of place below =
      ap (end_of 0) (take-append-le (place / 64 * 64) front block below)

  early : (place : ℕ) → place < length front
      → end_of 0 (take (place / 64 * 64) (front ++ block)) + get_or (offsets ++ new) place 0
      ≡ end_of 0 (take place (front ++ block))
  early place within =
      let offset = get_or_append_left offsets new 0 place (omega (arith, within, are.size)) in
      let there = ap (end_of 0) (take-append-le place front block (omega (arith, within))) in
      omega (arith, block_of place (omega (arith, within)), offset, there, are.times place within)

  late : (place : ℕ) → length front ≤ place → place < length front + length block
      → end_of 0 (take (place / 64 * 64) (front ++ block)) + get_or (offsets ++ new) place 0
      ≡ end_of 0 (take place (front ++ block))
  late place past within =
      let same : place / 64 * 64 ≡ length front / 64 * 64 = omega (arith, past, within, room) in
      let begun = block_of place (omega (arith, same)) ∙ ap (λ n. end_of 0 (take n front)) same
      ∙ sym starts in
      let offset =
      get_or-append_right offsets new (length front) place 0 are.size past
      ∙ get-offsets (end - start) block (place - length front) (omega (arith, past, within)) in
      let there =
      ap (end_of 0) (take_behind front block place past)
      ∙ end_of-append 0 front (take (place - length front) block) in
      let shifted = end-from start end (take (place - length front) block) start-le in
      omega (arith, begun, offset, there, shifted)

  pub AreOffsets-more : AreOffsets (front ++ block) (offsets ++ offsets_from (end_of 0 front - start) block)
  AreOffsets-more = record {
    size =
        omega (
          arith,
          length-append offsets new,
          length-append front block,
          are.size,
          length-offsets (end - start) block,
        );
    times = λ place within.
        elim (cases_lt place (length front)) [
          | inl below ↦ early place below
          | inr past ↦ late place past (omega (arith, within, length-append front block))
        ];
  }
