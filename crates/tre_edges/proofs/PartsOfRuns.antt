-- The stretches of a run that begin or end at its edges, as one zone.
use Rattle.std.proofs.Common.{◌≡◌, ℕ, ◌+◌, ◌-◌, ◌*◌, ◌<◌, ◌≤◌, ◌↔◌, Bool, true, false, None, List, arith, ap, ⊎_elim, pos, ◌-ℤ◌, neg_ℤ, refl, ℤ, rules}
use Rattle.std.proofs.Math.Nat.{mul-le-mul_right}
use Rattle.std.proofs.lemmas.Int.{ints}
use Rattle.std.specs.Prelude.{◌&&◌, if◌then◌else◌, IsTrue}
use Rattle.tre_pairs.specs.Pairs.{Pairs, Either, Lasting}
use Rattle.tre_pairs.specs.declared.TheConstants.{TIME_MAX}
use Rattle.tre_state.specs.StateTree.{StateTree}
use Rattle.tre_syntax.specs.PatternTree.{literal}
use Rattle.tre_syntax.specs.Rest.{Rest, AtomMatches}
use Rattle.tre_zone.specs.Bound.{Meets}
use Rattle.tre_zone.specs.Zone.{IsInSpan, ZoneHolds, IsCanonical, IsZoneOf}
use Rattle.tre_zone.specs.ZoneList.{SetHolds, HoldExactly}
use Rattle.tre_zone.specs.declared.zone_bounds.ZoneBounds.{ZoneBounds}
use Rattle.tre_zone.proofs.CanonicalBounds.{bounds-canonical}
use Rattle.tre_zone.proofs.Bounds.{Meets-at_most, Meets-at_least, Meets-less, Meets-more}
use Rattle.tre_edges.specs.Ends.{EndBefore}
use Rattle.tre_edges.specs.RunParts.{IsPart, IsRunPart, LastsIn}
use Rattle.tre_edges.specs.RunsInTime.{part_of}
use Rattle.tre_edges.specs.declared.run_edges.RunEdges.{RunEdges}

abbrev pub edges_of : Bool → Bool → RunEdges
edges_of rise fall = record { rise = rise; fall = fall }

-- The six bounds, one by one.
pub part-is : (edges : RunEdges) (begin end : ℕ)
    {begin_low begin_high end_low end_high dur_low dur_high : ℤ}
    → begin_low ≡ pos 1 -ℤ pos (2 * begin)
    → begin_high ≡ (if edges.rise then pos (2 * begin + 1) else pos (2 * end))
    → end_low ≡ (if edges.fall then pos 1 -ℤ pos (2 * end) else neg_ℤ (pos (2 * begin)))
    → end_high ≡ pos (2 * end + 1)
    → dur_low ≡ (if edges.rise && edges.fall then pos 1 -ℤ pos (2 * (end - begin)) else pos 0)
    → dur_high ≡ pos (2 * (end - begin) + 1)
    → record {
      begin_low = begin_low;
      begin_high = begin_high;
      end_low = end_low;
      end_high = end_high;
      dur_low = dur_low;
      dur_high = dur_high;
    } ≡ part_of edges.rise edges.fall begin end
part-is edges begin end one two three four five six = rw (one, two, three, four, five, six) refl

module _ (begin end : ℕ) (rising : begin < end) (limit : end ≤ TIME_MAX) where
  pub part-canonical : (rise fall : Bool) → IsCanonical (part_of rise fall begin end)
  part-canonical true true =
      bounds-canonical begin end (end - begin) (pos (2 * begin + 1)) (pos 1 -ℤ pos (2 * end))
      (pos 1 -ℤ pos (2 * (end - begin))) limit (omega arith) (omega (arith, ints)) (omega (arith, ints))
      (omega (arith, ints)) (omega (arith, ints)) (omega (arith, ints)) (omega (arith, ints))
  part-canonical true false =
      bounds-canonical begin end (end - begin) (pos (2 * begin + 1)) (neg_ℤ (pos (2 * begin)))
      (pos 0) limit (omega arith) (omega (arith, ints)) (omega (arith, ints))
      (omega (arith, ints)) (omega (arith, ints)) (omega (arith, ints)) (omega (arith, ints))
  part-canonical false true =
      bounds-canonical begin end (end - begin) (pos (2 * end)) (pos 1 -ℤ pos (2 * end))
      (pos 0) limit (omega arith) (omega (arith, ints)) (omega (arith, ints))
      (omega (arith, ints)) (omega (arith, ints)) (omega (arith, ints)) (omega (arith, ints))
  part-canonical false false =
      bounds-canonical begin end (end - begin) (pos (2 * end)) (neg_ℤ (pos (2 * begin)))
      (pos 0) limit (omega arith) (omega (arith, ints)) (omega (arith, ints))
      (omega (arith, ints)) (omega (arith, ints)) (omega (arith, ints)) (omega (arith, ints))

whole : (end begin : ℕ) → begin < end → (end - begin) + begin ≡ end
whole end begin rising = omega arith

module _ (begin end : ℕ) (rising : begin < end) (a b n : ℕ) (some : 0 < n) where
  width : (end - begin) * n + begin * n ≡ end * n
  width = omega (arith, ap (λ (t : ℕ). t * n) (whole end begin rising))

  longer : begin * n + n ≤ end * n
  longer = omega (arith, mul-le-mul_right n rising)

  -- ---- where it begins at the rise

  at-rise : Meets (pos (2 * begin + 1)) a 0 n ↔ (a ≤ 0 + begin * n)
  at-rise = Meets-at_most (pos (2 * begin + 1)) begin refl a 0 n

  begins : (rise : Bool) → begin * n ≤ a
      → Meets (if rise then pos (2 * begin + 1) else pos (2 * end)) a 0 n
      → IsTrue rise → a ≡ begin * n
  begins true after latest is = omega (arith, after, at-rise.0 latest)
  begins false after latest wrong = cc

  latest : (rise : Bool) → a < end * n → (IsTrue rise → a ≡ begin * n)
      → Meets (if rise then pos (2 * begin + 1) else pos (2 * end)) a 0 n
  latest true before at_rise = at-rise.1 (omega (arith, at_rise refl))
  latest false before at_rise =
      (Meets-less (pos (2 * end)) end refl a 0 n).1 (omega (arith, before))

  -- ---- where it ends at the fall

  at-fall : Meets (pos 1 -ℤ pos (2 * end)) 0 b n ↔ (0 + end * n ≤ b)
  at-fall = Meets-at_least (pos 1 -ℤ pos (2 * end)) end refl 0 b n

  ends : (fall : Bool) → b ≤ end * n
      → Meets (if fall then pos 1 -ℤ pos (2 * end) else neg_ℤ (pos (2 * begin))) 0 b n
      → IsTrue fall → b ≡ end * n
  ends true before earliest is = omega (arith, before, at-fall.0 earliest)
  ends false before earliest wrong = cc

  earliest : (fall : Bool) → begin * n < b → (IsTrue fall → b ≡ end * n)
      → Meets (if fall then pos 1 -ℤ pos (2 * end) else neg_ℤ (pos (2 * begin))) 0 b n
  earliest true after at_fall = at-fall.1 (omega (arith, at_fall refl))
  earliest false after at_fall =
      (Meets-more (neg_ℤ (pos (2 * begin))) begin refl 0 b n).1 (omega (arith, after))

  -- ---- how long it lasts

  all-of-it : Meets (pos 1 -ℤ pos (2 * (end - begin))) a b n ↔ (a + (end - begin) * n ≤ b)
  all-of-it = Meets-at_least (pos 1 -ℤ pos (2 * (end - begin))) (end - begin) refl a b n

  some-time : Meets (pos 0) a b n ↔ (a + 0 * n < b)
  some-time = Meets-more (pos 0) 0 refl a b n

  lasts : (both : Bool)
      → Meets (if both then pos 1 -ℤ pos (2 * (end - begin)) else pos 0) a b n → a < b
  lasts true least = omega (arith, some, width, longer, all-of-it.0 least)
  lasts false least = omega (arith, some-time.0 least)

  least : (rise fall : Bool) → a < b → (IsTrue rise → a ≡ begin * n)
      → (IsTrue fall → b ≡ end * n)
      → Meets (if rise && fall then pos 1 -ℤ pos (2 * (end - begin)) else pos 0) a b n
  least true true after at_rise at_fall =
      all-of-it.1 (omega (arith, width, at_rise refl, at_fall refl))
  least true false after at_rise at_fall = some-time.1 (omega (arith, after))
  least false fall after at_rise at_fall = some-time.1 (omega (arith, after))

  pub part-holds : (rise fall : Bool) → ZoneHolds (part_of rise fall begin end) a b n
      ↔ IsPart (edges_of rise fall) begin end a b n
  part-holds rise fall =
      let begin_low = Meets-at_least (pos 1 -ℤ pos (2 * begin)) begin refl 0 a n in
      let end_high = Meets-at_most (pos (2 * end + 1)) end refl b 0 n in
      let dur_high = Meets-at_most (pos (2 * (end - begin) + 1)) (end - begin) refl b a n in (
        (λ z.
            let after : begin * n ≤ a = omega (arith, begin_low.0 z.begin_low) in
            let before : b ≤ end * n = omega (arith, end_high.0 z.end_high) in
            record {
              span = record {
                starts = after;
                lasts = lasts (rise && fall) z.dur_low;
                ends = before;
              };
              begins = begins rise after z.begin_high;
              ends = ends fall before z.end_low;
            }),
        (λ p.
            let after = p.span.starts in
            let long = p.span.lasts in
            let before = p.span.ends in
            record {
              begin_low = begin_low.1 (omega (arith, after));
              begin_high = latest rise (omega (arith, long, before)) p.begins;
              end_low = earliest fall (omega (arith, after, long)) p.ends;
              end_high = end_high.1 (omega (arith, before));
              dur_low = least rise fall long p.begins p.ends;
              dur_high = dur_high.1 (omega (arith, width, after, before));
            }),
      )

pub part-exact : (rise fall : Bool) (begin end : ℕ) → begin < end
    → IsZoneOf (part_of rise fall begin end) (IsPart (edges_of rise fall) begin end)
part-exact rise fall begin end rising = search (rules, part-holds)

-- Without an interval, however long they last.
pub any_length : (zone : ZoneBounds) (P : Pairs) → IsZoneOf zone P
    → IsZoneOf zone (Lasting (LastsIn None) P)
any_length zone P is = search rules

-- The next run comes behind its end.
pub part_ended : (D : ℕ → ℕ → Type 0) (edges : RunEdges) (begin end : ℕ)
    (old new : List ZoneBounds) (zone : ZoneBounds) → begin ≤ end → EndBefore begin old
    → IsZoneOf zone (Lasting D (IsPart edges begin end))
    → HoldExactly new (Either (SetHolds old) (ZoneHolds zone)) → EndBefore (end + 1) new
part_ended D edges begin end old new zone order ended is held = record {
  every = λ a b n some le h.
      let more : begin * n ≤ end * n = mul-le-mul_right n order in
      let next : (end + 1) * n ≡ end * n + n = omega arith in
      ⊎_elim
      (λ x. let before = ended.every a b n some le x in omega (arith, before, more, next))
      (λ x. omega (arith, ((is.exact a b n some le).0 x).related.span.ends, some, next))
      ((held.exact a b n some le).0 h);
}

-- What is added to a set.
pub added : (P : Pairs) (old new : List ZoneBounds) (zone : ZoneBounds) → IsZoneOf zone P
    → HoldExactly new (Either (SetHolds old) (ZoneHolds zone))
    → HoldExactly new (Either (SetHolds old) P)
added P old new zone is held = search rules

-- Stretches that begin and end anywhere in a run.
module _ (edges : RunEdges) (rise : ¬ IsTrue edges.rise) (fall : ¬ IsTrue edges.fall) where
  span_part : (begin end a b n : ℕ) → IsInSpan begin end a b n → IsPart edges begin end a b n
  span_part begin end a b n span = search rules

  pub span_zone : (begin end : ℕ) (zone : ZoneBounds)
      → ((a b n : ℕ) → 0 < n → ZoneHolds zone a b n ↔ IsInSpan begin end a b n)
      → IsZoneOf zone (Lasting (LastsIn None) (IsPart edges begin end))
  span_zone begin end zone is = any_length zone (IsPart edges begin end) (record {
    exact = λ a b n some le.
        let one = is a b n some in
        ((λ h. span_part begin end a b n (one.0 h)), (λ h. one.1 h.span));
  })

  pub literal_given : (D : ℕ → ℕ → Type 0) (state : StateTree) (rest : Rest)
      (zones : List ZoneBounds) → HoldExactly zones (Lasting D (IsRunPart edges state rest))
      → HoldExactly zones (Lasting D (AtomMatches rest (literal state)))
  literal_given D state rest zones held = search rules
