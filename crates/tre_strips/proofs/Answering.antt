-- The list of the strips, and that there is one.
use Rattle.std.proofs.Common.{◌≡◌, ℕ, ◌<◌, ◌↔◌, List, sym, rules}
use Rattle.std.specs.Prelude.{Contains}
use Rattle.std.specs.List.Sorted.{IsStrictlySortedBy}
use Rattle.tre_pairs.specs.Pairs.{Pairs}
use Rattle.tre_zone.specs.Zone.{IsCanonical, IsTight}
use Rattle.tre_zone.specs.ZoneList.{SetHolds, AreCanonical, HoldExactly}
use Rattle.tre_zone.specs.declared.zone_bounds.ZoneBounds.{ZoneBounds}
use Rattle.tre_zone.proofs.TightBounds.{canonical_from_tight}
use Rattle.tre_zone.proofs.Tightness.{canonical-tight}
use Rattle.tre_strips.specs.Runs.{IsRunOfBars, IsInStrip}
use Rattle.tre_strips.specs.Listed.{AreListed, compare_lines}
use Rattle.tre_strips.specs.Strips.{IsStripZone, of_run, of_time, AreStrips}
use Rattle.tre_strips.specs.Spun.{HaveSamePairs, AreFound}
use Rattle.tre_strips.specs.declared.bar.Bar.{Bar}
use Rattle.tre_strips.proofs.Apart.{strip_some, strips_apart}
use Rattle.tre_strips.proofs.Listing.{rising_again, apart_again, tight_again, same_members_held, same_listed}
use Rattle.tre_strips.proofs.Spinning.{set_framed}
use Rattle.tre_strips.proofs.Whole.{IsProfile-pairs, strip_held}

-- A strip zone by its tightest bounds is canonical.
strip_canonical : (set : List ZoneBounds) → AreCanonical set → (zone : ZoneBounds)
    → IsStripZone (SetHolds set) zone → IsTight zone → IsCanonical zone
strip_canonical set canonical zone strip tight =
    search (rules, canonical_from_tight, strip_some, strip, set_framed, strip_held)

module _ (set : List ZoneBounds) (canonical : AreCanonical set) (found zones : List ZoneBounds)
    (are : AreFound set found)
    (same : (zone : ZoneBounds) → Contains zones zone ↔ Contains found zone) where
  strip : (zone : ZoneBounds) → Contains zones zone
      → IsCanonical zone × IsStripZone (SetHolds set) zone
  strip zone has = (are.exact zone).0 ((same zone).0 has)

  pub AreStrips-found : AreStrips (SetHolds set) zones
  AreStrips-found = record {
    exact = λ zone. (
      (λ has. let is = strip zone has in (canonical-tight zone is.0, is.1)),
      (λ is. (same zone).1 ((are.exact zone).1
          (strip_canonical set canonical zone is.1 is.0, is.1))),
    );
  }

  pub AreListed-found : IsStrictlySortedBy compare_lines zones → AreListed zones
  AreListed-found order = record {
    rising = rising_again zones order;
    apart = apart_again zones order (λ one other has has' differs.
        let is = strip one has in
        let is' = strip other has' in
        record {
          left = λ includes. differs
              (strips_apart set canonical one other is.0 is'.0 is.1 is'.1 includes);
          right = λ includes. differs
              (sym (strips_apart set canonical other one is'.0 is.0 is'.1 is.1 includes));
        });
    tight = tight_again zones (λ zone has.
        let is = strip zone has in
        (strip_some set canonical zone is.1, canonical-tight zone is.0));
  }

pub HoldExactly-found : (set found zones : List ZoneBounds) → AreFound set found
    → ((zone : ZoneBounds) → Contains zones zone ↔ Contains found zone)
    → HoldExactly zones (SetHolds set)
HoldExactly-found set found zones are same = search (rules, same_members_held, are.held.exact)

-- ---- sets with the same pairs have the same strips

module _ (M N : Pairs) (same : (a b n : ℕ) → 0 < n → M a b n ↔ N a b n)
    (back : (a b n : ℕ) → 0 < n → N a b n ↔ M a b n) where
  IsRun-pairs : (bars : List Bar) (from until : ℕ) → IsRunOfBars M bars from until
      → IsRunOfBars N bars from until
  IsRun-pairs bars from until run = record {
    rising = run.rising;
    profile = IsProfile-pairs M N same bars from until run.profile;
    longest = λ start end low high whole.
        run.longest start end low high (IsProfile-pairs N M back bars start end whole);
  }

  IsInStrip-pairs : (bars : List Bar) (from until a n : ℕ) → IsInStrip M bars from until a n
      → IsInStrip N bars from until a n
  IsInStrip-pairs bars from until a n strip = search rules

module _ (M N : Pairs) (same : (a b n : ℕ) → 0 < n → M a b n ↔ N a b n)
    (back : (a b n : ℕ) → 0 < n → N a b n ↔ M a b n) where
  pub IsStripZone-pairs : (zone : ZoneBounds) → IsStripZone M zone → IsStripZone N zone
  IsStripZone-pairs zone (of_run bars from until bar run has is) =
      of_run bars from until bar (IsRun-pairs M N same back bars from until run) has (record {
        exact = λ a b n some le.
            let one = is.exact a b n some le in (
              (λ h. let block = one.0 h in record {
                begins = IsInStrip-pairs M N same back bars from until a n block.begins;
                ends = block.ends;
              }),
              (λ block. one.1 (record {
                begins = IsInStrip-pairs N M back same bars from until a n block.begins;
                ends = block.ends;
              })),
            );
      })
  IsStripZone-pairs zone (of_time bars time bar alone own has is) =
      of_time bars time bar (record {
        none = λ others from until run strip.
            alone.none others from until (IsRun-pairs N M back same others from until run)
            (IsInStrip-pairs N M back same others from until time 1 strip);
      }) (IsProfile-pairs M N same bars time time own) has is

same_strips : (one other : List ZoneBounds) → HaveSamePairs one other
    → (zones zones' : List ZoneBounds) → AreListed zones → AreListed zones'
    → AreStrips (SetHolds one) zones → AreStrips (SetHolds other) zones' → zones ≡ zones'
same_strips one other same zones zones' listed listed' are are' =
    let there : (a b n : ℕ) → 0 < n → SetHolds one a b n ↔ SetHolds other a b n = same.same in
    let back : (a b n : ℕ) → 0 < n → SetHolds other a b n ↔ SetHolds one a b n =
    λ a b n some. ((same.same a b n some).1, (same.same a b n some).0) in
    same_listed zones zones' listed listed' (λ zone. (
      (λ has. let is = (are.exact zone).0 has in
          (are'.exact zone).1 (
            is.0,
            IsStripZone-pairs (SetHolds one) (SetHolds other) there back
                zone is.1,
          )),
      (λ has. let is = (are'.exact zone).0 has in
          (are.exact zone).1 (
            is.0,
            IsStripZone-pairs (SetHolds other) (SetHolds one) back there
                zone is.1,
          )),
    ))

pub one_list : (set other : List ZoneBounds) → AreCanonical set → AreCanonical other
    → HoldExactly set (SetHolds other) → (zones others : List ZoneBounds)
    → AreListed zones → AreListed others
    → AreStrips (SetHolds set) zones → AreStrips (SetHolds other) others → zones ≡ others
one_list set other canonical canonical' held zones others =
    same_strips set other (record {
      same = λ a b n some. (
        (λ h. let frame = set_framed set canonical a b n some h in
            (held.exact a b n some frame.rising).0 h),
        (λ h. let frame = set_framed other canonical' a b n some h in
            (held.exact a b n some frame.rising).1 h),
      );
    }) zones others
