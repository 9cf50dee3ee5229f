-- A printed text is that of one list of zones, and of one end.
use Rattle.std.proofs.Common.{◌≡◌, ℕ, ◌≤◌, ◌^◌, List, [], ◌∷◌, ◌++◌, append_assoc, refl, sym, ◌∙◌, arith, ℤ, pos, ◌≤ℤ◌, rules}
use Rattle.std.specs.Prelude.{codes}
use Rattle.std.proofs.lemmas.Int.{ints}
use Rattle.tre_pairs.specs.declared.TheConstants.{TIME_MAX}
use Rattle.tre_decimal.specs.Decimal.{number_text}
use Rattle.tre_zone.specs.Bound.{sum_of, IsKeyWithin}
use Rattle.tre_zone.specs.Zone.{IsCanonical}
use Rattle.tre_zone.specs.declared.zone_bounds.ZoneBounds.{ZoneBounds}
use Rattle.tre_zone.proofs.Bounds.{split, split-sum}
use Rattle.tre_zone.proofs.Ranges.{lowered}
use Rattle.tre_zone.proofs.Tightness.{canonical-keys}
use Rattle.tre_zone.proofs.ZoneKeys.{zones_same}
use Rattle.tre_zone.specs.ZoneList.{AreCanonical}
use Rattle.tre_show.specs.Line.{line_of, lines_of, offline_text}
use Rattle.tre_show.proofs.Ranges.{NumbersTell, range_text, behind_byte, number_line_once, AreRangeKeys, range_once}

-- ---- the keys of a canonical zone

-- where two bounds leave room for a pair and the lower one is at most 0, the higher one is at least
-- 0
up_from : (low high : ℤ) → pos 1 ≤ℤ sum_of low high → low ≤ℤ pos 1 → pos 0 ≤ℤ high
up_from low high loop down =
    let a = split low in let b = split high in let d = split-sum low high in omega (arith, ints)

range_keys : (low high : ℤ) → low ≤ℤ pos 1 → pos 1 ≤ℤ sum_of low high
    → IsKeyWithin (2 ^ 42) low → IsKeyWithin (2 ^ 42) high → AreRangeKeys low high
range_keys low high down loop low_within high_within = search (rules, up_from)

-- the keys of each of its three ranges
pub begin_keys : (zone : ZoneBounds) → IsCanonical zone
    → AreRangeKeys zone.begin_low zone.begin_high
begin_keys zone canonical =
    let keys = canonical-keys zone canonical in
    range_keys zone.begin_low zone.begin_high canonical.framed.starts canonical.room.begin_loop
    keys.begin_low keys.begin_high

pub end_keys : (zone : ZoneBounds) → IsCanonical zone → AreRangeKeys zone.end_low zone.end_high
end_keys zone canonical =
    let keys = canonical-keys zone canonical in
    range_keys zone.end_low zone.end_high (lowered zone.end_low zone.begin_low zone.dur_low
    canonical.closed.end_low canonical.framed.starts canonical.framed.lasts)
    canonical.room.end_loop keys.end_low keys.end_high

pub dur_keys : (zone : ZoneBounds) → IsCanonical zone → AreRangeKeys zone.dur_low zone.dur_high
dur_keys zone canonical =
    search (rules, canonical-keys, range_keys, zone.dur_low, zone.dur_high, canonical.framed.lasts)

-- ---- lines and texts

-- the pieces of a line, one after the other
line_pieces : (p q r xs : List ℕ) → (p ++ codes " " ++ q ++ codes " " ++ r ++ codes "\n") ++ xs
    ≡ p ++ (32 ∷ (q ++ (32 ∷ (r ++ (10 ∷ xs)))))
line_pieces p q r xs = simp append_assoc

line_of-pieces : (scale : ℕ) (zone : ZoneBounds) (xs : List ℕ)
    → line_of scale zone ++ xs ≡ range_text scale zone.begin_low zone.begin_high ++
    (32 ∷ (range_text scale zone.end_low zone.end_high ++
    (32 ∷ (range_text scale zone.dur_low zone.dur_high ++ (10 ∷ xs)))))
line_of-pieces scale zone xs =
    line_pieces (range_text scale zone.begin_low zone.begin_high)
    (range_text scale zone.end_low zone.end_high) (range_text scale zone.dur_low zone.dur_high) xs

-- the line of the end behind its letter e
abbrev end_bytes : ℕ → ℕ → List ℕ
end_bytes scale end = 110 ∷ 100 ∷ 32 ∷ (number_text scale end ++ (10 ∷ []))

offline_text-lines : (scale : ℕ) (zones : List ZoneBounds) (end : ℕ)
    → offline_text scale zones end ≡ lines_of scale zones ++ (101 ∷ end_bytes scale end)
unfolding offline_text
offline_text-lines scale zones end = simp append_assoc

-- ---- at a scale where a number that is written tells the number

module _ (scale : ℕ) (tells : NumbersTell scale) where
  -- what stands on a line behind its begins, and behind its ends
  abbrev dur_behind : ZoneBounds → List ℕ → List ℕ
  dur_behind zone xs = range_text scale zone.dur_low zone.dur_high ++ (10 ∷ xs)

  abbrev end_behind : ZoneBounds → List ℕ → List ℕ
  end_behind zone xs = range_text scale zone.end_low zone.end_high ++ (32 ∷ dur_behind zone xs)

  -- The text of a line tells its zone and what follows it.
  pub line_once : (zone other : ZoneBounds) (xs ys : List ℕ) → IsCanonical zone
      → IsCanonical other → line_of scale zone ++ xs ≡ line_of scale other ++ ys
      → (zone ≡ other) × (xs ≡ ys)
  line_once zone other xs ys canonical canonical' e =
      let begin = range_once scale tells zone.begin_low zone.begin_high other.begin_low
      other.begin_high (32 ∷ end_behind zone xs) (32 ∷ end_behind other ys)
      (begin_keys zone canonical) (begin_keys other canonical')
      (sym (line_of-pieces scale zone xs) ∙ e ∙ line_of-pieces scale other ys) in
      let end = range_once scale tells zone.end_low zone.end_high other.end_low other.end_high
      (32 ∷ dur_behind zone xs) (32 ∷ dur_behind other ys)
      (end_keys zone canonical) (end_keys other canonical') (behind_byte 32 _ _ begin.2) in
      let dur = range_once scale tells zone.dur_low zone.dur_high other.dur_low other.dur_high
      (10 ∷ xs) (10 ∷ ys)
      (dur_keys zone canonical) (dur_keys other canonical') (behind_byte 32 _ _ end.2) in (
        zones_same zone other begin.0 begin.1 end.0 end.1 dur.0 dur.1,
        behind_byte 10 xs ys dur.2,
      )

  -- The lines before a letter tell the zones, and what follows them.
  pub lines_once : (zones others : List ZoneBounds) (letter other : ℕ) (xs ys : List ℕ)
      → AreCanonical zones → AreCanonical others → 97 ≤ letter → 97 ≤ other
      → lines_of scale zones ++ (letter ∷ xs) ≡ lines_of scale others ++ (other ∷ ys)
      → (zones ≡ others) × (letter ≡ other) × (xs ≡ ys)
  unfolding lines_of AreCanonical
  lines_once [] [] a b xs ys p q small small' e = (refl, cc, cc)
  lines_once [] (other ∷ others) a b xs ys p q small small' e = search rules
  lines_once (zone ∷ zones) [] a b xs ys p q small small' e = search rules
  lines_once (zone ∷ zones) (other ∷ others) a b xs ys p q small small' e =
      let line = line_once zone other (lines_of scale zones ++ (a ∷ xs))
      (lines_of scale others ++ (b ∷ ys)) p.0 q.0
      (sym (append_assoc (line_of scale zone) (lines_of scale zones) (a ∷ xs)) ∙ e
      ∙ append_assoc (line_of scale other) (lines_of scale others) (b ∷ ys)) in
      let lines = lines_once zones others a b xs ys p.1 q.1 small small' line.1 in
      let first : zone ≡ other = line.0 in
      let rest : zones ≡ others = lines.0 in
      (cc, lines.1, lines.2)

  -- The whole text tells the zones and the line of the end.
  text_once : (zones others : List ZoneBounds) (end other : ℕ) → AreCanonical zones
      → AreCanonical others
      → offline_text scale zones end ≡ offline_text scale others other
      → (zones ≡ others) × (end_bytes scale end ≡ end_bytes scale other)
  text_once zones others end other p q e = search (rules, lines_once, offline_text-lines)

  pub zones_once : (zones others : List ZoneBounds) (end other : ℕ) → AreCanonical zones
      → AreCanonical others → offline_text scale zones end ≡ offline_text scale others other
      → zones ≡ others
  zones_once zones others end other p q e = (text_once zones others end other p q e).0

  pub end_once : (zones others : List ZoneBounds) (end other : ℕ) → AreCanonical zones
      → AreCanonical others → end ≤ TIME_MAX → other ≤ TIME_MAX
      → offline_text scale zones end ≡ offline_text scale others other → end ≡ other
  end_once zones others end other p q small_end small_other e =
      let bytes : end_bytes scale end ≡ end_bytes scale other =
      (text_once zones others end other p q e).1 in
      let numbers : number_text scale end ++ (10 ∷ []) ≡ number_text scale other ++ (10 ∷ []) =
      cc in
      (number_line_once scale tells end other [] [] (omega (arith, small_end))
      (omega (arith, small_other)) numbers).0
