-- A zone cut at the six bounds of another: one by one, the pairs that miss the bound are put aside,
-- and those that meet it are cut further.
use Rattle.std.proofs.Common.{ℕ, ◌+◌, ◌^◌, ◌<◌, ◌⊎◌, ◌↔◌, List, [], ◌∷◌, ◌++◌, get_or, Option, inl, inr, ⊎_elim, ℤ, pos, ◌-ℤ◌, ◌≡◌, ◌==◌, Bool, true, false, cond, refl, sym, ◌∙◌, ap, subst, arith}
use Rattle.tre_pairs.specs.Pairs.{Both}
use Rattle.tre_pairs.specs.Except.{Except}
use Rattle.tre_pairs.specs.declared.TheConstants.{TIME_MAX}
use Rattle.std.specs.Int.{int_min}
use Rattle.std.proofs.lemmas.Bool.Decides.{nat_tests}
use Rattle.tre_zone.specs.Bound.{Meets, IsKeyWithin, IsValueWithin}
use Rattle.tre_zone.specs.Zone.{ZoneHolds, IsInFrame, GivesZone, AreKeysWithin, AreValuesWithin}
use Rattle.tre_zone.specs.declared.zone_bounds.ZoneBounds.{ZoneBounds}
use Rattle.tre_zone.proofs.Paths.{Meets-min}
use Rattle.tre_zoneset.specs.ZoneSet.{FoundHolds}
use Rattle.tre_zoneset.proofs.Unions.{FoundHolds-exact}
use Rattle.tre_minus.specs.declared.cut.Part.{Part}
use Rattle.tre_minus.specs.declared.side.Side.{Side}
use Rattle.tre_minus.specs.declared.side.Side.TheVariants.{BeginLow, BeginHigh, EndLow, EndHigh, DurationLow, DurationHigh}
use Rattle.tre_minus.specs.Sides.{bound_at, MeetsKeyAt, MeetsSide, opposite, number_of_side, tighter_at, missing_of, meeting_of}
use Rattle.tre_minus.specs.Parts.{AreAdded}
use Rattle.tre_minus.proofs.Denying.{Meets-cases, Meets-never, value-key, value-missing, key-meeting}
use Rattle.tre_minus.proofs.Comparing.{AreAdded-nothing, AreAdded-more, AreAdded-same}

-- ---- one bound

decides : (key : ℤ) (p q n : ℕ) → Meets key p q n ⊎ (Meets key p q n → ⊥)
decides key p q n =
    ⊎_elim (λ m. inl m) (λ m. inr (λ met. Meets-never key p q n met m)) (Meets-cases key p q n)

denied_by : (key : ℤ) (p q n : ℕ) → Meets (pos 1 -ℤ key) q p n ↔ (Meets key p q n → ⊥)
denied_by key p q n = (
  (λ m met. Meets-never key p q n met m),
  (λ never. ⊎_elim (λ met. absurd (never met)) (λ m. m) (Meets-cases key p q n)),
)

-- ---- all six

each_held : (zone : ZoneBounds) (a b n : ℕ)
    → ZoneHolds zone a b n ↔ ((side : Side) → MeetsSide side zone a b n)
each_held zone a b n = (
  held,
  (λ each. record {
    begin_low = each BeginLow;
    begin_high = each BeginHigh;
    end_low = each EndLow;
    end_high = each EndHigh;
    dur_low = each DurationLow;
    dur_high = each DurationHigh;
  }),
)
  where
    held : ZoneHolds zone a b n → (side : Side) → MeetsSide side zone a b n
    held h BeginLow = h.begin_low
    held h BeginHigh = h.begin_high
    held h EndLow = h.end_low
    held h EndHigh = h.end_high
    held h DurationLow = h.dur_low
    held h DurationHigh = h.dur_high

key_at : (limit : ℕ) (zone : ZoneBounds) → AreKeysWithin limit zone → (side : Side)
    → IsKeyWithin limit (bound_at side zone)
key_at limit zone h BeginLow = h.begin_low
key_at limit zone h BeginHigh = h.begin_high
key_at limit zone h EndLow = h.end_low
key_at limit zone h EndHigh = h.end_high
key_at limit zone h DurationLow = h.dur_low
key_at limit zone h DurationHigh = h.dur_high

abbrev pub six : List Side
six = BeginLow ∷ BeginHigh ∷ EndLow ∷ EndHigh ∷ DurationLow ∷ DurationHigh ∷ []

side_of : ℕ → Side
side_of number = get_or six number BeginLow

side_numbered : (side : Side) → side_of (number_of_side side) ≡ side
unfolding side_of
side_numbered BeginLow = refl
side_numbered BeginHigh = refl
side_numbered EndLow = refl
side_numbered EndHigh = refl
side_numbered DurationLow = refl
side_numbered DurationHigh = refl

one_side : (side other : Side) → (number_of_side side == number_of_side other) ≡ true → side ≡ other
one_side side other e =
    let same : number_of_side side ≡ number_of_side other = grind (arith, nat_tests) in
    sym (side_numbered side) ∙ ap side_of same ∙ side_numbered other

own_number : (side : Side) → (number_of_side side == number_of_side side) ≡ true
own_number side = grind (arith, nat_tests)

bound_tighter : (side other : Side) (key : ℤ) (bounds : ZoneBounds)
    → bound_at other (tighter_at side key bounds)
    ≡ cond (number_of_side side == number_of_side other) (int_min (bound_at other bounds) key)
    (bound_at other bounds)
bound_tighter side BeginLow key bounds = refl
bound_tighter side BeginHigh key bounds = refl
bound_tighter side EndLow key bounds = refl
bound_tighter side EndHigh key bounds = refl
bound_tighter side DurationLow key bounds = refl
bound_tighter side DurationHigh key bounds = refl

-- What is so of each bound is so of each of the tightened ones, where it is of that one.
each_tighter : (P : Side → ℤ → Type 0) (side : Side) (key : ℤ) (bounds : ZoneBounds)
    → P side (int_min (bound_at side bounds) key) → ((other : Side) → P other (bound_at other bounds))
    → (other : Side) → P other (bound_at other (tighter_at side key bounds))
each_tighter P side key bounds own each other =
    subst (P other) (sym (bound_tighter side other key bounds))
    (by (number_of_side side == number_of_side other) refl)
  where
    by : (is : Bool) → (number_of_side side == number_of_side other) ≡ is
        → P other (cond is (int_min (bound_at other bounds) key) (bound_at other bounds))
    by true e = subst (λ (s : Side). P s (int_min (bound_at s bounds) key)) (one_side side other e) own
    by false e = each other

meets_min : (side : Side) (x y : ℤ) (a b n : ℕ) → 0 < n
    → MeetsKeyAt side (int_min x y) a b n ↔ (MeetsKeyAt side x a b n × MeetsKeyAt side y a b n)
meets_min BeginLow x y a b n some = Meets-min x y 0 a n some
meets_min BeginHigh x y a b n some = Meets-min x y a 0 n some
meets_min EndLow x y a b n some = Meets-min x y 0 b n some
meets_min EndHigh x y a b n some = Meets-min x y b 0 n some
meets_min DurationLow x y a b n some = Meets-min x y a b n some
meets_min DurationHigh x y a b n some = Meets-min x y b a n some

tighter_holds : (side : Side) (key : ℤ) (bounds : ZoneBounds) (a b n : ℕ) → 0 < n
    → ZoneHolds (tighter_at side key bounds) a b n
    ↔ (ZoneHolds bounds a b n × MeetsKeyAt side key a b n)
tighter_holds side key bounds a b n some = (
  (λ h.
      let each = (each_held (tighter_at side key bounds) a b n).0 h in (
        (each_held bounds a b n).1 (λ other. looser other (number_of_side side == number_of_side other) refl
            (subst (λ k. MeetsKeyAt other k a b n) (bound_tighter side other key bounds) (each other))),
        ((meets_min side (bound_at side bounds) key a b n some).0 (own
            (subst (λ k. MeetsKeyAt side k a b n) (bound_tighter side side key bounds)
            (each side)))).1,
      )),
  (λ h. (each_held (tighter_at side key bounds) a b n).1 (each_tighter
      (λ s k. MeetsKeyAt s k a b n) side key bounds
      ((meets_min side (bound_at side bounds) key a b n some).1
      ((each_held bounds a b n).0 h.0 side, h.1)) ((each_held bounds a b n).0 h.0))),
)
  where
    looser : (other : Side) (is : Bool) → (number_of_side side == number_of_side other) ≡ is
        → MeetsKeyAt other (cond (number_of_side side == number_of_side other)
        (int_min (bound_at other bounds) key) (bound_at other bounds)) a b n
        → MeetsKeyAt other (bound_at other bounds) a b n
    looser other true e m = ((meets_min other (bound_at other bounds) key a b n some).0
        (subst (λ (t : Bool). MeetsKeyAt other (cond t (int_min (bound_at other bounds) key)
        (bound_at other bounds)) a b n) e m)).0
    looser other false e m = subst (λ (t : Bool). MeetsKeyAt other (cond t
        (int_min (bound_at other bounds) key) (bound_at other bounds)) a b n) e m

    own : MeetsKeyAt side (cond (number_of_side side == number_of_side side) (int_min (bound_at side bounds) key)
        (bound_at side bounds)) a b n → MeetsKeyAt side (int_min (bound_at side bounds) key) a b n
    own m = subst (λ (t : Bool). MeetsKeyAt side (cond t (int_min (bound_at side bounds) key)
        (bound_at side bounds)) a b n) (own_number side) m

denied_at : (side : Side) (key : ℤ) (a b n : ℕ)
    → MeetsKeyAt (opposite side) (pos 1 -ℤ key) a b n ↔ (MeetsKeyAt side key a b n → ⊥)
denied_at BeginLow key a b n = denied_by key 0 a n
denied_at BeginHigh key a b n = denied_by key a 0 n
denied_at EndLow key a b n = denied_by key 0 b n
denied_at EndHigh key a b n = denied_by key b 0 n
denied_at DurationLow key a b n = denied_by key a b n
denied_at DurationHigh key a b n = denied_by key b a n

pub MeetsSide-decides : (side : Side) (taken : ZoneBounds) (a b n : ℕ)
    → MeetsSide side taken a b n ⊎ (MeetsSide side taken a b n → ⊥)
MeetsSide-decides BeginLow taken a b n = decides taken.begin_low 0 a n
MeetsSide-decides BeginHigh taken a b n = decides taken.begin_high a 0 n
MeetsSide-decides EndLow taken a b n = decides taken.end_low 0 b n
MeetsSide-decides EndHigh taken a b n = decides taken.end_high b 0 n
MeetsSide-decides DurationLow taken a b n = decides taken.dur_low a b n
MeetsSide-decides DurationHigh taken a b n = decides taken.dur_high b a n

pub missing-holds : (side : Side) (bounds taken : ZoneBounds) (a b n : ℕ) → 0 < n
    → ZoneHolds (missing_of side bounds taken) a b n
    ↔ Except (ZoneHolds bounds) (MeetsSide side taken) a b n
unfolding missing_of
missing-holds side bounds taken a b n some =
    let key = bound_at side taken in
    let one = tighter_holds (opposite side) (pos 1 -ℤ key) bounds a b n some in
    let never = denied_at side key a b n in (
      (λ h. record { related = (one.0 h).0; never = never.0 (one.0 h).1 }),
      (λ h. one.1 (h.related, never.1 h.never)),
    )

pub meeting-holds : (side : Side) (bounds taken : ZoneBounds) (a b n : ℕ) → 0 < n
    → ZoneHolds (meeting_of side bounds taken) a b n
    ↔ Both (ZoneHolds bounds) (MeetsSide side taken) a b n
unfolding meeting_of
meeting-holds side bounds taken a b n some =
    let one = tighter_holds side (bound_at side taken) bounds a b n some in (
      (λ h. record { left = (one.0 h).0; right = (one.0 h).1 }),
      (λ h. one.1 (h.left, h.right)),
    )

pub missing-values : (side : Side) (bounds taken : ZoneBounds) → AreKeysWithin (2 ^ 42) bounds
    → AreKeysWithin (2 ^ 42) taken → AreValuesWithin (2 ^ 42) (missing_of side bounds taken)
unfolding missing_of
missing-values side bounds taken h k =
    let key = key_at (2 ^ 42) bounds h in
    let each = each_tighter (λ s x. IsValueWithin (2 ^ 42) x) (opposite side)
    (pos 1 -ℤ bound_at side taken) bounds
    (value-missing _ _ (key (opposite side)) (key_at (2 ^ 42) taken k side))
    (λ other. value-key _ (key other)) in
    record {
      begin_low = each BeginLow;
      begin_high = each BeginHigh;
      end_low = each EndLow;
      end_high = each EndHigh;
      dur_low = each DurationLow;
      dur_high = each DurationHigh;
    }

pub meeting-keys : (side : Side) (bounds taken : ZoneBounds) → AreKeysWithin (2 ^ 42) bounds
    → AreKeysWithin (2 ^ 42) taken → AreKeysWithin (2 ^ 42) (meeting_of side bounds taken)
unfolding meeting_of
meeting-keys side bounds taken h k =
    let key = key_at (2 ^ 42) bounds h in
    let each = each_tighter (λ s x. IsKeyWithin (2 ^ 42) x) side (bound_at side taken) bounds
    (key-meeting _ _ (key side) (key_at (2 ^ 42) taken k side)) key in
    record {
      begin_low = each BeginLow;
      begin_high = each BeginHigh;
      end_low = each EndLow;
      end_high = each EndHigh;
      dur_low = each DurationLow;
      dur_high = each DurationHigh;
    }

-- ---- some of the bounds

-- The pair meets the bounds of the zone on these sides.
unfoldable pub MeetsAll : List Side → ZoneBounds → ℕ → ℕ → ℕ → Type 0
MeetsAll [] taken a b n = Unit {0}
MeetsAll (side ∷ sides) taken a b n = MeetsSide side taken a b n × MeetsAll sides taken a b n

MeetsAll-decides : (sides : List Side) (taken : ZoneBounds) (a b n : ℕ)
    → MeetsAll sides taken a b n ⊎ (MeetsAll sides taken a b n → ⊥)
unfolding MeetsAll
MeetsAll-decides [] taken a b n = inl tt
MeetsAll-decides (side ∷ sides) taken a b n =
    ⊎_elim
    (λ one. ⊎_elim (λ rest. inl (one, rest)) (λ never. inr (λ h. never h.1))
    (MeetsAll-decides sides taken a b n))
    (λ never. inr (λ h. never h.0)) (MeetsSide-decides side taken a b n)

MeetsAll-push : (sides : List Side) (side : Side) (taken : ZoneBounds) (a b n : ℕ)
    → MeetsAll (sides ++ side ∷ []) taken a b n
    ↔ (MeetsAll sides taken a b n × MeetsSide side taken a b n)
unfolding MeetsAll
MeetsAll-push [] side taken a b n = ((λ h. (tt, h.0)), (λ h. (h.1, tt)))
MeetsAll-push (first ∷ sides) side taken a b n =
    let rest = MeetsAll-push sides side taken a b n in (
      (λ h. ((h.0, (rest.0 h.1).0), (rest.0 h.1).1)),
      (λ h. (h.0.0, rest.1 (h.0.1, h.1))),
    )

-- On these sides the zone is cut: the pairs that miss one of the bounds are among the parts, and
-- those that meet all of them are inside.
pub record IsCutOn (sides : List Side) (zone taken : ZoneBounds) (from most : ℕ)
    (start parts : List Part) (inside : ZoneBounds) : Type 0 where
  pub keys : AreKeysWithin (2 ^ 42) inside
  pub met : (a b n : ℕ) → 0 < n
      → ZoneHolds inside a b n ↔ Both (ZoneHolds zone) (MeetsAll sides taken) a b n
  pub missed : AreAdded from most (Except (ZoneHolds zone) (MeetsAll sides taken)) start parts

pub IsCutOn-none : (zone taken : ZoneBounds) (from : ℕ) (start : List Part)
    → AreKeysWithin (2 ^ 42) zone → IsCutOn [] zone taken from 0 start start zone
unfolding MeetsAll
IsCutOn-none zone taken from start keys = record {
  keys = keys;
  met = λ a b n some. ((λ h. record { left = h; right = tt }), (λ h. h.left));
  missed = AreAdded-nothing from (Except (ZoneHolds zone) (MeetsAll [] taken)) start
      (λ a b n h. h.never tt);
}

module _ (sides : List Side) (zone taken : ZoneBounds) (from most : ℕ) (start parts : List Part)
    (inside : ZoneBounds) where
  pub IsCutOn-more : (side : Side) (found : Option ZoneBounds) (next : List Part)
      → AreKeysWithin (2 ^ 42) taken
      → ((a b n : ℕ) → 0 < n → ZoneHolds zone a b n → IsInFrame TIME_MAX a b n)
      → GivesZone found
      (Both (ZoneHolds (missing_of side inside taken)) (IsInFrame TIME_MAX))
      → AreAdded from 1 (FoundHolds found) parts next
      → IsCutOn sides zone taken from most start parts inside
      → IsCutOn (sides ++ side ∷ []) zone taken from (most + 1) start next
      (meeting_of side inside taken)
  IsCutOn-more side found next keys framed gives added cut = record {
    keys = meeting-keys side inside taken cut.keys keys;
    met = λ a b n some.
        let one = meeting-holds side inside taken a b n some in
        let old = cut.met a b n some in
        let all = MeetsAll-push sides side taken a b n in (
          (λ h.
              let both = one.0 h in
              let before = old.0 both.left in
              record { left = before.left; right = all.1 (before.right, both.right) }),
          (λ h.
              let parts = all.0 h.right in
              one.1 (record {
                left = old.1 (record { left = h.left; right = parts.0 });
                right = parts.1;
              })),
        );
    missed = AreAdded-more from most
        (Except (ZoneHolds zone) (MeetsAll sides taken)) (FoundHolds found)
        (Except (ZoneHolds zone) (MeetsAll (sides ++ side ∷ []) taken)) start parts next
        (λ a b n some le.
        let one = missing-holds side inside taken a b n some in
        let old = cut.met a b n some in
        let all = MeetsAll-push sides side taken a b n in
        let is = FoundHolds-exact found _ gives a b n some le in (
          (λ h.
              ⊎_elim
              (λ meets. inr (is.1 (record {
                left = one.1 (record {
                  related = old.1 (record { left = h.related; right = meets });
                  never = λ m. h.never (all.1 (meets, m));
                });
                right = framed a b n some h.related;
              })))
              (λ never. inl (record { related = h.related; never = never }))
              (MeetsAll-decides sides taken a b n)),
          (λ h.
              ⊎_elim
              (λ x. record { related = x.related; never = λ m. x.never (all.0 m).0 })
              (λ x.
              let missed = one.0 (is.0 x).left in
              record {
                related = (old.0 missed.related).left;
                never = λ m. missed.never (all.0 m).1;
              })
              h),
        ))
        cut.missed added;
  }

MeetsAll-six : (taken : ZoneBounds) (a b n : ℕ)
    → MeetsAll six taken a b n ↔ ZoneHolds taken a b n
unfolding MeetsAll
MeetsAll-six taken a b n = (
  (λ h. record {
    begin_low = h.0;
    begin_high = h.1.0;
    end_low = h.1.1.0;
    end_high = h.1.1.1.0;
    dur_low = h.1.1.1.1.0;
    dur_high = h.1.1.1.1.1.0;
  }),
  (λ h. (h.begin_low, (h.begin_high, (h.end_low, (h.end_high, (h.dur_low, (h.dur_high, tt))))))),
)

pub ZoneHolds-decides : (zone : ZoneBounds) (a b n : ℕ)
    → ZoneHolds zone a b n ⊎ (ZoneHolds zone a b n → ⊥)
ZoneHolds-decides zone a b n =
    let all = MeetsAll-six zone a b n in
    ⊎_elim (λ h. inl (all.0 h)) (λ never. inr (λ h. never (all.1 h)))
    (MeetsAll-decides six zone a b n)

-- On all six sides.
pub IsCutOn-all : (zone taken : ZoneBounds) (from most : ℕ) (start parts : List Part)
    (inside : ZoneBounds) → IsCutOn six zone taken from most start parts inside
    → AreAdded from most (Except (ZoneHolds zone) (ZoneHolds taken)) start parts
IsCutOn-all zone taken from most start parts inside cut =
    AreAdded-same from most _ _ start parts
    (λ a b n some le.
    let all = MeetsAll-six taken a b n in (
      (λ h. record { related = h.related; never = λ m. h.never (all.1 m) }),
      (λ h. record { related = h.related; never = λ m. h.never (all.0 m) }),
    ))
    cut.missed
