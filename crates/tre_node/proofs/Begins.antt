-- Stretches of moments at which pairs begin, in lists.
use Rattle.std.proofs.Common.{◌≡◌, ◌∙◌, ℕ, zero, suc, ◌+◌, ◌-◌, ◌*◌, ◌<◌, ◌≤◌, ◌⊎◌, ◌↔◌, inl, inr, ⊎_elim, All, List, [], ◌∷◌, ◌++◌, length, get_or, set, take, drop, ap, refl, sym, subst, arith, ℤ, pos, ◌+ℤ◌, ◌-ℤ◌, ◌≤ℤ◌, ◌<ℤ◌}
use Rattle.std.proofs.Math.Nat.{mul-pos}
use Rattle.std.proofs.lemmas.Int.{ints, clamps, by_lt_z}
use Rattle.std.proofs.lemmas.List.{take_more, take_all, set_split, take-append-drop, length-append, length-take}
use Rattle.std.proofs.lemmas.List.Elements.{All-append, All-cons, All-nil, All-head, All-tail}
use Rattle.std.specs.Int.{int_max}
use Rattle.tre_pairs.specs.Before.{Before}
use Rattle.tre_zone.specs.Bound.{sum_of, Meets}
use Rattle.tre_zone.specs.Held.{Held}
use Rattle.tre_zone.specs.Zone.{ZoneHolds, IsCanonical, IsZoneOf, HasNoPair}
use Rattle.tre_zone.specs.ZoneList.{SetHolds}
use Rattle.tre_zone.specs.declared.zone_bounds.ZoneBounds.{ZoneBounds}
use Rattle.tre_compose.specs.Begins.{begins_of}
use Rattle.tre_compose.proofs.Midpoints.{begins-exact}
use Rattle.tre_zone.proofs.Bounds.{Meets-at_most, Meets-less}
use Rattle.tre_zone.proofs.Tightness.{canonical-tight}
use Rattle.tre_zone.proofs.Opposites.{Meets-opposite, Meets-cases}
use Rattle.tre_zone.proofs.Paths.{Meets-looser}
use Rattle.tre_zone.proofs.Sums.{sum_of-le, le_trans}
use Rattle.tre_zone.proofs.ZoneListLemmas.{SetHolds-append}
use Rattle.tre_forms.specs.Begun.{BeginsBefore}
use Rattle.tre_node.specs.declared.node.Stretch.{Stretch}
use Rattle.tre_node.specs.IsNode.{IsStretch}
use Rattle.tre_node.specs.Stretches.{IsIn, IsBegin, GoesOnAs, IsOfBoth, JoinsBefore, AddsMoments, AddsStretch, SameMoments}

-- ---- two stretches

max_left : (x y : ℤ) → x ≤ℤ int_max x y
max_left x y = omega (arith, ints, clamps)

max_right : (x y : ℤ) → y ≤ℤ int_max x y
max_right x y = omega (arith, ints, clamps)

max_least : (x y z : ℤ) → x ≤ℤ z → y ≤ℤ z → int_max x y ≤ℤ z
max_least x y z h k = omega (arith, ints, clamps)

max_first : (x y : ℤ) → y ≤ℤ x → x ≡ int_max x y
max_first x y h = omega (arith, ints, clamps)

max_second : (x y : ℤ) → x <ℤ y → y ≡ int_max x y
max_second x y h = omega (arith, ints, clamps)

max_case : (P : ℤ → Type 0) (x y : ℤ) → P x → P y → P (int_max x y)
max_case P x y left right =
    by_lt_z x y (λ lt. subst P (max_second x y lt) right)
    (λ not_lt. subst P (max_first x y not_lt) left)

le_refl : (x : ℤ) → x ≤ℤ x
le_refl x = omega (arith, ints)

-- What isn't over by then is in the other.
not_over : (high low : ℤ) (a n : ℕ) → 0 < n → pos 1 ≤ℤ (high +ℤ low) → (Meets high a 0 n → ⊥)
    → Meets low 0 a n
not_over high low a n some gap never =
    Meets-looser (pos 1 -ℤ high) low 0 a n some (omega (arith, ints)) (Meets-opposite high a 0 n never)

pub of_both : (one other : Stretch) (whole : Stretch) → GoesOnAs one other → whole.low ≡ one.low
    → whole.high ≡ int_max one.high other.high → IsOfBoth one other whole
of_both one other whole on low high = record {
  each = λ a n some. (
    (λ h.
        let begin : Meets one.low 0 a n = subst (λ t. Meets t 0 a n) low h.low in
        let end : Meets (int_max one.high other.high) a 0 n = subst (λ t. Meets t a 0 n) high h.high in
        ⊎_elim (λ is. inl (record { low = begin; high = is }))
        (λ never. inr (record {
          low = not_over one.high other.low a n some on.no_gap never;
          high = ⊎_elim (λ is. is)
              (λ none. absurd (max_case (λ t. Meets t a 0 n → ⊥) one.high other.high never none end))
              (Meets-cases other.high a 0 n);
        }))
        (Meets-cases one.high a 0 n)),
    (λ h. ⊎_elim
        (λ x. record {
          low = subst (λ t. Meets t 0 a n) (sym low) x.low;
          high = subst (λ t. Meets t a 0 n) (sym high)
              (Meets-looser one.high _ a 0 n some (max_left one.high other.high) x.high);
        })
        (λ x. record {
          low = subst (λ t. Meets t 0 a n) (sym low) (Meets-looser other.low _ 0 a n some on.later x.low);
          high = subst (λ t. Meets t a 0 n) (sym high)
              (Meets-looser other.high _ a 0 n some (max_right one.high other.high) x.high);
        }) h),
  );
  is = λ time x y. record {
    low = subst (λ t. t ≤ℤ pos 1) (sym low) x.low;
    some = subst (λ t. pos 1 ≤ℤ sum_of t whole.high) (sym low)
        (subst (λ t. pos 1 ≤ℤ sum_of one.low t) (sym high)
        (le_trans _ _ _ x.some (sum_of-le _ _ _ _ (le_refl one.low) (max_left one.high other.high))));
    high = subst (λ t. t ≤ℤ pos (2 * time)) (sym high)
        (max_least one.high other.high _ x.high y.high);
  };
}

-- ---- lists

pub begin_append : (xs ys : List Stretch) (a n : ℕ)
    → IsBegin (xs ++ ys) a n ↔ (IsBegin xs a n ⊎ IsBegin ys a n)
unfolding IsBegin
begin_append [] ys a n = ((λ h. inr h), (λ h. ⊎_elim (λ x. absurd x) (λ x. x) h))
begin_append (x ∷ xs) ys a n =
    let rest = begin_append xs ys a n in (
      (λ h. ⊎_elim (λ e. inl (inl e))
          (λ e. ⊎_elim (λ f. inl (inr f)) (λ f. inr f) (rest.0 e)) h),
      (λ h. ⊎_elim (λ e. ⊎_elim (λ f. inl f) (λ f. inr (rest.1 (inl f))) e)
          (λ e. inr (rest.1 (inr e))) h),
    )

one_begin : (x : Stretch) (a n : ℕ) → IsBegin (x ∷ []) a n ↔ IsIn x a n
unfolding IsBegin
one_begin x a n = ((λ h. ⊎_elim (λ e. e) (λ e. absurd e) h), (λ h. inl h))

no_begin : (a n : ℕ) → IsBegin [] a n → ⊥
unfolding IsBegin
no_begin a n h = h

All-both : (P : Stretch → Type 0) (xs ys : List Stretch) → All P (xs ++ ys) → All P xs × All P ys
All-both P [] ys all = (All-nil P, all)
All-both P (x ∷ xs) ys all =
    let rest = All-both P xs ys (All-tail P x (xs ++ ys) all) in
    (All-cons P x xs (All-head P x (xs ++ ys) all) rest.0, rest.1)

-- Something comes in between that has these moments beside those of what it takes the place of.
module _ (front old new back : List Stretch) (these : ℕ → ℕ → Type 0)
    (more : (a n : ℕ) → 0 < n → IsBegin new a n ↔ (IsBegin old a n ⊎ these a n)) where
  between : (a n : ℕ) → 0 < n
      → IsBegin (front ++ (new ++ back)) a n ↔ (IsBegin (front ++ (old ++ back)) a n ⊎ these a n)
  between a n some =
      let here = begin_append front (new ++ back) a n in
      let there = begin_append front (old ++ back) a n in
      let mine = begin_append new back a n in
      let yours = begin_append old back a n in
      let one = more a n some in (
        (λ h. ⊎_elim (λ x. inl (there.1 (inl x)))
            (λ x. ⊎_elim
            (λ y. ⊎_elim (λ z. inl (there.1 (inr (yours.1 (inl z))))) (λ z. inr z) (one.0 y))
            (λ y. inl (there.1 (inr (yours.1 (inr y))))) (mine.0 x)) (here.0 h)),
        (λ h. here.1 (⊎_elim
            (λ x. ⊎_elim (λ y. inl y)
            (λ y. inr (mine.1 (⊎_elim (λ z. inl (one.1 (inl z))) (λ z. inr z) (yours.0 y)))) (there.0 x))
            (λ x. inr (mine.1 (inl (one.1 (inr x))))) h)),
      )

between_are : (front old new back : List Stretch) (P : Stretch → Type 0) → (All P old → All P new)
    → All P (front ++ (old ++ back)) → All P (front ++ (new ++ back))
between_are front old new back P are all =
    let parts = All-both P front (old ++ back) all in
    let last = All-both P old back parts.1 in
    All-append P front (new ++ back) parts.0 (All-append P new back (are last.0) last.1)

-- ---- one list for another

two_there : (xs : List Stretch) (i : ℕ) (x y : Stretch) → suc i < length xs → x ≡ get_or xs i x
    → y ≡ get_or xs (suc i) y → xs ≡ take i xs ++ x ∷ y ∷ drop (suc (suc i)) xs
two_there [] i x y below is is' = absurd (omega (arith, below))
two_there (z ∷ []) zero x y below is is' = absurd (omega (arith, below))
two_there (z ∷ w ∷ zs) zero x y below is is' =
    ap (λ t. t ∷ w ∷ zs) (sym is) ∙ ap (λ t. x ∷ t ∷ zs) (sym is')
two_there (z ∷ zs) (suc i) x y below is is' =
    ap (λ t. z ∷ t) (two_there zs i x y (omega (arith, below)) is is')

one_there : (xs : List Stretch) (i : ℕ) (x : Stretch) → i < length xs → x ≡ get_or xs i x
    → xs ≡ take i xs ++ x ∷ drop (suc i) xs
one_there [] i x below is = absurd (omega (arith, below))
one_there (z ∷ zs) zero x below is = ap (λ t. t ∷ zs) (sym is)
one_there (z ∷ zs) (suc i) x below is = ap (λ t. z ∷ t) (one_there zs i x (omega (arith, below)) is)

removed : (xs : List Stretch) (i : ℕ) (w : Stretch) → suc i < length xs
    → set (take (suc i) xs ++ drop (suc (suc i)) xs) i w ≡ take i xs ++ w ∷ drop (suc (suc i)) xs
removed [] i w below = absurd (omega (arith, below))
removed (z ∷ zs) zero w below = refl
removed (z ∷ zs) (suc i) w below = ap (λ t. z ∷ t) (removed zs i w (omega (arith, below)))

pub replaced : (xs : List Stretch) (i : ℕ) (w : Stretch) → i + 1 < length xs
    → set (take (i + 1) xs ++ drop (suc (i + 1)) xs) i w ≡ take i xs ++ w ∷ drop (i + 2) xs
replaced xs i w below =
    let one : i + 1 ≡ suc i = omega arith in
    let two : i + 2 ≡ suc (suc i) = omega arith in
    subst (λ k. set (take k xs ++ drop (suc k) xs) i w ≡ take i xs ++ w ∷ drop (i + 2) xs) (sym one)
    (subst (λ k. set (take (suc i) xs ++ drop (suc (suc i)) xs) i w ≡ take i xs ++ w ∷ drop k xs)
    (sym two) (removed xs i w (omega (arith, below))))

-- Two that are one.
pub same_two : (xs new : List Stretch) (i : ℕ) (x y w : Stretch) → i + 1 < length xs
    → x ≡ get_or xs i x → y ≡ get_or xs (i + 1) y → IsOfBoth x y w
    → new ≡ take i xs ++ w ∷ drop (i + 2) xs → SameMoments xs new
same_two xs new i x y w below is is' both there =
    let one : i + 1 ≡ suc i = omega arith in
    let two : i + 2 ≡ suc (suc i) = omega arith in
    let back = drop (suc (suc i)) xs in
    let old = two_there xs i x y (omega (arith, below)) is
    (subst (λ k. y ≡ get_or xs k y) one is') in
    let now : new ≡ take i xs ++ ((w ∷ []) ++ back) = subst (λ k. new ≡ take i xs ++ w ∷ drop k xs) two there in
    subst (λ list. SameMoments list new) (sym old)
    (subst (λ list. SameMoments (take i xs ++ ((x ∷ y ∷ []) ++ back)) list) (sym now)
    (record {
      begins = λ a n some.
          let c = between (take i xs) (x ∷ y ∷ []) (w ∷ []) back (λ a n. ⊥)
          (λ a n some.
          let e = both.each a n some in
          let o = begin_append (x ∷ []) (y ∷ []) a n in (
            (λ h. inl (o.1 (⊎_elim (λ p. inl ((one_begin x a n).1 p))
                (λ p. inr ((one_begin y a n).1 p)) (e.0 ((one_begin w a n).0 h))))),
            (λ h. ⊎_elim (λ p. (one_begin w a n).1 (e.1 (⊎_elim
                (λ q. inl ((one_begin x a n).0 q)) (λ q. inr ((one_begin y a n).0 q)) (o.0 p))))
                (λ p. absurd p) h),
          )) a n some in (
            (λ h. ⊎_elim (λ p. p) (λ p. absurd p) (c.0 h)),
            (λ h. c.1 (inl h)),
          );
      are = λ time. between_are (take i xs) (x ∷ y ∷ []) (w ∷ []) back (IsStretch time)
          (λ all. All-cons (IsStretch time) w [] (both.is time (All-head (IsStretch time) x (y ∷ []) all)
          (All-head (IsStretch time) y [] (All-tail (IsStretch time) x (y ∷ []) all)))
          (All-nil (IsStretch time)));
    }))

pub same_refl : (xs : List Stretch) → SameMoments xs xs
same_refl xs = record { begins = λ a n some. ((λ h. h), (λ h. h)); are = λ time all. all }

pub same_then : (xs ys zs : List Stretch) → SameMoments xs ys → SameMoments ys zs → SameMoments xs zs
same_then xs ys zs x y = record {
  begins = λ a n some. (
    (λ h. (x.begins a n some).0 ((y.begins a n some).0 h)),
    (λ h. (y.begins a n some).1 ((x.begins a n some).1 h)),
  );
  are = λ time all. y.are time (x.are time all);
}

pub adds_then : (xs ys zs : List Stretch) (x : Stretch) → AddsStretch xs x ys → SameMoments ys zs
    → AddsStretch xs x zs
adds_then xs ys zs x a s = record {
  begins = record {
    begins = λ k n some. (
      (λ h. (a.begins.begins k n some).0 ((s.begins k n some).0 h)),
      (λ h. (s.begins k n some).1 ((a.begins.begins k n some).1 h)),
    );
  };
  are = λ time all is. s.are time (a.are time all is);
}

-- One more, between others or in the place of one that it touches.
pub put_whole : (xs : List Stretch) (place : ℕ) (other w : Stretch) → place ≤ length xs
    → JoinsBefore xs place other w → AddsStretch xs other (set xs (place - 1) w)
put_whole xs place other w within j =
    let i = place - 1 in
    let some = j.some in
    let below : i < length xs = omega (arith, within, some) in
    let x = j.one in
    let back = drop (suc i) xs in
    let old : xs ≡ take i xs ++ ((x ∷ []) ++ back) = one_there xs i x below j.is in
    let now : set xs i w ≡ take i xs ++ ((w ∷ []) ++ back) = set_split xs i w below in
    subst (λ list. AddsStretch xs other list) (sym now)
    (subst (λ list. AddsStretch list other (take i xs ++ ((w ∷ []) ++ back))) (sym old)
    (record {
      begins = record {
        begins = between (take i xs) (x ∷ []) (w ∷ []) back (IsIn other)
            (λ a n some.
            let e = j.both.each a n some in (
              (λ h. ⊎_elim (λ p. inl ((one_begin x a n).1 p)) (λ p. inr p) (e.0 ((one_begin w a n).0 h))),
              (λ h. (one_begin w a n).1 (e.1 (⊎_elim (λ p. inl ((one_begin x a n).0 p)) (λ p. inr p) h))),
            ));
      };
      are = λ time all is. between_are (take i xs) (x ∷ []) (w ∷ []) back (IsStretch time)
          (λ one. All-cons (IsStretch time) w []
          (j.both.is time (All-head (IsStretch time) x [] one) is) (All-nil (IsStretch time))) all;
    }))

pub put_new : (xs : List Stretch) (place : ℕ) (x : Stretch)
    → AddsStretch xs x (take place xs ++ x ∷ drop place xs)
put_new xs place x =
    let back = drop place xs in
    subst (λ list. AddsStretch list x (take place xs ++ ((x ∷ []) ++ back))) (take-append-drop place xs)
    (record {
      begins = record {
        begins = between (take place xs) [] (x ∷ []) back (IsIn x)
            (λ a n some. (
              (λ h. inr ((one_begin x a n).0 h)),
              (λ h. (one_begin x a n).1 (⊎_elim (λ p. absurd (no_begin a n p)) (λ p. p) h)),
            ));
      };
      are = λ time all is. between_are (take place xs) [] (x ∷ []) back (IsStretch time)
          (λ none. All-cons (IsStretch time) x [] is none) all;
    })

-- ---- the begins of pairs that end before a time

alone : (zone : ZoneBounds) (a b n : ℕ) → SetHolds (zone ∷ []) a b n → ZoneHolds zone a b n
unfolding SetHolds
alone zone a b n h = ⊎_elim (λ x. x) (λ x. absurd x) h

one_held : (zone : ZoneBounds) (a b n : ℕ) → ZoneHolds zone a b n → SetHolds (zone ∷ []) a b n
unfolding SetHolds
one_held zone a b n h = inl h

module _ (zone early : ZoneBounds) (time : ℕ) (c : IsCanonical early)
    (is : IsZoneOf early (Before time (ZoneHolds zone))) where
  abbrev begins : Stretch
  begins = record { low = early.begin_low; high = early.begin_high }

  rising : (a b n : ℕ) → 0 < n → ZoneHolds early a b n → a ≤ b
  rising a b n some h =
      let le = (Meets-at_most (pos 1) 0 refl a b n).0
      (Meets-looser early.dur_low (pos 1) a b n some c.framed.lasts h.dur_low) in
      omega (arith, le)

  pub begins_stretch : IsStretch time begins
  begins_stretch = record {
    low = c.framed.starts;
    some = c.room.begin_loop;
    high = (canonical-tight early c).begin_high.tightest (pos (2 * time)) (λ a b n some le h.
        let before = ((is.exact a b n some le).0 h).early in
        (Meets-less (pos (2 * time)) time refl a 0 n).1 (omega (arith, before, le)));
  }

  instant : (a n : ℕ) → Meets (pos 1) a a n
  instant a n = (Meets-at_most (pos 1) 0 refl a a n).1 (omega arith)

  pub begins_are : (a n : ℕ) → 0 < n
      → IsIn begins a n ↔ BeginsBefore time (Held (zone ∷ [])) a n
  unfolding begins_of
  begins_are a n some =
      let e = (begins-exact early c).exact a a n some (omega arith) in (
        (λ h.
            let l = (e.0 (record {
              begin_low = h.low;
              begin_high = h.high;
              end_low = h.low;
              end_high = h.high;
              dur_low = instant a n;
              dur_high = instant a n;
            })).leads in
            let finer = mul-pos l.positive some in
            let le = rising (l.factor * a) l.to (l.factor * n) finer l.led in
            let before = (is.exact (l.factor * a) l.to (l.factor * n) finer le).0 l.led in
            record {
              factor = l.factor;
              positive = l.positive;
              midpoint = l.to;
              pair = record {
                related = record {
                  rising = le;
                  held = one_held zone (l.factor * a) l.to (l.factor * n) before.related;
                };
                early = before.early;
              };
            }),
        (λ h.
            let finer = mul-pos h.positive some in
            let pair = h.pair in
            let led = (is.exact (h.factor * a) h.midpoint (h.factor * n) finer pair.related.rising).1
            (record {
              related = alone zone (h.factor * a) h.midpoint (h.factor * n) pair.related.held;
              early = pair.early;
            }) in
            let there = e.1 (record {
              same = refl;
              leads = record { factor = h.factor; positive = h.positive; to = h.midpoint; led = led };
            }) in
            record { low = there.begin_low; high = there.begin_high }),
      )

pub no_begins : (zone : ZoneBounds) (time : ℕ) → HasNoPair (Before time (ZoneHolds zone)) → (a n : ℕ)
    → 0 < n → BeginsBefore time (Held (zone ∷ [])) a n → ⊥
no_begins zone time none a n some h =
    none.never (h.factor * a) h.midpoint (h.factor * n) (mul-pos h.positive some) h.pair.related.rising
    (record {
      related = alone zone (h.factor * a) h.midpoint (h.factor * n) h.pair.related.held;
      early = h.pair.early;
    })

-- The same moments under another name, or none.
pub adds_given : (old new : List Stretch) (x : Stretch) (these : ℕ → ℕ → Type 0)
    → ((a n : ℕ) → 0 < n → IsIn x a n ↔ these a n) → AddsStretch old x new
    → AddsMoments old these new
adds_given old new x these same adds = record {
  begins = λ a n some.
      let s = same a n some in
      let b = adds.begins.begins a n some in (
        (λ h. ⊎_elim (λ p. inl p) (λ p. inr (s.0 p)) (b.0 h)),
        (λ h. b.1 (⊎_elim (λ p. inl p) (λ p. inr (s.1 p)) h)),
      );
}

pub adds_none : (old : List Stretch) (these : ℕ → ℕ → Type 0)
    → ((a n : ℕ) → 0 < n → these a n → ⊥) → AddsMoments old these old
adds_none old these never = record {
  begins = λ a n some. (
    (λ h. inl h),
    (λ h. ⊎_elim (λ p. p) (λ p. absurd (never a n some p)) h),
  );
}

-- Of a list of zones, zone by zone.
module _ (start : List Stretch) (time : ℕ) where
  pub begins_none : AddsMoments start (BeginsBefore time (Held [])) start
  unfolding SetHolds
  begins_none = adds_none start (BeginsBefore time (Held []))
      (λ a n some h. h.pair.related.held)

  begins_pushed : (zones : List ZoneBounds) (zone : ZoneBounds) (now new : List Stretch)
      → AddsMoments start (BeginsBefore time (Held zones)) now
      → AddsMoments now (BeginsBefore time (Held (zone ∷ []))) new
      → AddsMoments start (BeginsBefore time (Held (zones ++ zone ∷ []))) new
  begins_pushed zones zone now new x y = record {
    begins = λ a n some.
        let one = x.begins a n some in
        let two = y.begins a n some in (
          (λ h. ⊎_elim
              (λ p. ⊎_elim (λ q. inl q)
              (λ q. inr (record {
                factor = q.factor;
                positive = q.positive;
                midpoint = q.midpoint;
                pair = record {
                  related = record {
                    rising = q.pair.related.rising;
                    held = (SetHolds-append zones (zone ∷ []) (q.factor * a) q.midpoint (q.factor * n)).1
                        (inl q.pair.related.held);
                  };
                  early = q.pair.early;
                };
              })) (one.0 p))
              (λ q. inr (record {
                factor = q.factor;
                positive = q.positive;
                midpoint = q.midpoint;
                pair = record {
                  related = record {
                    rising = q.pair.related.rising;
                    held = (SetHolds-append zones (zone ∷ []) (q.factor * a) q.midpoint (q.factor * n)).1
                        (inr q.pair.related.held);
                  };
                  early = q.pair.early;
                };
              })) (two.0 h)),
          (λ h. two.1 (⊎_elim (λ p. inl (one.1 (inl p)))
              (λ q. ⊎_elim
              (λ r. inl (one.1 (inr (record {
                factor = q.factor;
                positive = q.positive;
                midpoint = q.midpoint;
                pair = record {
                  related = record { rising = q.pair.related.rising; held = r };
                  early = q.pair.early;
                };
              }))))
              (λ r. inr (record {
                factor = q.factor;
                positive = q.positive;
                midpoint = q.midpoint;
                pair = record {
                  related = record { rising = q.pair.related.rising; held = r };
                  early = q.pair.early;
                };
              }))
              ((SetHolds-append zones (zone ∷ []) (q.factor * a) q.midpoint (q.factor * n)).0
              q.pair.related.held)) h)),
        );
  }

  pub begins_more : (zones : List ZoneBounds) (i : ℕ) (zone : ZoneBounds) (now new : List Stretch)
      → i < length zones → zone ≡ get_or zones i zone
      → AddsMoments start (BeginsBefore time (Held (take i zones))) now
      → AddsMoments now (BeginsBefore time (Held (zone ∷ []))) new
      → AddsMoments start (BeginsBefore time (Held (take (i + 1) zones))) new
  begins_more zones i zone now new below is x y =
      rw (take_more zones i zone below, ← is) (begins_pushed (take i zones) zone now new x y)

  pub begins_all : (zones : List ZoneBounds) (i : ℕ) (now : List Stretch) → length zones ≤ i
      → AddsMoments start (BeginsBefore time (Held (take i zones))) now
      → AddsMoments start (BeginsBefore time (Held zones)) now
  begins_all zones i now all x =
      subst (λ list. AddsMoments start (BeginsBefore time (Held list)) now) (take_all i zones all) x

pub place_kept : (xs new rest : List Stretch) (i : ℕ) (w : Stretch) → i + 1 < length xs
    → new ≡ take i xs ++ w ∷ rest → i < length new
place_kept xs new rest i w below is =
    subst (λ list. i < length list) (sym is)
    (simp (length-append, length-take) (omega (arith, below)))
