-- Steps of which the ones end before the others begin, and the chains of each.
use Rattle.std.proofs.Common.{◌≡◌, ℕ, suc, ◌+◌, ◌-◌, ◌*◌, ◌^◌, ◌<◌, ◌≤◌, ◌⊎◌, ◌↔◌, List, [], ◌∷◌, ◌++◌, length, take, drop, get_or, refl, sym, ap, subst, ◌∙◌, inl, inr, ⊎_elim, arith, w64, ℤ, pos, negsuc, ◌≤ℤ◌, ◌<ℤ◌, ◌+ℤ◌, rules}
use Rattle.std.specs.List.{slice_range}
use Rattle.std.proofs.lemmas.Bool.{cases_lt}
use Rattle.std.proofs.lemmas.Int.{ints, to_z-of_z}
use Rattle.std.proofs.lemmas.List.{drop_all, take_more, take-append-drop, get_or-drop, get_or_push, get_or_append_left, length_push, length-drop}
use Rattle.std.proofs.lemmas.List.Folds.{drop_split}
use Rattle.std.proofs.Math.Seq.{drop-cons}
use Rattle.std.proofs.Math.Nat.{mul-pos, mul-le-mul_left, mul_left_comm}
use mir.Val.{SFits, of_z, to_z}
use Rattle.tre_pairs.specs.Pairs.{Pairs, Either, Both, Lasting, LeadTo, Chain}
use Rattle.tre_pairs.proofs.Laws.{Scales, Implies}
use Rattle.tre_pairs.proofs.Scaling.{moved}
use Rattle.tre_pairs.proofs.Implication.{Implies-Composed, Implies-Chain}
use Rattle.tre_zone.specs.Bound.{Meets, IsKeyWithin, sum_of}
use Rattle.tre_zone.specs.Zone.{HasNoPair}
use Rattle.tre_zone.specs.ZoneList.{SetHolds, AreCanonical, HoldExactly}
use Rattle.tre_zone.specs.declared.zone_bounds.ZoneBounds.{ZoneBounds}
use Rattle.tre_zone.proofs.Paths.{Meets-looser, Meets-sum, Meets-loop}
use Rattle.tre_zone.proofs.Scaling.{SetHolds-rising}
use Rattle.tre_zone.proofs.ZoneListLemmas.{SetHolds-empty, SetHolds-append, SetHolds-push}
use Rattle.tre_zoneset.proofs.Stretches.{take_to}
use Rattle.tre_star.specs.Parts.{SomeSteps, BeginFrom, PairsEndBy, LieBefore, AreLastBegins}
use Rattle.tre_star.proofs.Chaining.{Scales-SetHolds}
use Rattle.tre_star.proofs.Powers.{Meets-earlier}

-- ---- the chains of two sets of steps, of which none of the one touches one of the other

module _ (A B T E : Pairs) (scales_a : Scales A) (scales_b : Scales B)
    (rises_a : (a b n : ℕ) → 0 < n → A a b n → a ≤ b)
    (rises_b : (a b n : ℕ) → 0 < n → B a b n → a ≤ b)
    (before : (a b c d n : ℕ) → 0 < n → A a b n → B c d n → b < c)
    (both : (a b n : ℕ) → T a b n ↔ (A a b n ⊎ B a b n)) where
  -- Behind a step of the one each further step is of the one.
  early_steps : (n last from : ℕ) → 0 < n → A last from n → (cuts : List ℕ) (to : ℕ)
      → LeadTo T E n from cuts to → LeadTo A E n from cuts to
  early_steps n last from some step [] to h = h
  early_steps n last from some step (cut ∷ cuts) to h =
      ⊎_elim (λ x. (x, early_steps n from cut some x cuts to h.1))
      (λ x. absurd (omega (arith, before last from from cut n some step x)))
      ((both from cut n).0 h.0)

  late_steps : (n last from : ℕ) → 0 < n → B last from n → (cuts : List ℕ) (to : ℕ)
      → LeadTo T E n from cuts to → LeadTo B E n from cuts to
  late_steps n last from some step [] to h = h
  late_steps n last from some step (cut ∷ cuts) to h =
      ⊎_elim
      (λ x. absurd (omega (
        arith,
        before from cut last from n some x step,
        rises_a from cut n some x,
        rises_b last from n some step,
      )))
      (λ x. (x, late_steps n from cut some x cuts to h.1))
      ((both from cut n).0 h.0)

  early_chain : (n last from to : ℕ) → 0 < n → A last from n → Chain T E from to n
      → Chain A E from to n
  early_chain n last from to some step h = record {
    factor = h.factor;
    positive = h.positive;
    cuts = h.cuts;
    steps = early_steps (h.factor * n) (h.factor * last) (h.factor * from)
        (mul-pos h.positive some) (scales_a.up h.factor last from n h.positive step) h.cuts
        (h.factor * to) h.steps;
  }

  late_chain : (n last from to : ℕ) → 0 < n → B last from n → Chain T E from to n
      → Chain B E from to n
  late_chain n last from to some step h = record {
    factor = h.factor;
    positive = h.positive;
    cuts = h.cuts;
    steps = late_steps (h.factor * n) (h.factor * last) (h.factor * from)
        (mul-pos h.positive some) (scales_b.up h.factor last from n h.positive step) h.cuts
        (h.factor * to) h.steps;
  }

  more_steps : (R : Pairs) → Implies R T → Implies (SomeSteps R E) (SomeSteps T E)
  more_steps R implies = search (rules, Implies-Composed, Implies-Chain)

  -- So the chains are those of the one and those of the other.
  pub SomeSteps-apart : (a b n : ℕ) → 0 < n
      → SomeSteps T E a b n ↔ (SomeSteps A E a b n ⊎ SomeSteps B E a b n)
  SomeSteps-apart a b n some = (
    (λ h.
        let finer = mul-pos h.positive some in
        ⊎_elim
        (λ x. inl (record {
          factor = h.factor;
          positive = h.positive;
          midpoint = h.midpoint;
          left = x;
          right = early_chain (h.factor * n) (h.factor * a) h.midpoint (h.factor * b) finer x
              h.right;
        }))
        (λ x. inr (record {
          factor = h.factor;
          positive = h.positive;
          midpoint = h.midpoint;
          left = x;
          right = late_chain (h.factor * n) (h.factor * a) h.midpoint (h.factor * b) finer x
              h.right;
        }))
        ((both (h.factor * a) h.midpoint (h.factor * n)).0 h.left)),
    (λ h. ⊎_elim
        (λ x. (more_steps A (record { at = λ c d m y. (both c d m).1 (inl y) })).at a b n x)
        (λ x. (more_steps B (record { at = λ c d m y. (both c d m).1 (inr y) })).at a b n x) h),
  )

  -- And no chain is of both.
  pub SomeSteps-disjoint : (a b n : ℕ) → 0 < n → SomeSteps A E a b n → SomeSteps B E a b n → ⊥
  SomeSteps-disjoint a b n some one two =
      let f = one.factor in
      let g = two.factor in
      let finer : 0 < g * (f * n) = mul-pos two.positive (mul-pos one.positive some) in
      let rises = rises_a (f * a) one.midpoint (f * n) (mul-pos one.positive some) one.left in
      let more : g * (f * a) ≤ g * one.midpoint = mul-le-mul_left g rises in
      let early = scales_a.up g (f * a) one.midpoint (f * n) two.positive one.left in
      let late = moved B (mul_left_comm f g a) refl (mul_left_comm f g n)
      (scales_b.up f (g * a) two.midpoint (g * n) one.positive two.left) in
      let less = before (g * (f * a)) (g * one.midpoint) (g * (f * a)) (f * two.midpoint)
      (g * (f * n)) finer early late in
      omega (arith, less, more)

-- ---- bounds on begins and ends

BeginFrom-more : (key next : ℤ) (zone : ZoneBounds) (zones : List ZoneBounds) → key ≤ℤ next
    → zone.begin_low ≤ℤ next → BeginFrom key zones → BeginFrom next (zone ∷ zones)
unfolding SetHolds
BeginFrom-more key next zone zones le own old =
    search (rules, Meets-looser, zone.begin_low, old.each)

slice_more : (zones : List ZoneBounds) (start end : ℕ) (zone : ZoneBounds) → start ≤ end
    → end < length zones → zone ≡ get_or zones end zone
    → slice_range zones start (end + 1) ≡ slice_range zones start end ++ zone ∷ []
slice_more zones start end zone rises within is =
    let count : end + 1 - start ≡ (end - start) + 1 = omega arith in
    let place : start + (end - start) ≡ end = omega arith in
    let long = length-drop start zones in
    let at : get_or (drop start zones) (end - start) zone ≡ zone =
    get_or-drop start zones (end - start) zone
    ∙ ap (λ (k : ℕ). get_or zones k zone) place ∙ sym is in
    ap (λ (k : ℕ). take k (drop start zones)) count
    ∙ take_more (drop start zones) (end - start) zone (omega (arith, long))
    ∙ ap (λ (z : ZoneBounds). take (end - start) (drop start zones) ++ z ∷ []) at

pub EndBy-more : (zones : List ZoneBounds) (start end : ℕ) (zone : ZoneBounds) (reach next : ℤ)
    → start ≤ end → end < length zones → zone ≡ get_or zones end zone → reach ≤ℤ next
    → zone.end_high ≤ℤ next → PairsEndBy reach (slice_range zones start end)
    → PairsEndBy next (slice_range zones start (end + 1))
EndBy-more zones start end zone reach next rises within is le own old =
    rw (slice_more zones start end zone rises within is) (record {
      each = λ a b n some h. ⊎_elim
          (λ x. Meets-looser reach next b 0 n some le (old.each a b n some x))
          (λ x. Meets-looser zone.end_high next b 0 n some own x.end_high)
          ((SetHolds-push (slice_range zones start end) zone a b n).0 h);
    })

pub EndBy-first : (zones : List ZoneBounds) (start : ℕ) (zone : ZoneBounds) → start < length zones
    → zone ≡ get_or zones start zone → PairsEndBy zone.end_high (slice_range zones start (start + 1))
EndBy-first zones start zone within is =
    EndBy-more zones start start zone zone.end_high zone.end_high (omega arith) within is
    (omega (arith, ints)) (omega (arith, ints))
    (let none : start - start ≡ 0 = omega arith in
    rw none (record { each = λ a b n some h. absurd (SetHolds-empty a b n h) }))

ends_before : (begin reach : ℤ) (b c n : ℕ) → 0 < n → (begin +ℤ reach) <ℤ pos 1
    → Meets reach b 0 n → Meets begin 0 c n → b < c
unfolding sum_of
ends_before begin reach b c n some gap ends begins =
    ⊎_elim (λ less. less)
    (λ past.
    let loop = Meets-loop (sum_of reach begin) c n some
    (Meets-sum reach begin c 0 c n (Meets-earlier reach b c n past ends) begins) in
    absurd (omega (arith, ints, loop, gap)))
    (cases_lt b c)

pub LieBefore-behind : (begin reach : ℤ) (early late : List ZoneBounds)
    → (begin +ℤ reach) <ℤ pos 1 → PairsEndBy reach early → BeginFrom begin late → LieBefore early late
LieBefore-behind begin reach early late gap ends begins =
    search (rules, ends_before, ends.each, begins.each)

pub LieBefore-none : (early zones : List ZoneBounds) (place : ℕ) → length zones ≤ place
    → LieBefore early (drop place zones)
LieBefore-none early zones place past = search (rules, drop_all, SetHolds-empty)

-- ---- keys, as the machine holds them

fits : (key : ℤ) → IsKeyWithin (2 ^ 50) key → SFits w64 key
fits (pos n) within = let high = within.high in omega (arith, ints)
fits (negsuc n) within = let low = within.low in omega (arith, ints)

pub wider : (key : ℤ) → IsKeyWithin (2 ^ 42) key → IsKeyWithin (2 ^ 50) key
wider key within = search rules

pub held_as : (key : ℤ) → IsKeyWithin (2 ^ 50) key → to_z w64 (of_z w64 key) ≡ key
held_as key within = to_z-of_z w64 key (fits key within)

pub key_at : (key : ℤ) (pick : ZoneBounds → ℤ) (bounds zone : ZoneBounds) → SFits w64 key
    → key ≡ pick bounds → bounds ≡ zone → to_z w64 (of_z w64 key) ≡ pick zone
key_at key pick bounds zone small is same = to_z-of_z w64 key small ∙ is ∙ ap pick same

-- ---- the begins of the last zones

pub record HaveBegins (zones : List ZoneBounds) (begins : List ℤ) (count : ℕ) (earliest : ℤ)
    : Type 0 where
  pub known : AreLastBegins count begins zones
  pub first : BeginFrom earliest (drop (length zones - count) zones)
  pub within : IsKeyWithin (2 ^ 50) earliest

pub HaveBegins-none : (zones : List ZoneBounds) (earliest : ℤ) → IsKeyWithin (2 ^ 50) earliest
    → HaveBegins zones [] 0 earliest
HaveBegins-none zones earliest within = record {
  known = record {
    as_many = refl;
    each = λ place inside past. absurd (omega arith);
    within = λ k less. absurd (omega arith);
  };
  first =
      let all : length zones - 0 ≡ length zones = omega arith in
      rw (all, drop_all (length zones) zones (omega arith))
      (record { each = λ a b n some h. absurd (SetHolds-empty a b n h) });
  within = within;
}

pub HaveBegins-more : (zones : List ZoneBounds) (begins : List ℤ) (count : ℕ)
    (earliest next : ℤ) (zone : ZoneBounds) → count < length zones
    → zone ≡ get_or zones (length zones - 1 - count) zone → earliest ≤ℤ next
    → zone.begin_low ≤ℤ next → IsKeyWithin (2 ^ 50) next → HaveBegins zones begins count earliest
    → HaveBegins zones (begins ++ next ∷ []) (count + 1) next
HaveBegins-more zones begins count earliest next zone inside is le own within old =
    let place = length zones - 1 - count in
    let rest : suc place ≡ length zones - count = omega (arith, inside) in
    let here : place ≡ length zones - (count + 1) = omega (arith, inside) in
    let split : drop place zones ≡ zone ∷ drop (length zones - count) zones =
    drop-cons zones place zone (omega (arith, inside))
    ∙ ap (λ (z : ZoneBounds). z ∷ drop (suc place) zones) (sym is)
    ∙ ap (λ (k : ℕ). zone ∷ drop k zones) rest in
    let from : BeginFrom next (drop place zones) =
    rw split (BeginFrom-more earliest next zone (drop (length zones - count) zones) le own
    old.first) in
    record {
      known = record {
        as_many = length_push begins next ∙ ap (λ (k : ℕ). k + 1) old.known.as_many;
        each = λ k within_k past.
            ⊎_elim
            (λ known.
            rw (get_or_append_left begins (next ∷ []) (pos 0) (length zones - 1 - k)
            (omega (arith, old.known.as_many, known)))
            (old.known.each k within_k (omega (arith, known))))
            (λ last.
            let same : k ≡ place = omega (arith, last, past, within_k) in
            let back : count ≡ length zones - 1 - k = omega (arith, last, past, within_k) in
            rw (get_or_push begins next (pos 0) (length zones - 1 - k)
            (old.known.as_many ∙ back))
            (subst (λ (j : ℕ). BeginFrom next (drop j zones)) (sym same) from))
            (cases_lt (length zones) (k + count + 1));
        within = λ k less.
            ⊎_elim
            (λ known. rw (get_or_append_left begins (next ∷ []) (pos 0) k
            (omega (arith, old.known.as_many, known))) (old.known.within k known))
            (λ last.
            let same : count ≡ k = omega (arith, last, less) in
            rw (get_or_push begins next (pos 0) k (old.known.as_many ∙ same)) within)
            (cases_lt k count);
      };
      first = subst (λ (j : ℕ). BeginFrom next (drop j zones)) here from;
      within = within;
    }

-- ---- part after part

SetHolds-split : (zones : List ZoneBounds) (start end : ℕ) → start ≤ end → (a b n : ℕ)
    → SetHolds (take end zones) a b n
    ↔ (SetHolds (take start zones) a b n ⊎ SetHolds (slice_range zones start end) a b n)
SetHolds-split zones start end rises a b n =
    subst (λ (list : List ZoneBounds). SetHolds list a b n
    ↔ (SetHolds (take start zones) a b n ⊎ SetHolds (slice_range zones start end) a b n))
    (take_to zones start end rises)
    (SetHolds-append (take start zones) (slice_range zones start end) a b n)

SetHolds-behind : (zones : List ZoneBounds) (start end : ℕ) → start ≤ end → (a b n : ℕ)
    → (SetHolds (slice_range zones start end) a b n ⊎ SetHolds (drop end zones) a b n)
    → SetHolds (drop start zones) a b n
SetHolds-behind zones start end rises a b n h =
    rw (drop_split zones start end rises)
    ((SetHolds-append (slice_range zones start end) (drop end zones) a b n).1 h)

pub AreCanonical-parts : (left right : List ZoneBounds) → AreCanonical (left ++ right)
    → AreCanonical left × AreCanonical right
unfolding AreCanonical
AreCanonical-parts [] right all = (tt, all)
AreCanonical-parts (zone ∷ left) right all =
    let rest = AreCanonical-parts left right all.1 in ((all.0, rest.0), rest.1)

module _ (zones : List ZoneBounds) (canonical : AreCanonical zones) (start end : ℕ)
    (rises : start ≤ end) where
  first_canonical : AreCanonical (take start zones)
  first_canonical = (AreCanonical-parts (take start zones) (drop start zones)
      (rw (take-append-drop start zones) canonical)).0

  pub part_canonical : AreCanonical (slice_range zones start end)
  part_canonical = (AreCanonical-parts (slice_range zones start end) (drop end zones)
      (rw (← drop_split zones start end rises)
      (AreCanonical-parts (take start zones) (drop start zones)
      (rw (take-append-drop start zones) canonical)).1)).0

  module _ (before : LieBefore (take start zones) (drop start zones)) where
    -- The zones up to the end of the part lie before those behind it.
    pub LieBefore-next : LieBefore (slice_range zones start end) (drop end zones)
        → LieBefore (take end zones) (drop end zones)
    LieBefore-next apart = record {
      each = λ a b c d n some x y. ⊎_elim
          (λ early. before.each a b c d n some early
          (SetHolds-behind zones start end rises c d n (inr y)))
          (λ part. apart.each a b c d n some part y)
          ((SetHolds-split zones start end rises a b n).0 x);
    }

    module _ (D : ℕ → ℕ → Type 0) (E : Pairs) (chains : List ZoneBounds)
        (held : HoldExactly chains (Lasting D (SomeSteps (SetHolds (take start zones)) E))) where
      before_part : (a b c d n : ℕ) → 0 < n → SetHolds (take start zones) a b n
          → SetHolds (slice_range zones start end) c d n → b < c
      before_part a b c d n some x y = before.each a b c d n some x
          (SetHolds-behind zones start end rises c d n (inl y))

      -- Their chains are others,
      pub parts_disjoint : HasNoPair (Both (SetHolds chains)
          (Lasting D (SomeSteps (SetHolds (slice_range zones start end)) E)))
      parts_disjoint = record {
        never = λ a b n some le h.
            SomeSteps-disjoint (SetHolds (take start zones))
            (SetHolds (slice_range zones start end)) (SetHolds (take end zones)) E
            (Scales-SetHolds (take start zones)) (Scales-SetHolds (slice_range zones start end))
            (SetHolds-rising (take start zones) first_canonical)
            (SetHolds-rising (slice_range zones start end) part_canonical) before_part
            (SetHolds-split zones start end rises) a b n some
            ((held.exact a b n some le).0 h.left).related h.right.related;
      }

      -- and both together are those of all these zones.
      pub parts_joined : (new : List ZoneBounds)
          → HoldExactly new (Either (SetHolds chains)
          (Lasting D (SomeSteps (SetHolds (slice_range zones start end)) E)))
          → HoldExactly new (Lasting D (SomeSteps (SetHolds (take end zones)) E))
      parts_joined new joined = record {
        exact = λ a b n some le.
            let one = held.exact a b n some le in
            let two = joined.exact a b n some le in
            let both = SomeSteps-apart (SetHolds (take start zones))
            (SetHolds (slice_range zones start end)) (SetHolds (take end zones)) E
            (Scales-SetHolds (take start zones)) (Scales-SetHolds (slice_range zones start end))
            (SetHolds-rising (take start zones) first_canonical)
            (SetHolds-rising (slice_range zones start end) part_canonical) before_part
            (SetHolds-split zones start end rises) a b n some in (
              (λ h. ⊎_elim
                  (λ x. let old = one.0 x in
                  record { related = both.1 (inl old.related); admitted = old.admitted })
                  (λ x. record { related = both.1 (inr x.related); admitted = x.admitted })
                  (two.0 h)),
              (λ h. two.1 (⊎_elim
                  (λ x. inl (one.1 (record { related = x; admitted = h.admitted })))
                  (λ x. inr (record { related = x; admitted = h.admitted }))
                  (both.0 h.related))),
            );
      }

-- Before the first part there is nothing, and behind the last all.
pub parts_none : (zones : List ZoneBounds) → LieBefore (take 0 zones) (drop 0 zones)
parts_none zones = record { each = λ a b c d n some x y. absurd (SetHolds-empty a b n x) }
