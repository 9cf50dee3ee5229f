-- What has begun of a literal, as zones that end at one time.
use Rattle.std.proofs.Common.{◌≡◌, ◌↔◌, ◌∙◌, ℕ, Option, Some, Bool, false, ℤ, ◌-◌, ◌+◌, ◌*◌, ◌^◌, ◌<◌, ◌≤◌, List, [], ◌∷◌, ◌++◌, length, get_or, take, map, inl, inr, ⊎_elim, ap, refl, sym, subst, arith, pos, ◌-ℤ◌, ◌≤ℤ◌}
use Rattle.std.proofs.lemmas.Bool.{false≢true}
use Rattle.std.proofs.lemmas.Int.{ints}
use Rattle.std.specs.Bool.{◌==◌}
use Rattle.std.proofs.Math.Nat.{mul-le-mul_right}
use Rattle.std.specs.List.{remove}
use Rattle.std.specs.Prelude.{All}
use Rattle.std.proofs.lemmas.List.{append_assoc, map-append, take_all, take_more}
use Rattle.std.proofs.lemmas.List.Elements.{All-cons, All-head, All-nil, All-tail}
use Rattle.tre_pairs.specs.declared.TheConstants.{TIME_MAX}
use Rattle.tre_pairs.specs.Pairs.{Composed}
use Rattle.tre_pairs.proofs.Agreement.{Agree-Composed}
use Rattle.tre_pairs.proofs.Order.{IsOrdered-Composed}
use Rattle.tre_zone.specs.Bound.{sum_of, IsKeyWithin, Meets}
use Rattle.tre_zone.specs.Held.{Held, EndAt, IsSetOf}
use Rattle.tre_zone.specs.Zone.{ZoneHolds, IsCanonical, IsOnward}
use Rattle.tre_zone.specs.declared.zone_bounds.ZoneBounds.{ZoneBounds}
use Rattle.tre_zone.specs.ZoneList.{SetHolds, AreCanonical, HoldExactly}
use Rattle.tre_zone.proofs.HeldSets.{Agree-Held, IsOrdered-Held}
use Rattle.tre_zone.proofs.Bounds.{split, split-sum, value_of-sum_of, weakness_of-sum_of, Meets-at_least, Meets-at_most, Meets-less}
use Rattle.tre_zone.proofs.Paths.{Meets-looser, Meets-sum}
use Rattle.tre_node.specs.declared.node.Stretch.{Stretch}
use Rattle.tre_node.specs.IsNode.{IsStretch}
use Rattle.tre_node.specs.NodeTree.{begun_at, stretch_zone}
use Rattle.tre_node.specs.Stretches.{IsBegin, IsIn}
use Rattle.tre_node.specs.Telling.{CutsBegun, IsFirstTooOld, IsTooLong}
use Rattle.tre_node.proofs.SetsOf.{set_exact}

pub stretch_canonical : (time : ℕ) (stretch : Stretch) → time ≤ TIME_MAX → IsStretch time stretch
    → IsCanonical (stretch_zone time stretch)
unfolding stretch_zone
stretch_canonical time stretch limit is =
    let low = stretch.low in
    let high = stretch.high in
    let el = pos 1 -ℤ pos (2 * time) in
    let eh = pos (2 * time + 1) in
    let dl = sum_of high el in
    let dh = sum_of eh low in
    let a = split low in
    let b = split high in
    let c = split el in
    let d = split eh in
    let e = split-sum high el in
    let f = split-sum eh low in
    let e1 = value_of-sum_of high el in
    let e2 = weakness_of-sum_of high el in
    let f1 = value_of-sum_of eh low in
    let f2 = weakness_of-sum_of eh low in
    let bottom = is.low in
    let some = is.some in
    let top = is.high in
    let m = split-sum low high in
    record {
      room = record {
        begin_loop = some;
        end_loop = omega (arith, ints, split-sum el eh);
        dur_loop = omega (arith, ints, split-sum dl dh);
      };
      closed = record {
        begin_low = omega (arith, ints, split-sum el dh);
        begin_high = omega (arith, ints, split-sum dl eh);
        end_low = omega (arith, ints, split-sum low dl);
        end_high = omega (arith, ints, split-sum dh high);
        dur_low = omega (arith, ints);
        dur_high = omega (arith, ints);
      };
      framed = record {
        starts = bottom;
        ends = omega (arith, ints);
        lasts = omega (arith, ints);
      };
    }

zone_begin : (time : ℕ) (stretch : Stretch) (a b n : ℕ)
    → ZoneHolds (stretch_zone time stretch) a b n ↔ (IsIn stretch a n × (b ≡ time * n))
unfolding stretch_zone
zone_begin time stretch a b n =
    let least = Meets-at_least (pos 1 -ℤ pos (2 * time)) time refl 0 b n in
    let most = Meets-at_most (pos (2 * time + 1)) time refl b 0 n in (
      (λ h.
          let from = least.0 h.end_low in
          let to = most.0 h.end_high in
          (record { low = h.begin_low; high = h.begin_high }, omega (arith, from, to))),
      (λ h.
          let eq = h.1 in
          let from = least.1 (omega (arith, eq)) in
          let to = most.1 (omega (arith, eq)) in
          record {
            begin_low = h.0.low;
            begin_high = h.0.high;
            end_low = from;
            end_high = to;
            dur_low = Meets-sum stretch.high (pos 1 -ℤ pos (2 * time)) a 0 b n h.0.high from;
            dur_high = Meets-sum (pos (2 * time + 1)) stretch.low b 0 a n to h.0.low;
          }),
    )

list_begin : (time : ℕ) (stretches : List Stretch) (a b n : ℕ)
    → SetHolds (begun_at time stretches) a b n ↔ (IsBegin stretches a n × (b ≡ time * n))
unfolding SetHolds IsBegin
list_begin time [] a b n = ((λ h. absurd h), (λ h. absurd h.0))
list_begin time (stretch ∷ stretches) a b n =
    let one = zone_begin time stretch a b n in
    let rest = list_begin time stretches a b n in (
      (λ h. ⊎_elim (λ x. let y = one.0 x in (inl y.0, y.1)) (λ x. let y = rest.0 x in (inr y.0, y.1)) h),
      (λ h. ⊎_elim (λ x. inl (one.1 (x, h.1))) (λ x. inr (rest.1 (x, h.1))) h.0),
    )

-- The pairs that have begun are those that begin in a stretch and end at the time.
pub held_begun : (time : ℕ) (stretches : List Stretch) (a b n : ℕ) → a ≤ b
    → Held (begun_at time stretches) a b n ↔ (IsBegin stretches a n × (b ≡ time * n))
held_begun time stretches a b n le =
    let same = list_begin time stretches a b n in (
      (λ h. same.0 h.held),
      (λ h. record { rising = le; held = same.1 h }),
    )

pub begun_end : (time : ℕ) (stretches : List Stretch) → EndAt time (begun_at time stretches)
begun_end time stretches = record {
  ends = λ a b n some h. ((held_begun time stretches a b n h.rising).0 h).1;
}

-- What has begun did so before the time.
pub begin_before : (time : ℕ) (stretches : List Stretch) → All (IsStretch time) stretches
    → (a n : ℕ) → 0 < n → IsBegin stretches a n → a < time * n
unfolding IsBegin
begin_before time [] all a n some h = absurd h
begin_before time (stretch ∷ stretches) all a n some h = ⊎_elim
    (λ x.
    let most = (Meets-less (pos (2 * time)) time refl a 0 n).0
    (Meets-looser stretch.high (pos (2 * time)) a 0 n some
    (All-head (IsStretch time) stretch stretches all).high x.high) in
    omega (arith, most))
    (λ x. begin_before time stretches (All-tail (IsStretch time) stretch stretches all) a n some x) h

-- It goes on to a later time.
pub begun_later : (time later : ℕ) (stretches : List Stretch) → time ≤ later
    → All (IsStretch time) stretches → (a n : ℕ) → 0 < n
    → Held (begun_at later stretches) a (later * n) n ↔ Held (begun_at time stretches) a (time * n) n
begun_later time later stretches le all a n some = (
  (λ h.
      let x = ((held_begun later stretches a (later * n) n h.rising).0 h).0 in
      let before = begin_before time stretches all a n some x in
      (held_begun time stretches a (time * n) n (omega (arith, before))).1 (x, refl)),
  (λ h.
      let x = ((held_begun time stretches a (time * n) n h.rising).0 h).0 in
      let up = mul-le-mul_right n le in
      let rising = h.rising in
      (held_begun later stretches a (later * n) n (omega (arith, rising, up))).1 (x, refl)),
)

pub stretches_later : (time later : ℕ) (stretches : List Stretch) → time ≤ later
    → All (IsStretch time) stretches → All (IsStretch later) stretches
stretches_later time later [] le all = All-nil (IsStretch later)
stretches_later time later (stretch ∷ stretches) le all =
    let is = All-head (IsStretch time) stretch stretches all in
    let most = is.high in
    All-cons (IsStretch later) stretch stretches
    (record { low = is.low; some = is.some; high = omega (arith, ints, most, le) })
    (stretches_later time later stretches le (All-tail (IsStretch time) stretch stretches all))

-- One stretch more was put as a zone.
pub begun_next : (time : ℕ) (stretches : List Stretch) (old now new : List ZoneBounds) (i : ℕ)
    (stretch : Stretch) → now ≡ old ++ begun_at time (take i stretches)
    → new ≡ now ++ stretch_zone time stretch ∷ [] → i < length stretches
    → stretch ≡ get_or stretches i stretch → new ≡ old ++ begun_at time (take (i + 1) stretches)
begun_next time stretches old now new i stretch so_far put below is =
    put ∙ ap (λ (list : List ZoneBounds). list ++ stretch_zone time stretch ∷ []) so_far
    ∙ append_assoc old (begun_at time (take i stretches)) (stretch_zone time stretch ∷ [])
    ∙ ap (λ (list : List ZoneBounds). old ++ list)
    (sym (map-append (stretch_zone time) (take i stretches) (stretch ∷ []))
    ∙ ap (λ (s : Stretch). map (stretch_zone time) (take i stretches ++ s ∷ [])) is
    ∙ ap (λ (list : List Stretch). map (stretch_zone time) list)
    (sym (take_more stretches i stretch below)))

pub begun_all : (time : ℕ) (stretches : List Stretch) (old now : List ZoneBounds) (i : ℕ)
    → now ≡ old ++ begun_at time (take i stretches) → length stretches ≤ i
    → now ≡ old ++ begun_at time stretches
begun_all time stretches old now i so_far all =
    so_far ∙ ap (λ (list : List Stretch). old ++ begun_at time list) (take_all i stretches all)

pub stretch_keys : (time : ℕ) (stretch : Stretch) → time ≤ TIME_MAX → IsStretch time stretch
    → IsKeyWithin (2 ^ 42) stretch.low × IsKeyWithin (2 ^ 42) stretch.high
stretch_keys time stretch limit is =
    let a = split stretch.low in
    let b = split stretch.high in
    let m = split-sum stretch.low stretch.high in
    let bottom = is.low in
    let some = is.some in
    let top = is.high in (
      record { low = omega (arith, ints); high = omega (arith, ints) },
      record { low = omega (arith, ints); high = omega (arith, ints) },
    )

-- What had begun goes on through the piece.
pub onward_set : (from to : ℕ) (mid new : List ZoneBounds) (zone : ZoneBounds) → AreCanonical mid
    → ((a b n : ℕ) → 0 < n → ZoneHolds zone a b n ↔ IsOnward from to a b n)
    → HoldExactly new (Composed (SetHolds mid) (ZoneHolds zone))
    → IsSetOf new (Composed (Held mid) (IsOnward from to))
onward_set from to mid new zone known held exact =
    let same = Agree-Composed (Held mid) (SetHolds mid) (IsOnward from to) (ZoneHolds zone)
    (Agree-Held mid known) (record { at = λ a b n some. ((held a b n some).1, (held a b n some).0) }) in
    set_exact new (Composed (Held mid) (IsOnward from to))
    (IsOrdered-Composed (Held mid) (IsOnward from to) (IsOrdered-Held mid)
    (record { le = λ a b n h. h.rising }))
    (record {
      exact = λ a b n some le.
          let one = exact.exact a b n some le in
          let two = same.at a b n some in
          ((λ h. two.1 (one.0 h)), (λ h. one.1 (two.0 h)));
    })

-- ---- what lasts longer than what counts

pub too_long : (longest time : ℕ) (high : ℤ) → longest < time
    → high ≤ℤ pos (2 * (time - longest)) → IsTooLong (Some longest) time high
too_long longest time high more tight = record {
  never = λ a n some h short.
      let from = time - longest in
      let before = (Meets-less (pos (2 * from)) from refl a 0 n).0
      (Meets-looser high (pos (2 * from)) a 0 n some tight h) in
      let sum : from + longest ≤ time = omega (arith, more) in
      let finer = mul-le-mul_right n sum in
      let within = short.within in
      omega (arith, before, finer, within);
}

pub cuts_none : (longest : Option ℕ) (time : ℕ) (begun : List Stretch)
    → CutsBegun longest time begun begun
cuts_none longest time begun = record {
  same = λ a n some short. ((λ h. h), (λ h. h));
  are = λ at all. all;
}

cut_first : (longest : Option ℕ) (time : ℕ) (old now : List Stretch)
    → CutsBegun longest time old now → IsFirstTooOld longest time now
    → CutsBegun longest time old (remove now 0)
unfolding IsBegin
cut_first longest time old [] cuts first = absurd (let none = first.some in omega (arith, none))
cut_first longest time old (stretch ∷ stretches) cuts first = record {
  same = λ a n some short.
      let c = cuts.same a n some short in (
        (λ h. c.0 (inr h)),
        (λ h. ⊎_elim
            (λ x. absurd (first.old.never a n some
            (subst (λ (s : Stretch). Meets s.high a 0 n) (sym first.is) x.high) short))
            (λ x. x) (c.1 h)),
      );
  are = λ at all. All-tail (IsStretch at) stretch stretches (cuts.are at all);
}

pub cuts_more : (longest : Option ℕ) (time : ℕ) (old now new : List Stretch)
    → CutsBegun longest time old now → IsFirstTooOld longest time now → new ≡ remove now 0
    → CutsBegun longest time old new
cuts_more longest time old now new cuts first is =
    subst (λ (list : List Stretch). CutsBegun longest time old list) (sym is)
    (cut_first longest time old now cuts first)

pub some_stretch : (begun : List Stretch) (none : Bool) → none ≡ (length begun == 0)
    → none ≡ false → 0 < length begun
some_stretch [] none is off = absurd (false≢true (sym off ∙ is))
some_stretch (stretch ∷ stretches) none is off = omega arith
