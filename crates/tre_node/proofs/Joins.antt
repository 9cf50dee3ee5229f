-- Zones that join others, and stay as long as something may count behind them.
use Rattle.std.proofs.Common.{◌≡◌, ◌∙◌, ℕ, zero, suc, ◌+◌, ◌-◌, ◌*◌, ◌<◌, ◌≤◌, ◌⊎◌, ◌↔◌, inl, inr, ⊎_elim, Bool, true, false, MatchBool, Option, None, Some, MatchOption, All, List, [], ◌∷◌, ◌++◌, length, get_or, set, take, drop, ap, refl, sym, subst, arith}
use Rattle.std.proofs.Math.Nat.{mul-le-mul_right}
use Rattle.std.proofs.lemmas.List.{take_more, take_all, take_rest, set_split, take-append-drop}
use Rattle.std.proofs.lemmas.List.Elements.{All-append, All-cons, All-nil, All-head, All-tail, All-set, All-take, All-drop}
use Rattle.std.specs.List.{items_where_true}
use Rattle.std.specs.List.Retain.{ReturnsInTurn, IsFiltered}
use Rattle.tre_pairs.specs.Pairs.{Pairs, Either}
use Rattle.tre_pairs.specs.Before.{Before}
use Rattle.tre_zone.specs.Held.{Held, IsLatest}
use Rattle.tre_zone.specs.Zone.{ZoneHolds, IsZoneOf, HasNoPair}
use Rattle.tre_zone.specs.ZoneList.{SetHolds, HoldExactly}
use Rattle.tre_zone.specs.declared.zone_bounds.ZoneBounds.{ZoneBounds}
use Rattle.tre_zone.proofs.ZoneListLemmas.{SetHolds-append, SetHolds-empty}
use Rattle.tre_node.specs.declared.joining.Joined.{Joined}
use Rattle.tre_node.specs.IsNode.{IsInReach}
use Rattle.tre_node.specs.Outer.{EndsFromTick, EndsBeforeTick, IsOutOfReach, IsEarly, IsLate, GivesEarly, Keeps, KeepsInReach, JoinsAll, JoinsAt}

-- ---- in reach

pub from_tick : (time latest : ℕ) (zone : ZoneBounds) → IsLatest latest (zone ∷ []) → time ≤ latest
    → EndsFromTick time zone
from_tick time latest zone is le = record {
  late = λ bound by. let first = is.first bound by in omega (arith, le, first);
}

pub before_tick : (time latest : ℕ) (zone : ZoneBounds) → IsLatest latest (zone ∷ []) → latest < time
    → EndsBeforeTick time zone
before_tick time latest zone is lt = record {
  early = λ a m n some h.
      let by = is.ends.ends a m n some h in
      let le : latest + 1 ≤ time = omega (arith, lt) in
      let finer = mul-le-mul_right n le in
      omega (arith, by, finer);
}

pub in_reach : (time high least : ℕ) (zone : ZoneBounds) → least ≡ time - high
    → EndsFromTick least zone → IsInReach time (Some high) zone
in_reach time high least zone is from bound by =
    let late = from.late bound by in omega (arith, is, late)

none_or_some : (x : ℕ) → (x ≡ 0) ⊎ (0 < x)
none_or_some zero = inl refl
none_or_some (suc x) = inr (omega arith)

pub out_of_reach : (time high least : ℕ) (zone : ZoneBounds) → least ≡ time - high
    → EndsBeforeTick least zone → IsOutOfReach time (Some high) zone
out_of_reach time high least zone is before = record {
  never = λ a m b n some h le late last.
      let end = before.early a m n some h in
      let short = last.within in
      ⊎_elim
      (λ none.
      let nothing : least ≤ 0 = omega (arith, none) in
      let finer = mul-le-mul_right n nothing in
      omega (arith, end, some, finer))
      (λ more.
      let whole : least + high ≡ time = omega (arith, is, more) in
      let finer : (least + high) * n ≡ time * n = ap (λ t. t * n) whole in
      omega (arith, end, some, short, late, le, finer))
      (none_or_some least);
}

-- ---- what a list holds

pub held_cons : (zone : ZoneBounds) (zones : List ZoneBounds) (a b n : ℕ)
    → Held (zone ∷ zones) a b n ↔ (Held (zone ∷ []) a b n ⊎ Held zones a b n)
unfolding SetHolds
held_cons zone zones a b n = (
  (λ h. ⊎_elim (λ x. inl (record { rising = h.rising; held = inl x }))
      (λ x. inr (record { rising = h.rising; held = x })) h.held),
  (λ h. ⊎_elim
      (λ x. record { rising = x.rising; held = ⊎_elim (λ y. inl y) (λ y. absurd y) x.held })
      (λ x. record { rising = x.rising; held = inr x.held }) h),
)

pub held_both : (xs ys : List ZoneBounds) (a b n : ℕ)
    → Held (xs ++ ys) a b n ↔ (Held xs a b n ⊎ Held ys a b n)
held_both xs ys a b n =
    let s = SetHolds-append xs ys a b n in (
      (λ h. ⊎_elim (λ x. inl (record { rising = h.rising; held = x }))
          (λ x. inr (record { rising = h.rising; held = x })) (s.0 h.held)),
      (λ h. ⊎_elim (λ x. record { rising = x.rising; held = s.1 (inl x.held) })
          (λ x. record { rising = x.rising; held = s.1 (inr x.held) }) h),
    )

pub alone_held : (zone : ZoneBounds) (a b n : ℕ) → Held (zone ∷ []) a b n → ZoneHolds zone a b n
unfolding SetHolds
alone_held zone a b n h = ⊎_elim (λ x. x) (λ x. absurd x) h.held

pub held_alone : (zone : ZoneBounds) (a b n : ℕ) → a ≤ b → ZoneHolds zone a b n
    → Held (zone ∷ []) a b n
unfolding SetHolds
held_alone zone a b n le h = record { rising = le; held = inl h }

held_none : (a b n : ℕ) → Held [] a b n → ⊥
unfolding SetHolds
held_none a b n h = h.held

-- ---- what is kept

module _ (reach : Option ℕ) (time : ℕ) where
  abbrev Reached : ZoneBounds → Type 0
  Reached zone = IsInReach time reach zone

  pub kept_none : KeepsInReach reach time [] []
  kept_none = record {
    are = record { sound = λ a m n some h. h; kept = λ a m b n some h le late last. h };
    reached = All-nil Reached;
  }

  pub kept_with : (zone : ZoneBounds) (zones kept : List ZoneBounds) → IsInReach time reach zone
      → KeepsInReach reach time zones kept → KeepsInReach reach time (zone ∷ zones) (zone ∷ kept)
  kept_with zone zones kept is k = record {
    are = record {
      sound = λ a m n some h. (held_cons zone zones a m n).1
          (⊎_elim (λ x. inl x) (λ x. inr (k.are.sound a m n some x)) ((held_cons zone kept a m n).0 h));
      kept = λ a m b n some h le late last. (held_cons zone kept a m n).1
          (⊎_elim (λ x. inl x) (λ x. inr (k.are.kept a m b n some x le late last))
          ((held_cons zone zones a m n).0 h));
    };
    reached = All-cons Reached zone kept is k.reached;
  }

  pub kept_without : (zone : ZoneBounds) (zones kept : List ZoneBounds)
      → IsOutOfReach time reach zone → KeepsInReach reach time zones kept
      → KeepsInReach reach time (zone ∷ zones) kept
  kept_without zone zones kept out k = record {
    are = record {
      sound = λ a m n some h. (held_cons zone zones a m n).1 (inr (k.are.sound a m n some h));
      kept = λ a m b n some h le late last.
          ⊎_elim (λ x. absurd (out.never a m b n some x le late last))
          (λ x. k.are.kept a m b n some x le late last) ((held_cons zone zones a m n).0 h);
    };
    reached = k.reached;
  }

  -- What a test that changes nothing leaves of a list.
  module _ {F : Type 0} (R : F → ZoneBounds → Bool → F → Type 0) (f : F)
      (says : (zone : ZoneBounds) (stays : Bool) (f' : F) → R f zone stays f'
      → MatchBool stays (IsInReach time reach zone) (IsOutOfReach time reach zone) × (f' ≡ f)) where
    in_turn : (zones : List ZoneBounds) (answers : List Bool) (last : F)
        → length answers ≡ length zones → ReturnsInTurn R f answers zones last
        → KeepsInReach reach time zones (items_where_true answers zones)
    in_turn [] [] last same turns = kept_none
    in_turn [] (stays ∷ answers) last same turns = absurd (omega arith)
    in_turn (zone ∷ zones) [] last same turns = absurd (omega arith)
    in_turn (zone ∷ zones) (true ∷ answers) last same turns =
        let one = says zone true turns.0 turns.1 in
        let rest = subst (λ (g : F). ReturnsInTurn R g answers zones last) one.1 turns.2 in
        kept_with zone zones (items_where_true answers zones) one.0
        (in_turn zones answers last (omega arith) rest)
    in_turn (zone ∷ zones) (false ∷ answers) last same turns =
        let one = says zone false turns.0 turns.1 in
        let rest = subst (λ (g : F). ReturnsInTurn R g answers zones last) one.1 turns.2 in
        kept_without zone zones (items_where_true answers zones) one.0
        (in_turn zones answers last (omega arith) rest)

    pub kept_from_retain : (zones kept : List ZoneBounds) → IsFiltered R f zones kept
        → KeepsInReach reach time zones kept
    kept_from_retain zones kept (answers, last, same, turns, is) =
        subst (KeepsInReach reach time zones) (sym is) (in_turn zones answers last same turns)

  pub early_given : (zone early : ZoneBounds) → IsZoneOf early (Before time (ZoneHolds zone))
      → (answer : Option ZoneBounds)
      → MatchOption answer (IsOutOfReach time reach early)
      (λ same. (same ≡ early) × IsInReach time reach early) → GivesEarly reach time zone answer
  early_given zone early is None out = record {
    never = λ a m b n some h le late last. out.never a m b n some
        (held_alone early a m n h.related.rising ((is.exact a m n some h.related.rising).1
        (record { related = alone_held zone a m n h.related; early = h.early }))) le late last;
  }
  early_given zone early is (Some same) given = record {
    is = subst (λ z. IsZoneOf z (Before time (ZoneHolds zone))) (sym given.0) is;
    reached = subst (λ z. IsInReach time reach z) (sym given.0) given.1;
  }

  pub late_given : (zone : ZoneBounds) → HasNoPair (Before time (ZoneHolds zone))
      → IsLate reach time zone
  late_given zone none = record {
    never = λ a m b n some h le late last. none.never a m n some h.related.rising
        (record { related = alone_held zone a m n h.related; early = h.early });
  }

-- ---- what joins

All-both : (P : ZoneBounds → Type 0) (xs ys : List ZoneBounds) → All P (xs ++ ys)
    → All P xs × All P ys
All-both P [] ys all = (All-nil P, all)
All-both P (x ∷ xs) ys all =
    let rest = All-both P xs ys (All-tail P x (xs ++ ys) all) in
    (All-cons P x xs (All-head P x (xs ++ ys) all) rest.0, rest.1)

pub joins_none : (zones : List ZoneBounds) → JoinsAll zones [] zones
unfolding SetHolds
joins_none zones = record {
  held = record {
    exact = λ a b n some le. ((λ h. inl h), (λ h. ⊎_elim (λ x. x) (λ x. absurd x) h));
  };
  reached = λ time reach all none. all;
}

pub joins_pushed : (zones : List ZoneBounds) (zone : ZoneBounds)
    → JoinsAll zones (zone ∷ []) (zones ++ zone ∷ [])
joins_pushed zones zone = record {
  held = record { exact = λ a b n some le. SetHolds-append zones (zone ∷ []) a b n };
  reached = λ time reach all one.
      All-append (IsInReach time reach) zones (zone ∷ []) all one;
}

one_there : (xs : List ZoneBounds) (i : ℕ) (x : ZoneBounds) → i < length xs → x ≡ get_or xs i x
    → xs ≡ take i xs ++ x ∷ drop (suc i) xs
one_there [] i x below is = absurd (omega (arith, below))
one_there (z ∷ zs) zero x below is = ap (λ t. t ∷ zs) (sym is)
one_there (z ∷ zs) (suc i) x below is = ap (λ t. z ∷ t) (one_there zs i x (omega (arith, below)) is)

-- A larger zone is in reach where a smaller one is.
larger : (time : ℕ) (reach : Option ℕ) (one whole : ZoneBounds)
    → ((a b n : ℕ) → 0 < n → Held (one ∷ []) a b n → Held (whole ∷ []) a b n)
    → IsInReach time reach one → IsInReach time reach whole
larger time reach one whole more is bound by =
    is bound (record { ends = λ a b n some h. by.ends a b n some (more a b n some h) })

pub joins_at : (zones : List ZoneBounds) (zone : ZoneBounds) (joined : Joined)
    → JoinsAt zones zone joined
    → JoinsAll zones (zone ∷ []) (set zones joined.place joined.whole)
unfolding SetHolds
joins_at zones zone joined j =
    let i = joined.place in
    let one = j.one in
    let front = take i zones in
    let back = drop (suc i) zones in
    let old : zones ≡ front ++ (one ∷ back) = one_there zones i one j.below j.is in
    let now : set zones i joined.whole ≡ front ++ (joined.whole ∷ back) =
    set_split zones i joined.whole j.below in
    record {
      held = record {
        exact = λ a b n some le.
            let both = j.both.exact a b n some le in
            let here = SetHolds-append front (joined.whole ∷ back) a b n in
            let there = SetHolds-append front (one ∷ back) a b n in (
              (λ h. ⊎_elim
                  (λ x. inl (subst (λ list. SetHolds list a b n) (sym old) (there.1 (inl x))))
                  (λ x. ⊎_elim
                  (λ y. ⊎_elim
                  (λ w. inl (subst (λ list. SetHolds list a b n) (sym old) (there.1 (inr (inl w)))))
                  (λ w. inr (inl w)) (both.0 y))
                  (λ y. inl (subst (λ list. SetHolds list a b n) (sym old) (there.1 (inr (inr y))))) x)
                  (here.0 (subst (λ list. SetHolds list a b n) now h))),
              (λ h. subst (λ list. SetHolds list a b n) (sym now) (here.1 (⊎_elim
                  (λ x. ⊎_elim (λ y. inl y)
                  (λ y. inr (⊎_elim (λ w. inl (both.1 (inl w))) (λ w. inr w) y))
                  (there.0 (subst (λ list. SetHolds list a b n) old x)))
                  (λ x. inr (inl (both.1 (inr (⊎_elim (λ w. w) (λ w. absurd w) x))))) h))),
            );
      };
      reached = λ time reach all one'.
          All-set (IsInReach time reach) zones i joined.whole
          (larger time reach zone joined.whole
          (λ a b n some h. held_alone joined.whole a b n h.rising
          ((j.both.exact a b n some h.rising).1 (inr (alone_held zone a b n h))))
          (All-head (IsInReach time reach) zone [] one')) all;
    }

joins_then : (start zones these now new : List ZoneBounds) → JoinsAll start zones now
    → JoinsAll now these new → JoinsAll start (zones ++ these) new
joins_then start zones these now new x y = record {
  held = record {
    exact = λ a b n some le.
        let one = x.held.exact a b n some le in
        let two = y.held.exact a b n some le in
        let s = SetHolds-append zones these a b n in (
          (λ h. ⊎_elim (λ p. ⊎_elim (λ q. inl q) (λ q. inr (s.1 (inl q))) (one.0 p))
              (λ p. inr (s.1 (inr p))) (two.0 h)),
          (λ h. two.1 (⊎_elim (λ p. inl (one.1 (inl p)))
              (λ p. ⊎_elim (λ q. inl (one.1 (inr q))) (λ q. inr q) (s.0 p)) h)),
        );
  };
  reached = λ time reach all both.
      let parts = All-both (IsInReach time reach) zones these both in
      y.reached time reach (x.reached time reach all parts.0) parts.1;
}

-- One zone more.
pub joins_more : (start zones now new : List ZoneBounds) (i : ℕ) (zone : ZoneBounds)
    → i < length zones → zone ≡ get_or zones i zone → JoinsAll start (take i zones) now
    → JoinsAll now (zone ∷ []) new → JoinsAll start (take (i + 1) zones) new
joins_more start zones now new i zone below is x y =
    rw (take_more zones i zone below, ← is) (joins_then start (take i zones) (zone ∷ []) now new x y)

pub joins_all : (start zones now : List ZoneBounds) (i : ℕ) → length zones ≤ i
    → JoinsAll start (take i zones) now → JoinsAll start zones now
joins_all start zones now i all x =
    subst (λ list. JoinsAll start list now) (take_all i zones all) x

-- Those behind a place were taken out and have joined again.
pub joins_again : (zones aux new : List ZoneBounds) (place : ℕ) → aux ≡ drop place zones
    → JoinsAll (take place zones) aux new → JoinsAll zones [] new
unfolding SetHolds
joins_again zones aux new place is x =
    let whole : take place zones ++ drop place zones ≡ zones = take-append-drop place zones in
    let y = subst (λ list. JoinsAll (take place zones) list new) is x in
    record {
      held = record {
        exact = λ a b n some le.
            let e = y.held.exact a b n some le in
            let s = SetHolds-append (take place zones) (drop place zones) a b n in (
              (λ h. inl (subst (λ list. SetHolds list a b n) whole (s.1 (e.0 h)))),
              (λ h. e.1 (s.0 (subst (λ list. SetHolds list a b n) (sym whole)
                  (⊎_elim (λ z. z) (λ z. absurd z) h)))),
            );
      };
      reached = λ time reach all none. y.reached time reach
          (All-take (IsInReach time reach) place zones all)
          (All-drop (IsInReach time reach) place zones all);
    }

-- ---- both

module _ (reach : Option ℕ) (time : ℕ) (start : List ZoneBounds) where
  pub keeps_none : Keeps reach time start (Either (Held start) (Before time (Held []))) start
  keeps_none = record {
    are = record {
      sound = λ a m n some h. inl h;
      kept = λ a m b n some h le late last.
          ⊎_elim (λ x. x) (λ x. absurd (held_none a m n x.related)) h;
    };
    reached = λ all. all;
  }

  -- The zone joins as far as it ends early.
  pub keeps_early : (zone early : ZoneBounds) (new : List ZoneBounds) → IsEarly reach time zone early
      → JoinsAll start (early ∷ []) new
      → Keeps reach time start (Either (Held start) (Before time (Held (zone ∷ [])))) new
  keeps_early zone early new is j = record {
    are = record {
      sound = λ a m n some h. ⊎_elim
          (λ x. inl (record { rising = h.rising; held = x }))
          (λ x.
          let e = (is.is.exact a m n some h.rising).0
          (alone_held early a m n (record { rising = h.rising; held = x })) in
          inr (record { related = held_alone zone a m n h.rising e.related; early = e.early }))
          ((j.held.exact a m n some h.rising).0 h.held);
      kept = λ a m b n some h le late last. ⊎_elim
          (λ x. record { rising = x.rising; held = (j.held.exact a m n some x.rising).1 (inl x.held) })
          (λ x. record {
            rising = x.related.rising;
            held = (j.held.exact a m n some x.related.rising).1 (inr
                (held_alone early a m n x.related.rising ((is.is.exact a m n some x.related.rising).1
                (record { related = alone_held zone a m n x.related; early = x.early }))).held);
          }) h;
    };
    reached = λ all. j.reached time reach all
        (All-cons (IsInReach time reach) early [] is.reached (All-nil (IsInReach time reach)));
  }

  pub keeps_late : (zone : ZoneBounds) → IsLate reach time zone
      → Keeps reach time start (Either (Held start) (Before time (Held (zone ∷ [])))) start
  keeps_late zone is = record {
    are = record {
      sound = λ a m n some h. inl h;
      kept = λ a m b n some h le late last.
          ⊎_elim (λ x. x) (λ x. absurd (is.never a m b n some x le late last)) h;
    };
    reached = λ all. all;
  }

  keeps_pushed : (zones : List ZoneBounds) (zone : ZoneBounds) (now new : List ZoneBounds)
      → Keeps reach time start (Either (Held start) (Before time (Held zones))) now
      → Keeps reach time now (Either (Held now) (Before time (Held (zone ∷ [])))) new
      → Keeps reach time start (Either (Held start) (Before time (Held (zones ++ zone ∷ [])))) new
  keeps_pushed zones zone now new x y = record {
    are = record {
      sound = λ a m n some h. ⊎_elim
          (λ p. ⊎_elim (λ q. inl q)
          (λ q. inr (record {
            related = (held_both zones (zone ∷ []) a m n).1 (inl q.related);
            early = q.early;
          })) (x.are.sound a m n some p))
          (λ q. inr (record {
            related = (held_both zones (zone ∷ []) a m n).1 (inr q.related);
            early = q.early;
          })) (y.are.sound a m n some h);
      kept = λ a m b n some h le late last. y.are.kept a m b n some
          (⊎_elim (λ p. inl (x.are.kept a m b n some (inl p) le late last))
          (λ q. ⊎_elim
          (λ r. inl (x.are.kept a m b n some (inr (record { related = r; early = q.early })) le late last))
          (λ r. inr (record { related = r; early = q.early }))
          ((held_both zones (zone ∷ []) a m n).0 q.related)) h) le late last;
    };
    reached = λ all. y.reached (x.reached all);
  }

  pub keeps_more : (zones : List ZoneBounds) (i : ℕ) (zone : ZoneBounds) (now new : List ZoneBounds)
      → i < length zones → zone ≡ get_or zones i zone
      → Keeps reach time start (Either (Held start) (Before time (Held (take i zones)))) now
      → Keeps reach time now (Either (Held now) (Before time (Held (zone ∷ [])))) new
      → Keeps reach time start (Either (Held start) (Before time (Held (take (i + 1) zones)))) new
  keeps_more zones i zone now new below is x y =
      rw (take_more zones i zone below, ← is) (keeps_pushed (take i zones) zone now new x y)

  pub keeps_all : (zones : List ZoneBounds) (i : ℕ) (now : List ZoneBounds) → length zones ≤ i
      → Keeps reach time start (Either (Held start) (Before time (Held (take i zones)))) now
      → Keeps reach time start (Either (Held start) (Before time (Held zones))) now
  keeps_all zones i now all x =
      subst (λ list. Keeps reach time start (Either (Held start) (Before time (Held list))) now)
      (take_all i zones all) x

  -- The same under another list of zones, and then without what is out of reach.
  pub keeps_again : (R : Pairs) (now new : List ZoneBounds) → Keeps reach time start R now
      → JoinsAll now [] new → Keeps reach time start R new
  keeps_again R now new x y = record {
    are = record {
      sound = λ a m n some h. x.are.sound a m n some (record {
        rising = h.rising;
        held = ⊎_elim (λ z. z) (λ z. absurd (SetHolds-empty a m n z))
            ((y.held.exact a m n some h.rising).0 h.held);
      });
      kept = λ a m b n some h le late last.
          let old = x.are.kept a m b n some h le late last in
          record {
            rising = old.rising;
            held = (y.held.exact a m n some old.rising).1 (inl old.held);
          };
    };
    reached = λ all. y.reached time reach (x.reached all) (All-nil (IsInReach time reach));
  }

  pub keeps_united : (R : Pairs) (now united new : List ZoneBounds) → Keeps reach time start R now
      → HoldExactly united (SetHolds now) → KeepsInReach reach time united new
      → Keeps reach time start R new
  keeps_united R now united new x same k = record {
    are = record {
      sound = λ a m n some h.
          let u = k.are.sound a m n some h in
          x.are.sound a m n some
          (record { rising = u.rising; held = (same.exact a m n some u.rising).0 u.held });
      kept = λ a m b n some h le late last.
          let old = x.are.kept a m b n some h le late last in
          k.are.kept a m b n some
          (record { rising = old.rising; held = (same.exact a m n some old.rising).1 old.held })
          le late last;
    };
    reached = λ all. k.reached;
  }

-- ---- one of two

pub first_includes : (one other : ZoneBounds) → ((a b n : ℕ) → 0 < n → a ≤ b → ZoneHolds other a b n
    → ZoneHolds one a b n) → IsZoneOf one (Either (ZoneHolds one) (ZoneHolds other))
first_includes one other every = record {
  exact = λ a b n some le. (
    (λ h. inl h),
    (λ h. ⊎_elim (λ x. x) (λ x. every a b n some le x) h),
  );
}

pub reach_given : (time : ℕ) (reach : Option ℕ) (high least : ℕ) (zone : ZoneBounds)
    → reach ≡ Some high → least ≡ time - high → (answer : Bool)
    → MatchBool answer (EndsFromTick least zone) (EndsBeforeTick least zone)
    → MatchBool answer (IsInReach time reach zone) (IsOutOfReach time reach zone)
reach_given time reach high least zone is same true from =
    subst (λ r. IsInReach time r zone) (sym is) (in_reach time high least zone same from)
reach_given time reach high least zone is same false before =
    subst (λ r. IsOutOfReach time r zone) (sym is) (out_of_reach time high least zone same before)

-- The zones behind a place, put where nothing was.
pub behind_place : (cleared xs given found : List ZoneBounds) (place : ℕ) → cleared ≡ []
    → given ≡ xs → found ≡ cleared ++ take (length given - place) (drop place given)
    → found ≡ drop place xs
behind_place cleared xs given found place none same is =
    is ∙ ap (λ list. list ++ take (length given - place) (drop place given)) none
    ∙ take_rest given place ∙ ap (λ list. drop place list) same
