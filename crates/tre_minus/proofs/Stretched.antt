-- Of taken zones a stretch: of a zone it takes away what all of them do.
use Rattle.std.proofs.Common.{◌≡◌, ℕ, ◌+◌, ◌-◌, ◌<◌, ◌≤◌, ◌↔◌, List, [], ◌∷◌, ◌++◌, length, get_or, map, take, drop, subst, sym, ap, ◌∙◌, inl, inr, ⊎_elim, arith, ℤ, take-append-drop}
use Rattle.std.proofs.lemmas.Bool.{cases_lt}
use Rattle.std.proofs.lemmas.List.{get_or-drop, get_or-take, length-drop, length-map, length-take}
use Rattle.std.specs.List.{slice_range}
use Rattle.tre_index.specs.Turn.{IsStretch}
use Rattle.tre_index.specs.declared.turn.Stretch.{Stretch}
use Rattle.tre_pairs.specs.Pairs.{Both}
use Rattle.tre_pairs.specs.Except.{Except}
use Rattle.tre_zone.specs.Zone.{ZoneHolds, row_of}
use Rattle.tre_zone.specs.ZoneList.{SetHolds, AreCanonical}
use Rattle.tre_zone.specs.declared.zone_bounds.ZoneBounds.{ZoneBounds}
use Rattle.tre_zone.proofs.ZoneListLemmas.{SetHolds-append}
use Rattle.tre_zoneset.proofs.Searching.{IsKeyOf}
use Rattle.tre_zoneset.proofs.Stretches.{take_to}
use Rattle.tre_minus.proofs.Comparing.{HeldFrom-past, HeldFrom-none}
use Rattle.tre_minus.proofs.Differences.{HeldFrom-first}

canonical_parts : (left right : List ZoneBounds) → AreCanonical (left ++ right)
    → AreCanonical left × AreCanonical right
unfolding AreCanonical
canonical_parts [] right all = (tt, all)
canonical_parts (zone ∷ left) right all =
    let rest = canonical_parts left right all.1 in ((all.0, rest.0), rest.1)

pub canonical_stretch : (taken : List ZoneBounds) (from to : ℕ) → from ≤ to → AreCanonical taken
    → AreCanonical (slice_range taken from to)
canonical_stretch taken from to rises canonical =
    let before : AreCanonical (take to taken) =
    (canonical_parts (take to taken) (drop to taken)
    (rw (take-append-drop to taken) canonical)).0 in
    (canonical_parts (take from taken) (slice_range taken from to)
    (rw (take_to taken from to rises) before)).1

module _ (taken : List ZoneBounds) (from to : ℕ) (rises : from ≤ to) (ends : to ≤ length taken)
    (a b n : ℕ) where
  held_inside : (place : ℕ) → from ≤ place → place < to
      → ((d : ZoneBounds) → ZoneHolds (get_or taken place d) a b n)
      → SetHolds (slice_range taken from to) a b n
  held_inside place starts stops held =
      let back : from + (place - from) ≡ place = omega (arith, starts) in
      (HeldFrom-first (slice_range taken from to) a b n).0 (record {
        place = place - from;
        starts = omega arith;
        ends = omega (
          arith,
          starts,
          stops,
          ends,
          length-take (to - from) (drop from taken),
          length-drop from taken,
        );
        held = λ d. subst (λ zone. ZoneHolds zone a b n)
            (sym (get_or-take (to - from) (drop from taken) (place - from) d
            (omega (arith, starts, stops))
            ∙ get_or-drop from taken (place - from) d ∙ ap (λ k. get_or taken k d) back))
            (held d);
      })

  held_by_all : SetHolds (slice_range taken from to) a b n → SetHolds taken a b n
  held_by_all h =
      subst (λ (list : List ZoneBounds). SetHolds list a b n) (take-append-drop to taken)
      ((SetHolds-append (take to taken) (drop to taken) a b n).1
      (inl (subst (λ (list : List ZoneBounds). SetHolds list a b n) (take_to taken from to rises)
      ((SetHolds-append (take from taken) (slice_range taken from to) a b n).1 (inr h)))))

pub Except-stretch : (zone : ZoneBounds) (taken : List ZoneBounds) (key : List ℤ)
    → IsKeyOf (Both (ZoneHolds zone)) taken key → (stretch : Stretch)
    → IsStretch (map row_of taken) key stretch → (a b n : ℕ) → 0 < n → a ≤ b
    → Except (ZoneHolds zone) (SetHolds (slice_range taken stretch.from stretch.to)) a b n
    ↔ Except (ZoneHolds zone) (SetHolds taken) a b n
Except-stretch zone taken key is_key stretch is a b n some le =
    let count = length-map taken row_of in
    let ends : stretch.to ≤ length taken = omega (arith, is.ends, count) in (
      (λ h. record {
        related = h.related;
        never = λ m.
            let first = HeldFrom-past zone taken key is_key 0 stretch.from is.before a b n some le
            h.related ((HeldFrom-first taken a b n).1 m) in
            ⊎_elim
            (λ inside. h.never (held_inside taken stretch.from stretch.to is.rising ends a b n
            first.place first.starts inside first.held))
            (λ behind. HeldFrom-none zone taken key is_key stretch.to is.behind a b n some le
            h.related (record {
              place = first.place;
              starts = behind;
              ends = first.ends;
              held = first.held;
            }))
            (cases_lt first.place stretch.to);
      }),
      (λ h. record {
        related = h.related;
        never = λ m. h.never (held_by_all taken stretch.from stretch.to is.rising ends a b n m);
      }),
    )
