-- Marks of which nothing has begun, and marks that start.
use Rattle.std.proofs.Common.{◌≡◌, ◌∙◌, ℕ, ◌*◌, ◌≤◌, ◌<◌, List, [], ◌∷◌, Option, None, Some, MatchOption, ◌+◌, ◌-◌, ap, subst, refl, sym, inl, inr, ⊎_elim, arith}
use Rattle.std.proofs.Math.Nat.{mul-pos, le_of_mul-le-mul_right}
use Rattle.std.specs.List.{AllByRecursion}
use Rattle.std.proofs.lemmas.List.Elements.{All-from_recursion}
use Rattle.tre_pairs.specs.Cuts.{JoinedAt}
use Rattle.tre_pairs.specs.Pairs.{Pairs, Composed, Both, Lasting}
use Rattle.tre_pairs.proofs.Laws.{Scales, Agree}
use Rattle.tre_pairs.proofs.Scaling.{moved, Scales-Composed, Scales-Both, Scales-Lasting}
use Rattle.tre_zone.specs.Held.{Held, EndAt}
use Rattle.tre_zone.proofs.HeldSets.{Scales-Held, Held-empty}
use Rattle.tre_syntax.specs.Cut.{back_of}
use Rattle.tre_syntax.specs.Meaning.{MatchesRest}
use Rattle.tre_syntax.specs.PatternTree.{Atom, PatternTree, empty, literal, rise, fall, event, atom, sequence, alternation, intersection, repetition, restriction}
use Rattle.tre_syntax.specs.Rest.{Rest, rest_of}
use Rattle.tre_syntax.proofs.CutMeaning.{Scales-rest}
use Rattle.tre_syntax.proofs.MeaningLaws.{DurationScales-LastsWithin}
use Rattle.tre_trace.specs.Trace.{Timeline}
use Rattle.tre_zone.specs.Interval.{IntervalEnds, LastsWithin}
use Rattle.tre_zone.specs.Zone.{IsInstantBetween, HoldsSome}
use Rattle.tre_zone.specs.ZoneList.{SetHolds, AreTight, HoldExactly}
use Rattle.tre_zone.proofs.LatestEnds.{latest_at}
use Rattle.tre_zone.proofs.ZoneListLemmas.{SetHolds-empty}
use Rattle.tre_zone.specs.declared.zone_bounds.ZoneBounds.{ZoneBounds}
use Rattle.tre_mark.specs.MarkTree.{MarkTree, atom_mark, sequence_mark, alternation_mark, repetition_mark, intersection_none, intersection_one, restriction_none, restriction_one, intersection_of, restriction_of}
use Rattle.tre_mark.specs.Marked.{Since, since, cut_since, IsOpen, AnyDuration, CanTakeIn, Marked, IsBare, IsBegun, IsNothing, IsUnbegun, IsEntered, IsEnteredAt, IsLong, LastUpTo, IsRecent, IsShort, IsStart}
use Rattle.tre_mark.proofs.Agreeing.{agree_refl, agree_sym, agree_then, agree_composed, agree_assoc, joined_composed}

pub end_at_none : (time : ℕ) → EndAt time []
end_at_none time = record { ends = λ a b n some h. absurd (Held-empty a b n h) }

-- ---- nothing has begun

never_atom : (tree : PatternTree) (rest : Rest) (a b n : ℕ)
    → Marked rest (atom_mark [] []) tree a b n → ⊥
never_atom (atom x) rest a b n h =
    ⊎_elim (λ y. Held-empty a (rest.start * n) n y.left)
    (λ y. Held-empty a (rest.start * n) n y.left) h
never_atom tree rest a b n h = h

pub nothing_atom : IsNothing (atom_mark [] [])
nothing_atom = record { never = never_atom }

module _ (one other : MarkTree) (first : IsNothing one) (second : IsNothing other) where
  never_sequence : (tree : PatternTree) (rest : Rest) (a b n : ℕ)
      → Marked rest (sequence_mark one other) tree a b n → ⊥
  never_sequence (sequence left right) rest a b n h =
      ⊎_elim (λ x. first.never left rest (x.factor * a) x.midpoint (x.factor * n) x.left)
      (λ x. second.never right rest a b n x) h
  never_sequence tree rest a b n h = h

  pub nothing_sequence : IsNothing (sequence_mark one other)
  nothing_sequence = record { never = never_sequence }

  never_alternation : (tree : PatternTree) (rest : Rest) (a b n : ℕ)
      → Marked rest (alternation_mark one other) tree a b n → ⊥
  never_alternation (alternation left right) rest a b n h =
      ⊎_elim (λ x. first.never left rest a b n x) (λ x. second.never right rest a b n x) h
  never_alternation tree rest a b n h = h

  pub nothing_alternation : IsNothing (alternation_mark one other)
  nothing_alternation = record { never = never_alternation }

module _ (body : MarkTree) (inner : IsNothing body) where
  never_repetition : (tree : PatternTree) (rest : Rest) (a b n : ℕ)
      → Marked rest (repetition_mark [] body) tree a b n → ⊥
  never_repetition (repetition tree) rest a b n h =
      ⊎_elim (λ x. Held-empty a (rest.start * n) n x.left)
      (λ x. inner.never tree rest (x.factor * a) x.midpoint (x.factor * n) x.left) h
  never_repetition tree rest a b n h = h

  pub nothing_repetition : IsNothing (repetition_mark [] body)
  nothing_repetition = record { never = never_repetition }

pub nothing_intersection : IsNothing intersection_none
nothing_intersection = record { never = λ tree rest a b n h. h }

pub nothing_restriction : IsNothing restriction_none
nothing_restriction = record { never = λ tree rest a b n h. h }

pub bare_nothing : (mark : MarkTree) → IsBare mark → IsNothing mark
bare_nothing (atom_mark here begun) bare =
    subst (λ (mark : MarkTree). IsNothing mark)
    (sym (ap (λ list. atom_mark list begun) bare.0 ∙ ap (λ list. atom_mark [] list) bare.1))
    nothing_atom
bare_nothing (sequence_mark one other) bare =
    nothing_sequence one other (bare_nothing one bare.0) (bare_nothing other bare.1)
bare_nothing (alternation_mark one other) bare =
    nothing_alternation one other (bare_nothing one bare.0) (bare_nothing other bare.1)
bare_nothing (repetition_mark here body) bare =
    subst (λ (mark : MarkTree). IsNothing mark)
    (sym (ap (λ list. repetition_mark list body) bare.0))
    (nothing_repetition body (bare_nothing body bare.1))
bare_nothing intersection_none bare = nothing_intersection
bare_nothing (intersection_one to outer one other) bare = absurd bare
bare_nothing restriction_none bare = nothing_restriction
bare_nothing (restriction_one to outer body) bare = absurd bare

begun_none : (time : ℕ) (x : Atom) → IsBegun time [] x
begun_none time empty = refl
begun_none time (literal state) = end_at_none time
begun_none time (rise state) = refl
begun_none time (fall state) = refl
begun_none time (event number) = refl

pub unbegun_atom : (x : Atom) → IsUnbegun (atom_mark [] []) (atom x)
unbegun_atom x = record {
  bare = (refl, refl);
  nothing = nothing_atom;
  well = λ time. record { well = (end_at_none time, begun_none time x) };
}

pub unbegun_sequence : (one other : MarkTree) (left right : PatternTree) → IsUnbegun one left
    → IsUnbegun other right → IsUnbegun (sequence_mark one other) (sequence left right)
unbegun_sequence one other left right first second = record {
  bare = (first.bare, second.bare);
  nothing = nothing_sequence one other first.nothing second.nothing;
  well = λ time. record { well = ((first.well time).well, (second.well time).well) };
}

pub unbegun_alternation : (one other : MarkTree) (left right : PatternTree) → IsUnbegun one left
    → IsUnbegun other right → IsUnbegun (alternation_mark one other) (alternation left right)
unbegun_alternation one other left right first second = record {
  bare = (first.bare, second.bare);
  nothing = nothing_alternation one other first.nothing second.nothing;
  well = λ time. record { well = ((first.well time).well, (second.well time).well) };
}

pub unbegun_repetition : (body : MarkTree) (tree : PatternTree) → IsUnbegun body tree
    → IsUnbegun (repetition_mark [] body) (repetition tree)
unbegun_repetition body tree inner = record {
  bare = (refl, inner.bare);
  nothing = nothing_repetition body inner.nothing;
  well = λ time. record { well = (end_at_none time, (inner.well time).well) };
}

pub unbegun_intersection : (left right : PatternTree)
    → IsUnbegun intersection_none (intersection left right)
unbegun_intersection left right = record {
  bare = tt;
  nothing = nothing_intersection;
  well = λ time. record { well = tt };
}

pub unbegun_restriction : (tree : PatternTree) (ends : IntervalEnds)
    → IsUnbegun restriction_none (restriction tree ends)
unbegun_restriction tree ends = record {
  bare = tt;
  nothing = nothing_restriction;
  well = λ time. record { well = tt };
}

-- Where there are pairs behind which it began, it has begun.
pub intersection_some : (to : ℕ) (outer : List ZoneBounds) (one other : MarkTree)
    → (outer ≡ [] → ⊥) → intersection_of to outer one other ≡ intersection_one to outer one other
intersection_some to [] one other some = absurd (some refl)
intersection_some to (zone ∷ zones) one other some = refl

pub restriction_some : (to : ℕ) (outer : List ZoneBounds) (body : MarkTree)
    → (outer ≡ [] → ⊥) → restriction_of to outer body ≡ restriction_one to outer body
restriction_some to [] body some = absurd (some refl)
restriction_some to (zone ∷ zones) body some = refl

-- ---- marks that start

-- Of what nothing is left, nothing has begun.
bare_entered : (time : ℕ) (mark : MarkTree) → IsBare mark → IsEnteredAt time mark
bare_entered time (atom_mark here begun) bare = tt
bare_entered time (sequence_mark one other) bare =
    (bare_entered time one bare.0, bare_entered time other bare.1)
bare_entered time (alternation_mark one other) bare =
    (bare_entered time one bare.0, bare_entered time other bare.1)
bare_entered time (repetition_mark here body) bare = bare_entered time body bare.1
bare_entered time intersection_none bare = tt
bare_entered time (intersection_one to outer one other) bare = absurd bare
bare_entered time restriction_none bare = tt
bare_entered time (restriction_one to outer body) bare = absurd bare

-- Nothing of it lasts too long.
none_last : (longest : Option ℕ) (zones : List ZoneBounds) → zones ≡ [] → LastUpTo longest zones
none_last longest zones none = record {
  each = λ a b n some h.
      absurd (Held-empty a b n (subst (λ (list : List ZoneBounds). Held list a b n) none h));
}

pub bare_short : (longest : Option ℕ) (mark : MarkTree) → IsBare mark → IsShort longest mark
bare_short longest (atom_mark here begun) bare =
    (none_last longest here bare.0, none_last longest begun bare.1)
bare_short longest (sequence_mark one other) bare =
    (bare_short longest one bare.0, bare_short longest other bare.1)
bare_short longest (alternation_mark one other) bare =
    (bare_short longest one bare.0, bare_short longest other bare.1)
bare_short longest (repetition_mark here body) bare =
    (none_last longest here bare.0, bare_short longest body bare.1)
bare_short longest intersection_none bare = tt
bare_short longest (intersection_one to outer one other) bare = absurd bare
bare_short longest restriction_none bare = tt
bare_short longest (restriction_one to outer body) bare = absurd bare

-- It can take in whatever begins later.
pub bare_open : (read : Since) (mark : MarkTree) (tree : PatternTree) → IsBare mark
    → CanTakeIn read mark tree
bare_open read (sequence_mark one other) (sequence left right) bare =
    (bare_open read one left bare.0, bare_open read other right bare.1)
bare_open read (alternation_mark one other) (alternation left right) bare =
    (bare_open read one left bare.0, bare_open read other right bare.1)
bare_open read (repetition_mark here body) (repetition tree) bare =
    bare_open read body tree bare.1
bare_open read (intersection_one to outer one other) (intersection left right) bare = absurd bare
bare_open read (restriction_one to outer body) (restriction tree ends) bare = absurd bare
bare_open read mark tree bare = tt

-- So does a mark without any pair, behind no pair.
pub nothing_open : (read : Since) (admitted : ℕ → ℕ → Type 0) (outer : List ZoneBounds)
    (mark : MarkTree) (tree : PatternTree) → outer ≡ [] → IsNothing mark
    → IsOpen read admitted outer mark tree
nothing_open read admitted outer mark tree none nothing = record {
  sound = λ next a b n long some from h.
      absurd (nothing.never tree (back_of (cut_since read next)) a b n h);
  complete = λ next a m b n long some held from last h.
      absurd (Held-empty a m n (subst (λ (list : List ZoneBounds). Held list a m n) none held));
}

module _ (time : ℕ) (zones : List ZoneBounds) (ends : EndAt time zones) where
  pub start_atom : (x : Atom) → IsStart time zones (atom_mark zones []) (atom x)
  start_atom x = record {
    pairs = λ before next a b n some. (
      (λ h. ⊎_elim (λ y. y) (λ y. absurd (Held-empty a (time * n) n y.left)) h),
      (λ h. inl h),
    );
    well = record { well = (ends, begun_none time x) };
    entered = tt;
    some = λ filled bare. filled bare.0;
    takes = λ before. tt;
    short = λ longest last. (last, none_last longest [] refl);
  }

  pub start_sequence : (one other : MarkTree) (left right : PatternTree)
      → IsStart time zones one left → IsUnbegun other right
      → IsStart time zones (sequence_mark one other) (sequence left right)
  start_sequence one other left right first second = record {
    pairs = λ before next a b n some.
        let rest = rest_of time before next in
        let L = MatchesRest left rest in
        let R = MatchesRest right rest in
        let same : Agree (Marked rest one left) (Composed (Held zones) L) =
        agree_then (record { at = first.pairs before next })
        (joined_composed time zones L ends (Scales-rest left rest)) in
        let whole : Agree (Composed (Marked rest one left) R)
        (JoinedAt time (Held zones) (Composed L R)) =
        agree_then (agree_composed same (agree_refl R))
        (agree_then (agree_assoc (Held zones) L R (Scales-Held zones) (Scales-rest right rest))
        (agree_sym (joined_composed time zones (Composed L R) ends
        (Scales-Composed L R (Scales-rest left rest) (Scales-rest right rest))))) in
        let both = whole.at a b n some in (
          (λ h. ⊎_elim (λ x. both.0 x)
              (λ x. absurd (second.nothing.never right rest a b n x)) h),
          (λ h. inl (both.1 h)),
        );
    well = record { well = (first.well.well, (second.well time).well) };
    entered = (first.entered, bare_entered time other second.bare);
    some = λ filled bare. first.some filled bare.0;
    takes = λ before.
        (first.takes before, bare_open (since time before []) other right second.bare);
    short = λ longest last. (first.short longest last, bare_short longest other second.bare);
  }

  pub start_alternation : (one other : MarkTree) (left right : PatternTree)
      → IsStart time zones one left → IsStart time zones other right
      → IsStart time zones (alternation_mark one other) (alternation left right)
  start_alternation one other left right first second = record {
    pairs = λ before next a b n some.
        let p = first.pairs before next a b n some in
        let q = second.pairs before next a b n some in (
          (λ h. ⊎_elim
              (λ x. let y = p.0 x in record { left = y.left; right = inl y.right })
              (λ x. let y = q.0 x in record { left = y.left; right = inr y.right }) h),
          (λ h. ⊎_elim (λ x. inl (p.1 (record { left = h.left; right = x })))
              (λ x. inr (q.1 (record { left = h.left; right = x }))) h.right),
        );
    well = record { well = (first.well.well, second.well.well) };
    entered = (first.entered, second.entered);
    some = λ filled bare. first.some filled bare.0;
    takes = λ before. (first.takes before, second.takes before);
    short = λ longest last. (first.short longest last, second.short longest last);
  }

  pub start_repetition : (body : MarkTree) (tree : PatternTree) → IsUnbegun body tree
      → IsStart time zones (repetition_mark zones body) (repetition tree)
  start_repetition body tree inner = record {
    pairs = λ before next a b n some.
        let rest = rest_of time before next in (
          (λ h. ⊎_elim (λ x. x)
              (λ x. absurd (inner.nothing.never tree rest (x.factor * a) x.midpoint (x.factor * n)
              x.left)) h),
          (λ h. inl h),
        );
    well = record { well = (ends, (inner.well time).well) };
    entered = bare_entered time body inner.bare;
    some = λ filled bare. filled bare.0;
    takes = λ before. bare_open (since time before []) body tree inner.bare;
    short = λ longest last. (last, bare_short longest body inner.bare);
  }

  entered_now : AreTight zones → (zones ≡ [] → ⊥) → IsEntered time time zones
  entered_now tight filled = record {
    some = filled;
    past = omega arith;
    latest = latest_at time zones tight filled ends;
  }

  -- What follows the set at the time is what follows there from the moment of the time on.
  module _ (before : Option ℕ) (next : Timeline) (R S : Pairs) (r : Scales R)
      (from : (a b n : ℕ) → 0 < n → S a b n → R a b n)
      (to : (a b n : ℕ) → 0 < n → a ≡ time * n → R a b n → S a b n) where
    after_now : Agree (Composed (Held zones) S) (JoinedAt time (Held zones) R)
    after_now =
        agree_then (record {
          at = λ a b n some. (
            (λ h. record {
              factor = h.factor;
              positive = h.positive;
              midpoint = h.midpoint;
              left = h.left;
              right = from h.midpoint (h.factor * b) (h.factor * n) (mul-pos h.positive some)
                  h.right;
            }),
            (λ h.
                let finer : 0 < h.factor * n = mul-pos h.positive some in
                record {
                  factor = h.factor;
                  positive = h.positive;
                  midpoint = h.midpoint;
                  left = h.left;
                  right = to h.midpoint (h.factor * b) (h.factor * n) finer
                      (ends.ends (h.factor * a) h.midpoint (h.factor * n) finer h.left) h.right;
                }),
          );
        })
        (agree_sym (joined_composed time zones R ends r))

-- Where there is no pair, what has not begun is what starts.
pub start_nothing : (time : ℕ) (zones : List ZoneBounds) (mark : MarkTree) (tree : PatternTree)
    → zones ≡ [] → IsUnbegun mark tree → IsStart time zones mark tree
start_nothing time zones mark tree none unbegun = record {
  pairs = λ before next a b n some. (
    (λ h. absurd (unbegun.nothing.never tree (rest_of time before next) a b n h)),
    (λ h. absurd (Held-empty a (time * n) n
        (subst (λ (list : List ZoneBounds). Held list a (time * n) n) none h.left))),
  );
  well = unbegun.well time;
  entered = bare_entered time mark unbegun.bare;
  some = λ filled bare. filled none;
  takes = λ before. bare_open (since time before []) mark tree unbegun.bare;
  short = λ longest last. bare_short longest mark unbegun.bare;
}

in_reach_of : (time bound : ℕ) (high : Option ℕ) → time ≤ bound
    → MatchOption high (Unit {0}) (λ high. time ≤ bound + high)
in_reach_of time bound None le = tt
in_reach_of time bound (Some high) le = omega (arith, le)

-- A zone with a pair that ends at the time is recent.
recent_at : (time : ℕ) (interval : IntervalEnds) (zone : ZoneBounds) → HoldsSome zone
    → EndAt time (zone ∷ []) → IsRecent time interval zone
unfolding SetHolds
recent_at time interval zone some ends bound by =
    let held : Held (zone ∷ []) some.a some.b some.n =
    record { rising = some.rising; held = inl some.held } in
    let at = ends.ends some.a some.b some.n some.some held in
    let before = by.ends some.a some.b some.n some.some held in
    in_reach_of time bound interval.high
    (le_of_mul-le-mul_right (omega (arith, at, before)) some.some)

all_recent : (time : ℕ) (interval : IntervalEnds) (zones : List ZoneBounds) → AreTight zones
    → EndAt time zones → AllByRecursion (IsRecent time interval) zones
unfolding AreTight SetHolds
all_recent time interval [] tight ends = tt
all_recent time interval (zone ∷ zones) tight ends = (
  recent_at time interval zone tight.0.0 (record {
    ends = λ a b n some h. ends.ends a b n some (record {
      rising = h.rising;
      held = ⊎_elim (λ x. inl x) (λ x. absurd x) h.held;
    });
  }),
  all_recent time interval zones tight.1 (record {
    ends = λ a b n some h. ends.ends a b n some (record { rising = h.rising; held = inr h.held });
  }),
)

-- A zone with a pair that isn't too long is kept.
some_short : (longest : Option ℕ) (zone : ZoneBounds) → HoldsSome zone
    → LastUpTo longest (zone ∷ []) → IsLong longest zone → ⊥
unfolding SetHolds
some_short longest zone some last long =
    let held : Held (zone ∷ []) some.a some.b some.n =
    record { rising = some.rising; held = inl some.held } in
    long some.a some.b some.n some.some held (last.each some.a some.b some.n some.some held)

all_short : (longest : Option ℕ) (zones : List ZoneBounds) → AreTight zones
    → LastUpTo longest zones → AllByRecursion (λ zone. IsLong longest zone → ⊥) zones
unfolding AreTight SetHolds
all_short longest [] tight last = tt
all_short longest (zone ∷ zones) tight last = (
  some_short longest zone tight.0.0 (record {
    each = λ a b n some h. last.each a b n some (record {
      rising = h.rising;
      held = ⊎_elim (λ x. inl x) (λ x. absurd x) h.held;
    });
  }),
  all_short longest zones tight.1 (record {
    each = λ a b n some h. last.each a b n some (record { rising = h.rising; held = inr h.held });
  }),
)

-- A moment lasts no time.
lasts_none : (longest : Option ℕ) (d n : ℕ) → d ≡ 0
    → MatchOption longest (Unit {0}) (λ high. d ≤ high * n)
lasts_none None d n is = tt
lasts_none (Some high) d n is = omega (arith, is)

moment_short : (longest : Option ℕ) (time : ℕ) (moment : List ZoneBounds)
    → HoldExactly moment (IsInstantBetween time time) → LastUpTo longest moment
moment_short longest time moment held = record {
  each = λ a b n some h.
      let same = ((held.exact a b n some h.rising).0 h.held).same in
      record { within = lasts_none longest (b - a) n (omega (arith, same)) };
}

-- A mark that starts at a moment stands there for the matches of what comes.
module _ (time : ℕ) (moment : List ZoneBounds) (held : HoldExactly moment
    (IsInstantBetween time time))
    (mark : MarkTree) (tree : PatternTree) (start : IsStart time moment mark tree)
    (before : Option ℕ) (next : Timeline) where
  pub from_moment : (a b n : ℕ) → 0 < n → Marked (rest_of time before next) mark tree a b n
      → MatchesRest tree (rest_of time before next) a b n
  from_moment a b n some h =
      let x = (start.pairs before next a b n some).0 h in
      let at = (held.exact a (time * n) n some x.left.rising).0 x.left.held in
      moved (MatchesRest tree (rest_of time before next)) (sym at.same) refl refl x.right

  pub to_moment : (a b n : ℕ) → 0 < n → a ≡ time * n
      → MatchesRest tree (rest_of time before next) a b n
      → Marked (rest_of time before next) mark tree a b n
  to_moment a b n some is h =
      let le : a ≤ time * n = omega (arith, is) in
      let ge : time * n ≤ a = omega (arith, is) in
      (start.pairs before next a b n some).1 (record {
        left = record {
          rising = le;
          held = (held.exact a (time * n) n some le).1
              (record { starts = ge; same = is; ends = omega arith });
        };
        right = moved (MatchesRest tree (rest_of time before next)) is refl refl h;
      })

-- It can take in what begins later.
module _ (time : ℕ) (moment : List ZoneBounds) (held : HoldExactly moment
    (IsInstantBetween time time))
    (mark : MarkTree) (tree : PatternTree) (start : IsStart time moment mark tree) where
  pub start_open : (before : Option ℕ) (admitted : ℕ → ℕ → Type 0) (outer : List ZoneBounds)
      → IsOpen (since time before []) admitted outer mark tree
  start_open before admitted outer = record {
    sound = λ next a b n long some from h.
        from_moment time moment held mark tree start before next a b n some h;
    complete = λ next a m b n long some behind from last h.
        let up_to = h.begin in
        to_moment time moment held mark tree start before next m b n some
        (omega (arith, from, up_to)) h.related;
  }

-- There is a moment from a time to itself.
moment_some : (time : ℕ) (moment : List ZoneBounds)
    → HoldExactly moment (IsInstantBetween time time) → moment ≡ [] → ⊥
moment_some time moment held none =
    SetHolds-empty time time 1 (subst (λ (list : List ZoneBounds). SetHolds list time time 1) none
    ((held.exact time time 1 (omega arith) (omega arith)).1
    (record { starts = omega arith; same = refl; ends = omega arith })))

module _ (time : ℕ) (zones : List ZoneBounds) (tight : AreTight zones)
    (filled : zones ≡ [] → ⊥) (ends : EndAt time zones)
    (moment : List ZoneBounds) (held : HoldExactly moment (IsInstantBetween time time)) where
  pub start_restriction : (body : MarkTree) (tree : PatternTree) (interval : IntervalEnds)
      → IsStart time moment body tree
      → IsStart time zones (restriction_one time zones body) (restriction tree interval)
  start_restriction body tree interval start = record {
    pairs = λ before next a b n some.
        let rest = rest_of time before next in
        let D = LastsWithin interval in
        let R = MatchesRest tree rest in
        let S = Marked rest body tree in
        (after_now time zones ends before next (Lasting D R) (Lasting D S)
        (Scales-Lasting D R (DurationScales-LastsWithin interval) (Scales-rest tree rest))
        (λ a b n some h. record {
          related = from_moment time moment held body tree start before next a b n some
              h.related;
          admitted = h.admitted;
        })
        (λ a b n some is h. record {
          related = to_moment time moment held body tree start before next a b n some is
              h.related;
          admitted = h.admitted;
        })).at a b n some;
    well = record {
      well = (
        entered_now time zones ends tight filled,
        All-from_recursion (IsRecent time interval) zones
            (all_recent time interval zones tight ends),
        start.well.well,
        start.some (moment_some time moment held),
        start.short interval.high (moment_short interval.high time moment held),
      );
    };
    entered = (refl, ends, start.entered);
    some = λ filled bare. bare;
    takes = λ before. (
      start_open time moment held body tree start before (LastsWithin interval) zones,
      start.takes before,
    );
    short = λ longest last. All-from_recursion (λ zone. IsLong longest zone → ⊥) zones
        (all_short longest zones tight last);
  }

  pub start_intersection : (one other : MarkTree) (left right : PatternTree)
      → IsStart time moment one left → IsStart time moment other right
      → IsStart time zones (intersection_one time zones one other) (intersection left right)
  start_intersection one other left right first second = record {
    pairs = λ before next a b n some.
        let rest = rest_of time before next in
        let R = Both (MatchesRest left rest) (MatchesRest right rest) in
        let S = Both (Marked rest one left) (Marked rest other right) in
        (after_now time zones ends before next R S
        (Scales-Both (MatchesRest left rest) (MatchesRest right rest) (Scales-rest left rest)
        (Scales-rest right rest))
        (λ a b n some h. record {
          left = from_moment time moment held one left first before next a b n some h.left;
          right = from_moment time moment held other right second before next a b n some
              h.right;
        })
        (λ a b n some is h. record {
          left = to_moment time moment held one left first before next a b n some is h.left;
          right = to_moment time moment held other right second before next a b n some is
              h.right;
        })).at a b n some;
    well = record {
      well = (
        entered_now time zones ends tight filled,
        first.well.well,
        second.well.well,
        first.some (moment_some time moment held),
        second.some (moment_some time moment held),
      );
    };
    entered = (refl, ends, first.entered, second.entered);
    some = λ filled bare. bare;
    takes = λ before. (
      start_open time moment held one left first before AnyDuration zones,
      start_open time moment held other right second before AnyDuration zones,
      first.takes before,
      second.takes before,
    );
    short = λ longest last. All-from_recursion (λ zone. IsLong longest zone → ⊥) zones
        (all_short longest zones tight last);
  }

-- ---- the same under other names

pub unbegun_moved : (mark mark' : MarkTree) (tree tree' : PatternTree) → mark' ≡ mark
    → tree' ≡ tree → IsUnbegun mark tree → IsUnbegun mark' tree'
unbegun_moved mark mark' tree tree' e f h =
    subst (λ (t : PatternTree). IsUnbegun mark' t) (sym f)
    (subst (λ (m : MarkTree). IsUnbegun m tree) (sym e) h)

pub start_moved : (time : ℕ) (zones : List ZoneBounds) (mark mark' : MarkTree)
    (tree tree' : PatternTree) → mark' ≡ mark → tree' ≡ tree → IsStart time zones mark tree
    → IsStart time zones mark' tree'
start_moved time zones mark mark' tree tree' e f h =
    subst (λ (t : PatternTree). IsStart time zones mark' t) (sym f)
    (subst (λ (m : MarkTree). IsStart time zones m tree) (sym e) h)
