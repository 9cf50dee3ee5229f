-- The closure: what holds while it goes on, and at its end.
use Rattle.std.proofs.Common.{◌≡◌, ℕ, zero, suc, ◌+◌, ◌-◌, ◌*◌, ◌<◌, ◌≤◌, ◌⊎◌, ◌↔◌, List, [], ◌∷◌, ◌++◌, length, length-append, take, get_or, ap, inl, inr, ⊎_elim, arith, rules}
use Rattle.std.proofs.lemmas.List.{take-append-le, take_all}
use Rattle.std.proofs.Math.Nat.{mul-pos, mul-le-mul_left, le_of_mul-le-mul_left, mul_left_comm}
use Rattle.tre_pairs.specs.Pairs.{Pairs, Either, Composed, Lasting, LeadTo, Chain}
use Rattle.tre_pairs.proofs.Laws.{Scales, DurationScales}
use Rattle.tre_pairs.proofs.Shortening.{IsDownward, finer_duration}
use Rattle.tre_pairs.proofs.Chains.{Composed-at, Chain-none, Chain-step, Chain-cases}
use Rattle.tre_zone.specs.Zone.{IsInstantBetween, ZoneHolds}
use Rattle.tre_zone.specs.ZoneList.{SetHolds, HoldExactly, AreCanonical}
use Rattle.tre_zone.specs.declared.zone_bounds.ZoneBounds.{ZoneBounds}
use Rattle.tre_zone.proofs.ZoneListLemmas.{SetHolds-empty}
use Rattle.tre_zone.proofs.Scaling.{SetHolds-scale, SetHolds-rising}
use Rattle.tre_zoneset.proofs.Members.{SetHolds-more}
use Rattle.tre_star.specs.Growth.{HasGrown}
use Rattle.tre_star.specs.Parts.{SomeSteps}

-- ---- laws of sets and of instants

pub Scales-SetHolds : (zones : List ZoneBounds) → Scales (SetHolds zones)
Scales-SetHolds zones = search (rules, SetHolds-scale)

scaled_up : (k time n a : ℕ) → time * n ≤ a → time * (k * n) ≤ k * a
scaled_up k time n a h = let le : k * (time * n) ≤ k * a = mul-le-mul_left k h in
    omega (arith, mul_left_comm k time n)

scaled_down : (k time n b : ℕ) → b ≤ time * n → k * b ≤ time * (k * n)
scaled_down k time n b h = let le : k * b ≤ k * (time * n) = mul-le-mul_left k h in
    omega (arith, mul_left_comm k time n)

unscaled_up : (k time n a : ℕ) → 0 < k → time * (k * n) ≤ k * a → time * n ≤ a
unscaled_up k time n a some h = let le : k * (time * n) ≤ k * a =
    omega (arith, mul_left_comm k time n) in le_of_mul-le-mul_left le some

unscaled_down : (k time n b : ℕ) → 0 < k → k * b ≤ time * (k * n) → b ≤ time * n
unscaled_down k time n b some h = let le : k * b ≤ k * (time * n) =
    omega (arith, mul_left_comm k time n) in le_of_mul-le-mul_left le some

unscaled_same : (k a b : ℕ) → 0 < k → k * a ≡ k * b → a ≡ b
unscaled_same k a b some h = search rules

pub Scales-instants : (from to : ℕ) → Scales (IsInstantBetween from to)
Scales-instants from to = record {
  up = λ k a b n pos h. record {
    starts = scaled_up k from n a h.starts;
    same = ap (λ t. k * t) h.same;
    ends = scaled_down k to n b h.ends;
  };
  down = λ k a b n pos h. record {
    starts = unscaled_up k from n a pos h.starts;
    same = unscaled_same k a b pos h.same;
    ends = unscaled_down k to n b pos h.ends;
  };
}

pub instants-rising : (from to a b n : ℕ) → IsInstantBetween from to a b n → a ≤ b
instants-rising from to a b n h = let same = h.same in omega arith

-- The chains of a step or more, and to them the instants.
pub HoldExactly-with : (D : ℕ → ℕ → Type 0) (R E : Pairs) → Scales R → Scales E
    → ((a b n : ℕ) → E a b n → D (b - a) n) → (zone : ZoneBounds) (chains new : List ZoneBounds)
    → ((a b n : ℕ) → 0 < n → ZoneHolds zone a b n ↔ E a b n)
    → HoldExactly chains (Lasting D (SomeSteps R E))
    → HoldExactly new (Either (SetHolds chains) (ZoneHolds zone))
    → HoldExactly new (Lasting D (Chain R E))
HoldExactly-with D R E r e short zone chains new exact held more = record {
  exact = λ a b n some le.
      let one = held.exact a b n some le in
      let two = more.exact a b n some le in
      let instant = exact a b n some in (
        (λ h. ⊎_elim
            (λ x. let steps = one.0 x in record {
              related = Chain-step R E r e a b n steps.related;
              admitted = steps.admitted;
            })
            (λ x. let same = instant.0 x in record {
              related = Chain-none R E a b n same;
              admitted = short a b n same;
            })
            (two.0 h)),
        (λ h. two.1 (⊎_elim (λ x. inr (instant.1 x))
            (λ x. inl (one.1 (record { related = x; admitted = h.admitted })))
            (Chain-cases R E e a b n h.related))),
      );
}

-- ---- how far the closure has come

-- What was reached are chains of a step or more, of durations that D admits; and each pair of x
-- before an instant or one of the first zones that were reached, of such a duration, was reached
-- too.
pub record IsClosedTo (D : ℕ → ℕ → Type 0) (x : List ZoneBounds) (E : Pairs)
    (reached : List ZoneBounds) (place : ℕ) : Type 0 where
  pub set : AreCanonical reached
  pub within : place ≤ length reached
  pub sound : (a b n : ℕ) → 0 < n → SetHolds reached a b n
      → Lasting D (SomeSteps (SetHolds x) E) a b n
  pub first : (a b n : ℕ) → 0 < n → D (b - a) n → Composed (SetHolds x) E a b n
      → SetHolds reached a b n
  pub closed : (a b n : ℕ) → 0 < n → D (b - a) n
      → Composed (SetHolds x) (SetHolds (take place reached)) a b n → SetHolds reached a b n

pub Composed-rising : (R S : Pairs) → ((a b n : ℕ) → 0 < n → R a b n → a ≤ b)
    → ((a b n : ℕ) → 0 < n → S a b n → a ≤ b) → (a b n : ℕ) → 0 < n
    → Composed R S a b n → a ≤ b
Composed-rising R S left right a b n some h = search rules

Composed-right : (R S T : Pairs) → ((a b n : ℕ) → 0 < n → S a b n → T a b n) → (a b n : ℕ)
    → 0 < n → Composed R S a b n → Composed R T a b n
Composed-right R S T implies a b n some h = search rules

-- The first zones, and one more, of a list that has grown.
first_more : (reached more next : List ZoneBounds) (place : ℕ) (zone : ZoneBounds)
    → next ≡ reached ++ more → place < length reached → zone ≡ get_or reached place zone
    → (a b n : ℕ) → SetHolds (take (place + 1) next) a b n
    → SetHolds (take place reached) a b n ⊎ ZoneHolds zone a b n
first_more reached more next place zone behind within is a b n h =
    search (rules, take-append-le, within, SetHolds-more)

holds_at : (zones : List ZoneBounds) (place : ℕ) (zone : ZoneBounds) → place < length zones
    → zone ≡ get_or zones place zone → (a b n : ℕ) → ZoneHolds zone a b n → SetHolds zones a b n
unfolding SetHolds
holds_at [] place zone within is a b n h = absurd (omega (arith, within))
holds_at (one ∷ zones) zero zone within is a b n h = search rules
holds_at (one ∷ zones) (suc place) zone within is a b n h =
    inr (holds_at zones place zone (omega (arith, within)) is a b n h)

pub SetHolds-take : (zones : List ZoneBounds) (count a b n : ℕ) → SetHolds (take count zones) a b n
    → SetHolds zones a b n
unfolding SetHolds
SetHolds-take zones zero a b n h = absurd h
SetHolds-take [] (suc count) a b n h = absurd h
SetHolds-take (zone ∷ zones) (suc count) a b n h =
    ⊎_elim (λ x. inl x) (λ x. inr (SetHolds-take zones count a b n x)) h

module _ (D : ℕ → ℕ → Type 0) (x : List ZoneBounds) (E : Pairs) (zones : AreCanonical x)
    (scales : Scales E) (same : (a b n : ℕ) → E a b n → a ≤ b) where
  steps_rising : (a b n : ℕ) → 0 < n → SetHolds x a b n → a ≤ b
  steps_rising a b n some h = SetHolds-rising x zones a b n some h

  -- The steps were put before the instants.
  pub IsClosedTo-first : (instants : ZoneBounds)
      → ((a b n : ℕ) → 0 < n → ZoneHolds instants a b n ↔ E a b n)
      → (reached : List ZoneBounds) → HasGrown [] reached
      → HoldExactly reached (Either (SetHolds [])
      (Lasting D (Composed (SetHolds x) (ZoneHolds instants))))
      → IsClosedTo D x E reached 0
  IsClosedTo-first instants exact reached grown held = record {
    set = grown.canonical;
    within = omega arith;
    sound = λ a b n some h.
        let le = SetHolds-rising reached grown.canonical a b n some h in
        ⊎_elim (λ none. absurd (SetHolds-empty a b n none))
        (λ new. record {
          related = Composed-right (SetHolds x) (ZoneHolds instants) (Chain (SetHolds x) E)
              (λ c d m pos y. Chain-none (SetHolds x) E c d m ((exact c d m pos).0 y))
              a b n some new.related;
          admitted = new.admitted;
        })
        ((held.exact a b n some le).0 h);
    first = λ a b n some admitted h.
        let le = Composed-rising (SetHolds x) E steps_rising (λ c d m pos y. same c d m y)
        a b n some h in
        (held.exact a b n some le).1 (inr (record {
          related = Composed-right (SetHolds x) E (ZoneHolds instants)
              (λ c d m pos y. (exact c d m pos).1 y) a b n some h;
          admitted = admitted;
        }));
    closed = λ a b n some admitted h. absurd (SetHolds-empty _ _ _ h.right);
  }

  -- What x and the zone at the place compose to was added.
  pub IsClosedTo-next : (reached next : List ZoneBounds) (place : ℕ) (zone : ZoneBounds)
      → place < length reached → zone ≡ get_or reached place zone
      → IsClosedTo D x E reached place → HasGrown reached next
      → HoldExactly next (Either (SetHolds reached)
      (Lasting D (Composed (SetHolds x) (ZoneHolds zone))))
      → IsClosedTo D x E next (place + 1)
  IsClosedTo-next reached next place zone within is old grown held = record {
    set = grown.canonical;
    within =
        let longer = ap length grown.behind in
        omega (arith, within, longer, length-append reached grown.more);
    sound = λ a b n some h.
        let le = SetHolds-rising next grown.canonical a b n some h in
        ⊎_elim (λ before. old.sound a b n some before)
        (λ new. record {
          related = Composed-right (SetHolds x) (ZoneHolds zone) (Chain (SetHolds x) E)
              (λ c d m pos y. Chain-step (SetHolds x) E (Scales-SetHolds x) scales c d m
              (old.sound c d m pos (holds_at reached place zone within is c d m y)).related)
              a b n some new.related;
          admitted = new.admitted;
        })
        ((held.exact a b n some le).0 h);
    first = λ a b n some admitted h.
        let le = Composed-rising (SetHolds x) E steps_rising (λ c d m pos y. same c d m y)
        a b n some h in
        (held.exact a b n some le).1 (inl (old.first a b n some admitted h));
    closed = λ a b n some admitted h.
        let le = Composed-rising (SetHolds x) (SetHolds next) steps_rising
        (SetHolds-rising next grown.canonical) a b n some
        (Composed-right (SetHolds x) (SetHolds (take (place + 1) next)) (SetHolds next)
        (λ c d m pos y. SetHolds-take next (place + 1) c d m y) a b n some h) in
        let back = held.exact a b n some le in
        ⊎_elim
        (λ first. back.1 (inl (old.closed a b n some admitted (record {
          factor = h.factor;
          positive = h.positive;
          midpoint = h.midpoint;
          left = h.left;
          right = first;
        }))))
        (λ last. back.1 (inr (record {
          related = record {
            factor = h.factor;
            positive = h.positive;
            midpoint = h.midpoint;
            left = h.left;
            right = last;
          };
          admitted = admitted;
        })))
        (first_more reached grown.more next place zone grown.behind within is
        h.midpoint (h.factor * b) (h.factor * n) h.right);
  }

  -- At the end what was reached is every chain of a step or more, of such a duration.
  all_steps : IsDownward D → (reached : List ZoneBounds) (place : ℕ)
      → IsClosedTo D x E reached place → length reached ≤ place
      → (n from cut : ℕ) → 0 < n → SetHolds x from cut n → (cuts : List ℕ) (to : ℕ)
      → D (to - from) n → LeadTo (SetHolds x) E n cut cuts to → SetHolds reached from to n
  all_steps down reached place closed all n from cut some step [] to short h =
      closed.first from to n some short (Composed-at (SetHolds x) E from cut to n step h)
  all_steps down reached place closed all n from cut some step (next ∷ cuts) to short h =
      let rises = steps_rising from cut n some step in
      let less : to - cut ≤ to - from = omega (arith, rises) in
      let rest = all_steps down reached place closed all n cut next some h.0 cuts to
      (down.at (to - cut) (to - from) n less short) h.1 in
      closed.closed from to n some short
      (rw (take_all place reached all)
      (Composed-at (SetHolds x) (SetHolds reached) from cut to n step rest))

  pub IsClosedTo-last : IsDownward D → DurationScales D → (reached : List ZoneBounds) (place : ℕ)
      → IsClosedTo D x E reached place → length reached ≤ place
      → HoldExactly reached (Lasting D (SomeSteps (SetHolds x) E))
  IsClosedTo-last down finer reached place closed all = record {
    exact = λ a b n some le. (
      (λ h. closed.sound a b n some h),
      (λ h.
          let steps = h.related in
          let chain = steps.right in
          let f = steps.factor in
          let g = chain.factor in
          (SetHolds-scale reached f a b n steps.positive).1
          ((SetHolds-scale reached g (f * a) (f * b) (f * n) chain.positive).1
          (all_steps down reached place closed all (g * (f * n)) (g * (f * a))
          (g * steps.midpoint) (mul-pos chain.positive (mul-pos steps.positive some))
          ((Scales-SetHolds x).up g (f * a) steps.midpoint (f * n) chain.positive steps.left)
          chain.cuts (g * (f * b))
          (finer_duration D down finer g (f * a) (f * b) (f * n) chain.positive
          (finer_duration D down finer f a b n steps.positive h.admitted))
          chain.steps))),
    );
  }
