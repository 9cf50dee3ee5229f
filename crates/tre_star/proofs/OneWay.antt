-- Chains of steps of which each can be followed by the next one alone.
use Rattle.std.proofs.Common.{◌≡◌, ℕ, ◌+◌, ◌-◌, ◌*◌, ◌<◌, ◌≤◌, ◌⊎◌, ◌↔◌, List, [], ◌∷◌, ◌++◌, length, length-drop, get_or, take, drop, sym, ap, subst, ◌∙◌, inl, inr, ⊎_elim, arith, rules}
use Rattle.std.proofs.Math.Nat.{mul-pos, le_of_mul-le-mul_left}
use Rattle.std.proofs.lemmas.List.{drop_all, drop_more, get_or-drop, get_or_default, take-append-drop}
use Rattle.std.specs.List.Sorted.{IsPermutation}
use Rattle.tre_pairs.specs.Pairs.{Pairs, Either, Composed, Lasting, LeadTo, Chain}
use Rattle.tre_pairs.proofs.Laws.{Scales, DurationScales, Implies}
use Rattle.tre_pairs.proofs.Chains.{Composed-at, Chain-none, Chain-step, Chain-cases}
use Rattle.tre_pairs.proofs.Implication.{Implies-Composed, Implies-Chain}
use Rattle.tre_pairs.proofs.Shortening.{IsDownward, finer_duration}
use Rattle.tre_zone.specs.Zone.{ZoneHolds, HasNoPair}
use Rattle.tre_zone.specs.ZoneList.{SetHolds, AreCanonical, HoldExactly}
use Rattle.tre_zone.specs.declared.zone_bounds.ZoneBounds.{ZoneBounds}
use Rattle.tre_zone.proofs.Scaling.{ZoneHolds-scale, SetHolds-rising}
use Rattle.tre_zone.proofs.ZoneListLemmas.{SetHolds-append, SetHolds-empty, AreCanonical-empty}
use Rattle.tre_zoneset.proofs.Members.{SetHolds-any}
use Rattle.tre_zoneset.proofs.Unions.{HoldExactly-none}
use Rattle.tre_zoneset.proofs.Thinning.{SetHolds-permutation}
use Rattle.tre_star.specs.OneWay.{LeadOn}
use Rattle.tre_star.specs.Parts.{SomeSteps}
use Rattle.tre_star.proofs.Separate.{AreCanonical-parts}
use Rattle.tre_star.proofs.Chaining.{Scales-SetHolds, SetHolds-take, Composed-rising}

-- The chains that begin with the first of the zones.
abbrev pub Begun : Pairs → List ZoneBounds → Pairs
Begun E zones = Composed (SetHolds (take 1 zones)) (Chain (SetHolds zones) E)

-- ---- chains that keep to some of the steps

module _ (A T E : Pairs) (scales : Scales A)
    (keeps : (last from cut n : ℕ) → 0 < n → A last from n → T from cut n → A from cut n) where
  further_steps : (n last from : ℕ) → 0 < n → A last from n → (cuts : List ℕ) (to : ℕ)
      → LeadTo T E n from cuts to → LeadTo A E n from cuts to
  further_steps n last from some step [] to h = h
  further_steps n last from some step (cut ∷ cuts) to h =
      let next = keeps last from cut n some step h.0 in
      (next, further_steps n from cut some next cuts to h.1)

  further_chain : (n last from to : ℕ) → 0 < n → A last from n → Chain T E from to n
      → Chain A E from to n
  further_chain n last from to some step h = record {
    factor = h.factor;
    positive = h.positive;
    cuts = h.cuts;
    steps = further_steps (h.factor * n) (h.factor * last) (h.factor * from)
        (mul-pos h.positive some) (scales.up h.factor last from n h.positive step) h.cuts
        (h.factor * to) h.steps;
  }

module _ (R E : Pairs) (rises : (a b n : ℕ) → 0 < n → R a b n → a ≤ b)
    (same : (a b n : ℕ) → E a b n → a ≤ b) where
  lead_rising : (n from : ℕ) → 0 < n → (cuts : List ℕ) (to : ℕ) → LeadTo R E n from cuts to
      → from ≤ to
  lead_rising n from some [] to h = same from to n h
  lead_rising n from some (cut ∷ cuts) to h =
      let first = rises from cut n some h.0 in
      let rest = lead_rising n cut some cuts to h.1 in
      omega (arith, first, rest)

  chain_rising : (a b n : ℕ) → 0 < n → Chain R E a b n → a ≤ b
  chain_rising a b n some h =
      search (rules, le_of_mul-le-mul_left, lead_rising, mul-pos, h.positive, h.cuts)

-- ---- a step, and those behind it

first_of : (zones : List ZoneBounds) (a b n : ℕ) → SetHolds zones a b n
    → SetHolds (take 1 zones) a b n ⊎ SetHolds (drop 1 zones) a b n
first_of zones a b n h =
    (SetHolds-append (take 1 zones) (drop 1 zones) a b n).0
    (subst (λ (l : List ZoneBounds). SetHolds l a b n) (sym (take-append-drop 1 zones)) h)

module _ (zone : ZoneBounds) (rest : List ZoneBounds) (E : Pairs) (scales : Scales E)
    (canonical : AreCanonical (zone ∷ rest))
    (alone : HasNoPair (Composed (ZoneHolds zone) (ZoneHolds zone)))
    (over : HasNoPair (Composed (ZoneHolds zone) (SetHolds (drop 1 rest))))
    (back : HasNoPair (Composed (SetHolds rest) (ZoneHolds zone))) where
  abbrev All : Pairs
  All = SetHolds (zone ∷ rest)

  held : (a b n : ℕ) → ZoneHolds zone a b n → All a b n
  unfolding SetHolds
  held a b n h = inl h

  behind : (a b n : ℕ) → SetHolds rest a b n → All a b n
  unfolding SetHolds
  behind a b n h = inr h

  cases : (a b n : ℕ) → All a b n → ZoneHolds zone a b n ⊎ SetHolds rest a b n
  unfolding SetHolds
  cases a b n h = h

  rises : (a b n : ℕ) → 0 < n → All a b n → a ≤ b
  rises a b n some h = SetHolds-rising (zone ∷ rest) canonical a b n some h

  -- Behind the others no step leads back.
  keeps : (last from cut n : ℕ) → 0 < n → SetHolds rest last from n → All from cut n
      → SetHolds rest from cut n
  keeps last from cut n some step h =
      ⊎_elim
      (λ x.
      let first = rises last from n some (behind last from n step) in
      let second = rises from cut n some (held from cut n x) in
      absurd (back.never last cut n some (omega (arith, first, second))
      (Composed-at (SetHolds rest) (ZoneHolds zone) last from cut n step x)))
      (λ x. x)
      (cases from cut n h)

  rest_chain : (n last from to : ℕ) → 0 < n → SetHolds rest last from n → Chain All E from to n
      → Chain (SetHolds rest) E from to n
  rest_chain = further_chain (SetHolds rest) All E (Scales-SetHolds rest) keeps

  -- Behind the step there is only the next one.
  next_alone : (from mid cut n : ℕ) → 0 < n → ZoneHolds zone from mid n → All mid cut n
      → SetHolds (take 1 rest) mid cut n × SetHolds rest mid cut n
  next_alone from mid cut n some step h =
      let first = rises from mid n some (held from mid n step) in
      let second = rises mid cut n some h in
      let le : from ≤ cut = omega (arith, first, second) in
      ⊎_elim
      (λ x. absurd (alone.never from cut n some le
      (Composed-at (ZoneHolds zone) (ZoneHolds zone) from mid cut n step x)))
      (λ x. (
        ⊎_elim (λ y. y)
            (λ y. absurd (over.never from cut n some le
            (Composed-at (ZoneHolds zone) (SetHolds (drop 1 rest)) from mid cut n step y)))
            (first_of rest mid cut n x),
        x,
      ))
      (cases mid cut n h)

  wider : Implies (SomeSteps (SetHolds rest) E) (SomeSteps All E)
  wider = search (rules, Implies-Composed, behind, Implies-Chain)

  next_wider : Implies (Begun E rest) (SomeSteps (SetHolds rest) E)
  next_wider = search (rules, Implies-Composed, SetHolds-take)

  -- The chains that begin with the step.
  begin_cases : (a b n : ℕ) → 0 < n → Composed (ZoneHolds zone) (Chain All E) a b n
      → Composed (ZoneHolds zone) (Begun E rest) a b n ⊎ Composed (ZoneHolds zone) E a b n
  begin_cases a b n some h =
      let f = h.factor in
      let m = h.midpoint in
      let finer = mul-pos h.positive some in
      ⊎_elim
      (λ e. inr (record {
        factor = f;
        positive = h.positive;
        midpoint = m;
        left = h.left;
        right = e;
      }))
      (λ s.
      let g = s.factor in
      let low = (ZoneHolds-scale zone g (f * a) m (f * n) s.positive).0 h.left in
      let finest = mul-pos s.positive finer in
      let both = next_alone (g * (f * a)) (g * m) s.midpoint (g * (f * n)) finest low s.left in
      inl (record {
        factor = f;
        positive = h.positive;
        midpoint = m;
        left = h.left;
        right = record {
          factor = g;
          positive = s.positive;
          midpoint = s.midpoint;
          left = both.0;
          right = rest_chain (g * (f * n)) (g * m) s.midpoint (g * (f * b)) finest both.1
              s.right;
        };
      }))
      (Chain-cases All E scales m (f * b) (f * n) h.right)

  begin_back : (a b n : ℕ)
      → Composed (ZoneHolds zone) (Begun E rest) a b n ⊎ Composed (ZoneHolds zone) E a b n
      → Composed (ZoneHolds zone) (Chain All E) a b n
  begin_back a b n h =
      ⊎_elim
      (λ x. record {
        factor = x.factor;
        positive = x.positive;
        midpoint = x.midpoint;
        left = x.left;
        right = Chain-step All E (Scales-SetHolds (zone ∷ rest)) scales x.midpoint (x.factor * b)
            (x.factor * n)
            (wider.at x.midpoint (x.factor * b) (x.factor * n)
            (next_wider.at x.midpoint (x.factor * b) (x.factor * n) x.right));
      })
      (λ x. record {
        factor = x.factor;
        positive = x.positive;
        midpoint = x.midpoint;
        left = x.left;
        right = Chain-none All E x.midpoint (x.factor * b) (x.factor * n) x.right;
      })
      h

  -- All chains begin with the step or with one behind it.
  some_cases : (a b n : ℕ) → 0 < n → SomeSteps All E a b n
      → Composed (ZoneHolds zone) (Chain All E) a b n ⊎ SomeSteps (SetHolds rest) E a b n
  some_cases a b n some h =
      let f = h.factor in
      let m = h.midpoint in
      ⊎_elim
      (λ x. inl (record {
        factor = f;
        positive = h.positive;
        midpoint = m;
        left = x;
        right = h.right;
      }))
      (λ x. inr (record {
        factor = f;
        positive = h.positive;
        midpoint = m;
        left = x;
        right = rest_chain (f * n) (f * a) m (f * b) (mul-pos h.positive some) x h.right;
      }))
      (cases (f * a) m (f * n) h.left)

  single_to : (a b n : ℕ) → Begun E (zone ∷ rest) a b n
      → Composed (ZoneHolds zone) (Chain All E) a b n
  unfolding SetHolds
  single_to a b n h = search rules

  single_from : (a b n : ℕ) → Composed (ZoneHolds zone) (Chain All E) a b n
      → Begun E (zone ∷ rest) a b n
  unfolding SetHolds
  single_from a b n h = search rules

  all_from : (a b n : ℕ) → Composed (ZoneHolds zone) (Chain All E) a b n → SomeSteps All E a b n
  all_from a b n h = record {
    factor = h.factor;
    positive = h.positive;
    midpoint = h.midpoint;
    left = held (h.factor * a) h.midpoint (h.factor * n) h.left;
    right = h.right;
  }

  begun_rises : ((a b n : ℕ) → E a b n → a ≤ b) → (a b n : ℕ) → 0 < n → Begun E rest a b n
      → a ≤ b
  begun_rises same = search (rules, Composed-rising, rises, behind, SetHolds-take, chain_rising)

  module _ (D : ℕ → ℕ → Type 0) (down : IsDownward D) (finer : DurationScales D)
      (same : (a b n : ℕ) → E a b n → a ≤ b) where
    -- What begins with the step, made of what begins with the next one.
    pub begun_exact : (instants : ZoneBounds)
        → ((a b n : ℕ) → 0 < n → ZoneHolds instants a b n ↔ E a b n)
        → (last next : List ZoneBounds) → AreCanonical last
        → HoldExactly last (Lasting D (Begun E rest))
        → HoldExactly next (Either (Lasting D (Composed (ZoneHolds zone) (SetHolds last)))
        (Lasting D (Composed (ZoneHolds zone) (ZoneHolds instants))))
        → HoldExactly next (Lasting D (Begun E (zone ∷ rest)))
    begun_exact instants exact last next tight own made = record {
      exact = λ a b n some le. (
        (λ h. ⊎_elim
            (λ x.
            let c = x.related in
            let pos = mul-pos c.positive some in
            let rising = SetHolds-rising last tight c.midpoint (c.factor * b) (c.factor * n) pos
            c.right in
            record {
              related = single_from a b n (begin_back a b n (inl (record {
                factor = c.factor;
                positive = c.positive;
                midpoint = c.midpoint;
                left = c.left;
                right = ((own.exact c.midpoint (c.factor * b) (c.factor * n) pos rising).0
                    c.right).related;
              })));
              admitted = x.admitted;
            })
            (λ x.
            let c = x.related in
            record {
              related = single_from a b n (begin_back a b n (inr (record {
                factor = c.factor;
                positive = c.positive;
                midpoint = c.midpoint;
                left = c.left;
                right = (exact c.midpoint (c.factor * b) (c.factor * n)
                    (mul-pos c.positive some)).0 c.right;
              })));
              admitted = x.admitted;
            })
            ((made.exact a b n some le).0 h)),
        (λ h. (made.exact a b n some le).1 (⊎_elim
            (λ c.
            let pos = mul-pos c.positive some in
            let rising = begun_rises same c.midpoint (c.factor * b) (c.factor * n) pos c.right in
            let first = rises (c.factor * a) c.midpoint (c.factor * n) pos
            (held (c.factor * a) c.midpoint (c.factor * n) c.left) in
            let less : c.factor * b - c.midpoint ≤ c.factor * b - c.factor * a =
            omega (arith, first) in
            inl (record {
              related = record {
                factor = c.factor;
                positive = c.positive;
                midpoint = c.midpoint;
                left = c.left;
                right = (own.exact c.midpoint (c.factor * b) (c.factor * n) pos rising).1
                    (record {
                      related = c.right;
                      admitted = down.at (c.factor * b - c.midpoint)
                          (c.factor * b - c.factor * a) (c.factor * n) less
                          (finer_duration D down finer c.factor a b n c.positive h.admitted);
                    });
              };
              admitted = h.admitted;
            }))
            (λ c. inr (record {
              related = record {
                factor = c.factor;
                positive = c.positive;
                midpoint = c.midpoint;
                left = c.left;
                right = (exact c.midpoint (c.factor * b) (c.factor * n)
                    (mul-pos c.positive some)).1 c.right;
              };
              admitted = h.admitted;
            }))
            (begin_cases a b n some (single_to a b n h.related)))),
      );
    }

    -- And all chains: those found before, and these.
    pub found_exact : (found next : List ZoneBounds)
        → HoldExactly found (Lasting D (SomeSteps (SetHolds rest) E))
        → HoldExactly next (Lasting D (Begun E (zone ∷ rest)))
        → HoldExactly (found ++ next) (Lasting D (SomeSteps All E))
    found_exact found next old new = record {
      exact = λ a b n some le.
          let one = old.exact a b n some le in
          let two = new.exact a b n some le in
          let parts = SetHolds-append found next a b n in (
            (λ h. ⊎_elim
                (λ x. let y = one.0 x in
                record { related = wider.at a b n y.related; admitted = y.admitted })
                (λ x. let y = two.0 x in record {
                  related = all_from a b n (single_to a b n y.related);
                  admitted = y.admitted;
                })
                (parts.0 h)),
            (λ h. parts.1 (⊎_elim
                (λ x. inr (two.1 (record {
                  related = single_from a b n x;
                  admitted = h.admitted;
                })))
                (λ x. inl (one.1 (record { related = x; admitted = h.admitted })))
                (some_cases a b n some h.related))),
          );
    }

-- ---- what can follow, by places

none_behind : (zone : ZoneBounds) (zones : List ZoneBounds)
    → ((k : ℕ) (d : ZoneBounds) → k < length zones
    → HasNoPair (Composed (ZoneHolds zone) (ZoneHolds (get_or zones k d))))
    → HasNoPair (Composed (ZoneHolds zone) (SetHolds zones))
none_behind zone zones each = record {
  never = λ a b n some le h.
      let any = (SetHolds-any zones h.midpoint (h.factor * b) (h.factor * n)).0 h.right in
      (each any.0 any.1 any.2).never a b n some le (record {
        factor = h.factor;
        positive = h.positive;
        midpoint = h.midpoint;
        left = h.left;
        right = subst (λ (z : ZoneBounds). ZoneHolds z h.midpoint (h.factor * b) (h.factor * n))
            (sym any.3) any.4;
      });
}

none_before : (zones : List ZoneBounds) (zone : ZoneBounds)
    → ((k : ℕ) (d : ZoneBounds) → k < length zones
    → HasNoPair (Composed (ZoneHolds (get_or zones k d)) (ZoneHolds zone)))
    → HasNoPair (Composed (SetHolds zones) (ZoneHolds zone))
none_before zones zone each = record {
  never = λ a b n some le h.
      let any = (SetHolds-any zones (h.factor * a) h.midpoint (h.factor * n)).0 h.left in
      (each any.0 any.1 any.2).never a b n some le (record {
        factor = h.factor;
        positive = h.positive;
        midpoint = h.midpoint;
        left = subst (λ (z : ZoneBounds). ZoneHolds z (h.factor * a) h.midpoint (h.factor * n))
            (sym any.3) any.4;
        right = h.right;
      });
}

module _ (steps : List ZoneBounds) (ways : LeadOn steps) (place : ℕ) (zone : ZoneBounds)
    (within : place < length steps) (is : zone ≡ get_or steps place zone) where
  at_place : (d : ZoneBounds) → get_or steps place d ≡ zone
  at_place d = get_or_default steps place d zone within ∙ sym is

  pub step_alone : HasNoPair (Composed (ZoneHolds zone) (ZoneHolds zone))
  step_alone = rw (at_place zone) at ((ways.each place within).alone place zone within
      (λ e. omega (arith, e)))

  pub step_over : HasNoPair (Composed (ZoneHolds zone) (SetHolds (drop 1 (drop (place + 1) steps))))
  step_over = none_behind zone (drop 1 (drop (place + 1) steps)) (λ k d inside.
      let long = length-drop (place + 1) steps in
      let long' = length-drop 1 (drop (place + 1) steps) in
      let there : get_or (drop 1 (drop (place + 1) steps)) k d
      ≡ get_or steps (place + 1 + (1 + k)) d =
      get_or-drop 1 (drop (place + 1) steps) k d ∙ get_or-drop (place + 1) steps (1 + k) d in
      let far = (ways.each place within).alone (place + 1 + (1 + k)) d
      (omega (arith, inside, long, long')) (λ e. omega (arith, e)) in
      rw there (rw (at_place d) at far))

  pub step_back : HasNoPair (Composed (SetHolds (drop (place + 1) steps)) (ZoneHolds zone))
  step_back = none_before (drop (place + 1) steps) zone (λ k d inside.
      let long = length-drop (place + 1) steps in
      let there : get_or (drop (place + 1) steps) k d ≡ get_or steps (place + 1 + k) d =
      get_or-drop (place + 1) steps k d in
      let far = (ways.each (place + 1 + k) (omega (arith, inside, long))).alone place d within
      (λ e. omega (arith, e)) in
      rw there (rw (at_place d) at far))

-- ---- from the last step to the first

-- The chains of the steps from the place on were found, and those that begin with the first of
-- these.
pub record AreFoundFrom (D : ℕ → ℕ → Type 0) (E : Pairs) (steps : List ZoneBounds) (place : ℕ)
    (found last : List ZoneBounds) : Type 0 where
  pub tight : AreCanonical last
  pub begun : HoldExactly last (Lasting D (Begun E (drop place steps)))
  pub chains : HoldExactly found (Lasting D (SomeSteps (SetHolds (drop place steps)) E))

pub AreFoundFrom-none : (D : ℕ → ℕ → Type 0) (E : Pairs) (steps : List ZoneBounds)
    → AreFoundFrom D E steps (length steps) [] []
AreFoundFrom-none D E steps =
    let none = drop_all (length steps) steps (omega arith) in record {
      tight = AreCanonical-empty;
      begun = rw none (HoldExactly-none _ (λ a b n h. SetHolds-empty _ _ _ h.related.left));
      chains = rw none (HoldExactly-none _ (λ a b n h. SetHolds-empty _ _ _ h.related.left));
    }

pub AreFoundFrom-next : (D : ℕ → ℕ → Type 0) (E : Pairs) (steps : List ZoneBounds)
    → IsDownward D → DurationScales D → Scales E → ((a b n : ℕ) → E a b n → a ≤ b)
    → AreCanonical steps → LeadOn steps → (left : ℕ) (zone : ZoneBounds) → 0 < left
    → left ≤ length steps → zone ≡ get_or steps (left - 1) zone
    → (found last next : List ZoneBounds) → AreFoundFrom D E steps left found last
    → (instants : ZoneBounds) → ((a b n : ℕ) → 0 < n → ZoneHolds instants a b n ↔ E a b n)
    → HoldExactly next (Either (Lasting D (Composed (ZoneHolds zone) (SetHolds last)))
    (Lasting D (Composed (ZoneHolds zone) (ZoneHolds instants))))
    → AreCanonical next → AreFoundFrom D E steps (left - 1) (found ++ next) next
AreFoundFrom-next D E steps down finer scales same canonical ways left zone some within is found
    last next old instants exact made tight =
    let place = left - 1 in
    let behind : place + 1 ≡ left = omega (arith, some) in
    let inside : place < length steps = omega (arith, some, within) in
    let rest = drop (place + 1) steps in
    let split : drop place steps ≡ zone ∷ rest =
    drop_more steps place zone inside ∙ ap (λ (z : ZoneBounds). z ∷ rest) (sym is) in
    let own : AreFoundFrom D E steps (place + 1) found last =
    subst (λ k. AreFoundFrom D E steps k found last) (sym behind) old in
    let parts : AreCanonical (zone ∷ rest) =
    rw split at (AreCanonical-parts (take place steps) (drop place steps)
    (rw (take-append-drop place steps) canonical)).1 in
    let alone = step_alone steps ways place zone inside is in
    let over = step_over steps ways place zone inside is in
    let back = step_back steps ways place zone inside is in
    let begun = begun_exact zone rest E scales parts alone over back D down finer same instants
    exact last next own.tight own.begun made in record {
      tight = tight;
      begun = rw split begun;
      chains = rw split (found_exact zone rest E scales parts alone over back D down finer same
          found next own.chains begun);
    }

pub begun_made : (old new : List ZoneBounds) (P Q R : Pairs)
    → HoldExactly old (Either (SetHolds []) P)
    → HoldExactly new (Either (SetHolds old) Q)
    → ((a b n : ℕ) → 0 < n → a ≤ b → Q a b n ↔ R a b n) → HoldExactly new (Either P R)
begun_made old new P Q R first second same =
    search (rules, SetHolds-empty, first.exact, second.exact)

pub HoldExactly-turned : (zones turned : List ZoneBounds) (P : Pairs) → IsPermutation zones turned
    → HoldExactly zones P → HoldExactly turned P
HoldExactly-turned zones turned P order held =
    search (rules, held, SetHolds-permutation, held.exact)
