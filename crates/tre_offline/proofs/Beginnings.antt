-- What has begun of each form of expression, from what its parts match and what has begun of them.
use Rattle.std.proofs.Common.{◌≡◌, ◌∙◌, ◌↔◌, ◌<◌, ◌-◌, ◌*◌, ℕ, List, [], Option, Some, None, Result, IfOk, inl, inr, ⊎_elim, sym, subst, arith}
use Rattle.std.proofs.lemmas.Result.{IfOk-weaker}
use Rattle.tre_pairs.specs.Pairs.{Pairs, Composed, Either, Both, Lasting}
use Rattle.tre_pairs.proofs.Laws.{IsOrdered, IsInstant}
use Rattle.tre_pairs.proofs.Agreement.{Agree-Composed, Agree-Lasting}
use Rattle.tre_pairs.proofs.Order.{IsOrdered-Lasting}
use Rattle.tre_pairs.proofs.Shortening.{Agree-trans, Lasting-Composed}
use Rattle.tre_zone.specs.Interval.{IntervalEnds, IsBelowHigh, LastsWithin}
use Rattle.tre_zone.specs.Longest.{LastsUpTo}
use Rattle.tre_zone.proofs.Lasting.{LastsUpTo-downward, LastsUpTo-scales}
use Rattle.tre_zone.specs.Zone.{EndsAt, IsInstantBetween, ZoneHolds}
use Rattle.tre_zone.specs.ZoneList.{SetHolds, HoldExactly}
use Rattle.tre_zone.specs.declared.zone_bounds.ZoneBounds.{ZoneBounds}
use Rattle.tre_zone.proofs.ZoneListLemmas.{SetHolds-empty}
use Rattle.tre_zoneset.specs.ZoneSet.{IsZoneSet}
use Rattle.tre_trace.specs.Trace.{end_of}
use Rattle.tre_syntax.specs.Begun.{AtomHasBegun, BegunRest, IsTheEnd}
use Rattle.tre_syntax.specs.PatternTree.{Atom, PatternTree}
use Rattle.tre_syntax.specs.Rest.{Rest, AtomMatches, InstantMatches}
use Rattle.tre_offline.proofs.Unions.{Agree-held, HoldExactly-agree}

lasts_no_time : (longest : Option ℕ) (a b n : ℕ) → a ≡ b → LastsUpTo longest (b - a) n
lasts_no_time None a b n same = record { within = tt }
lasts_no_time (Some high) a b n same = record { within = omega (arith, same) }

module _ (rest : Rest) (end : ℕ) (is : end ≡ end_of rest.start rest.segments) where
  end_there : (a b n : ℕ) → IsInstantBetween end end a b n → IsTheEnd rest a b n
  end_there a b n h =
      let starts = h.starts in
      let same = h.same in
      let ends = h.ends in
      record {
        begin = rw (← is) (omega (arith, starts, same, ends));
        end = rw (← is) (omega (arith, starts, same, ends));
      }

  there_end : (a b n : ℕ) → IsTheEnd rest a b n → IsInstantBetween end end a b n
  there_end a b n h =
      let begin : a ≡ end * n = rw (← is) at h.begin in
      let at : b ≡ end * n = rw (← is) at h.end in
      record {
        starts = omega (arith, begin);
        same = omega (arith, begin, at);
        ends = omega (arith, at);
      }

  -- an atom that takes no time
  pub at_the_end : (longest : Option ℕ) (x : Atom) (zones : List ZoneBounds)
      → IsInstant (AtomMatches rest x) → HoldExactly zones (IsInstantBetween end end)
      → HoldExactly zones (Lasting (LastsUpTo longest) (AtomHasBegun rest x))
  at_the_end longest x zones instant held = record {
    exact = λ a b n some le.
        let one = held.exact a b n some le in (
          (λ h.
              let i = one.0 h in
              record {
                related = inl (end_there a b n i);
                admitted = lasts_no_time longest a b n i.same;
              }),
          (λ h. one.1 (there_end a b n (⊎_elim (λ e. e)
              (λ m. record {
                begin = instant.same a b n m.left ∙ m.right.end;
                end = m.right.end;
              })
              h.related))),
        );
  }

  -- any atom
  pub held_there : (longest : Option ℕ) (x : Atom) (all there short zones : List ZoneBounds)
      (last : ZoneBounds) → HoldExactly all (AtomMatches rest x)
      → HoldExactly there (Both (SetHolds all) (EndsAt end))
      → HoldExactly short (Lasting (LastsUpTo longest) (SetHolds there))
      → ((a b n : ℕ) → 0 < n → ZoneHolds last a b n ↔ IsInstantBetween end end a b n)
      → HoldExactly zones (Either (SetHolds short) (ZoneHolds last))
      → HoldExactly zones (Lasting (LastsUpTo longest) (AtomHasBegun rest x))
  held_there longest x all there short zones last exact ends cut point held = record {
    exact = λ a b n some le.
        let atom = exact.exact a b n some le in
        let ending = ends.exact a b n some le in
        let brief = cut.exact a b n some le in
        let moment = point a b n some in
        let whole = held.exact a b n some le in (
          (λ h. ⊎_elim
              (λ s.
              let y = brief.0 s in
              let z = ending.0 y.related in
              record {
                related = inr (record {
                  left = atom.0 z.left;
                  right = record { end = rw is at z.right.ends };
                });
                admitted = y.admitted;
              })
              (λ s.
              let i = moment.0 s in
              record {
                related = inl (end_there a b n i);
                admitted = lasts_no_time longest a b n i.same;
              })
              (whole.0 h)),
          (λ h. ⊎_elim
              (λ e. whole.1 (inr (moment.1 (there_end a b n e))))
              (λ m. whole.1 (inl (brief.1 (record {
                related = ending.1 (record {
                  left = atom.1 m.left;
                  right = record { ends = rw (← is) at m.right.end };
                });
                admitted = h.admitted;
              }))))
              h.related),
        );
  }

  -- a repetition: what has begun of its turns, and the end
  pub with_end : (longest : Option ℕ) (P : Pairs) (turns zones : List ZoneBounds)
      → HoldExactly turns (Lasting (LastsUpTo longest) P)
      → HoldExactly zones (Either (SetHolds turns) (IsInstantBetween end end))
      → HoldExactly zones (Lasting (LastsUpTo longest) (Either (IsTheEnd rest) P))
  with_end longest P turns zones exact held = record {
    exact = λ a b n some le.
        let one = exact.exact a b n some le in
        let whole = held.exact a b n some le in (
          (λ h. ⊎_elim
              (λ s. let x = one.0 s in record { related = inr x.related; admitted = x.admitted })
              (λ i. record {
                related = inl (end_there a b n i);
                admitted = lasts_no_time longest a b n i.same;
              })
              (whole.0 h)),
          (λ h. ⊎_elim (λ e. whole.1 (inr (there_end a b n e)))
              (λ x. whole.1 (inl (one.1 (record { related = x; admitted = h.admitted }))))
              h.related),
        );
  }

-- the same of the zone of the end
pub joined_end : (end : ℕ) (old zones : List ZoneBounds) (last : ZoneBounds)
    → ((a b n : ℕ) → 0 < n → ZoneHolds last a b n ↔ IsInstantBetween end end a b n)
    → HoldExactly zones (Either (SetHolds old) (ZoneHolds last))
    → HoldExactly zones (Either (SetHolds old) (IsInstantBetween end end))
joined_end end old zones last point held = record {
  exact = λ a b n some le.
      let moment = point a b n some in
      let whole = held.exact a b n some le in (
        (λ h. ⊎_elim (λ s. inl s) (λ s. inr (moment.0 s)) (whole.0 h)),
        (λ h. whole.1 (⊎_elim (λ s. inl s) (λ s. inr (moment.1 s)) h)),
      );
}

-- An instant is one time.
pub IsInstant-instant : (M : ℕ → Type 0) → IsInstant (InstantMatches M)
IsInstant-instant M = record {
  same = λ a b n h. let begin = h.begin in let end = h.end in omega (arith, begin, end);
}

-- the end itself, of one zone
pub one_moment : (end : ℕ) (old zones : List ZoneBounds) (last : ZoneBounds) → old ≡ []
    → ((a b n : ℕ) → 0 < n → ZoneHolds last a b n ↔ IsInstantBetween end end a b n)
    → HoldExactly zones (Either (SetHolds old) (ZoneHolds last))
    → HoldExactly zones (IsInstantBetween end end)
one_moment end old zones last none point held = record {
  exact = λ a b n some le.
      let moment = point a b n some in
      let whole = held.exact a b n some le in (
        (λ h. ⊎_elim
            (λ s. absurd (SetHolds-empty a b n
            (subst (λ (list : List ZoneBounds). SetHolds list a b n) none s)))
            (λ s. moment.0 s) (whole.0 h)),
        (λ h. whole.1 (inr (moment.1 h))),
      );
}

module _ (longest : Option ℕ) (P Q : Pairs) (one other zones : List ZoneBounds)
    (first : HoldExactly one (Lasting (LastsUpTo longest) P))
    (second : HoldExactly other (Lasting (LastsUpTo longest) Q)) where
  pub composed_exact : IsOrdered P → IsOrdered Q → IsZoneSet one → IsZoneSet other
      → HoldExactly zones (Lasting (LastsUpTo longest) (Composed (SetHolds one) (SetHolds other)))
      → HoldExactly zones (Lasting (LastsUpTo longest) (Composed P Q))
  composed_exact p q set set' =
      let short = Lasting (LastsUpTo longest) P in
      let brief = Lasting (LastsUpTo longest) Q in
      HoldExactly-agree zones
      (Lasting (LastsUpTo longest) (Composed (SetHolds one) (SetHolds other)))
      (Lasting (LastsUpTo longest) (Composed P Q))
      (Agree-trans
      (Lasting (LastsUpTo longest) (Composed (SetHolds one) (SetHolds other)))
      (Lasting (LastsUpTo longest) (Composed short brief))
      (Lasting (LastsUpTo longest) (Composed P Q))
      (Agree-Lasting (LastsUpTo longest) (Composed (SetHolds one) (SetHolds other))
      (Composed short brief)
      (Agree-Composed (SetHolds one) short (SetHolds other) brief
      (Agree-held one short set (IsOrdered-Lasting (LastsUpTo longest) P p) first)
      (Agree-held other brief set' (IsOrdered-Lasting (LastsUpTo longest) Q q) second)))
      (Lasting-Composed (LastsUpTo longest) (LastsUpTo-downward longest)
      (LastsUpTo-scales longest) P Q p q))

  pub either_exact : HoldExactly zones (Either (SetHolds one) (SetHolds other))
      → HoldExactly zones (Lasting (LastsUpTo longest) (Either P Q))
  either_exact held = record {
    exact = λ a b n some le.
        let whole = held.exact a b n some le in
        let l = first.exact a b n some le in
        let r = second.exact a b n some le in (
          (λ h. ⊎_elim
              (λ x. let y = l.0 x in record { related = inl y.related; admitted = y.admitted })
              (λ x. let y = r.0 x in record { related = inr y.related; admitted = y.admitted })
              (whole.0 h)),
          (λ h. whole.1 (⊎_elim
              (λ x. inl (l.1 (record { related = x; admitted = h.admitted })))
              (λ x. inr (r.1 (record { related = x; admitted = h.admitted }))) h.related)),
        );
  }

  pub other_exact : HoldExactly zones (Either (SetHolds one) (SetHolds other))
      → HoldExactly zones (Lasting (LastsUpTo longest) (Either Q P))
  other_exact held = record {
    exact = λ a b n some le.
        let whole = (either_exact held).exact a b n some le in (
          (λ h.
              let x = whole.0 h in
              record { related = ⊎_elim inr inl x.related; admitted = x.admitted }),
          (λ h. whole.1 (record {
            related = ⊎_elim inr inl h.related;
            admitted = h.admitted;
          })),
        );
  }

  pub both_exact : HoldExactly zones (Both (SetHolds one) (SetHolds other))
      → HoldExactly zones (Lasting (LastsUpTo longest) (Both P Q))
  both_exact held = record {
    exact = λ a b n some le.
        let whole = held.exact a b n some le in
        let l = first.exact a b n some le in
        let r = second.exact a b n some le in (
          (λ h.
              let x = whole.0 h in
              let y = l.0 x.left in
              record {
                related = record { left = y.related; right = (r.0 x.right).related };
                admitted = y.admitted;
              }),
          (λ h. whole.1 (record {
            left = l.1 (record { related = h.related.left; admitted = h.admitted });
            right = r.1 (record { related = h.related.right; admitted = h.admitted });
          })),
        );
  }

pub cut_exact : (inner longest : Option ℕ) (ends below : IntervalEnds) (R : Pairs)
    (all zones : List ZoneBounds)
    → ((d n : ℕ) → LastsWithin below d n ↔ IsBelowHigh ends d n)
    → ((d n : ℕ) → LastsWithin below d n → LastsUpTo inner d n ↔ LastsUpTo longest d n)
    → HoldExactly all (Lasting (LastsUpTo inner) R)
    → HoldExactly zones (Lasting (LastsWithin below) (SetHolds all))
    → HoldExactly zones (Lasting (LastsUpTo longest) (Lasting (IsBelowHigh ends) R))
cut_exact inner longest ends below R all zones high same exact held = record {
  exact = λ a b n some le.
      let one = held.exact a b n some le in
      let two = exact.exact a b n some le in
      let is = high (b - a) n in (
        (λ h.
            let x = one.0 h in
            let y = two.0 x.related in
            record {
              related = record { related = y.related; admitted = is.0 x.admitted };
              admitted = (same (b - a) n x.admitted).0 y.admitted;
            }),
        (λ h.
            let within = is.1 h.related.admitted in
            one.1 (record {
              related = two.1 (record {
                related = h.related.related;
                admitted = (same (b - a) n within).1 h.admitted;
              });
              admitted = within;
            })),
      );
}

-- What has begun of an expression is what has begun of the operator at its top.
pub begun_of_form : {E : Type 0} {whole form : PatternTree} (result : Result (List ZoneBounds) E)
    (longest : Option ℕ) (rest : Rest) → whole ≡ form → (P : List ZoneBounds → Type 0)
    → ((zones : List ZoneBounds) → P zones
    → HoldExactly zones (Lasting (LastsUpTo longest) (BegunRest form rest)))
    → IfOk result P
    → IfOk result (λ zones.
    HoldExactly zones (Lasting (LastsUpTo longest) (BegunRest whole rest)))
begun_of_form result longest rest is P exact given =
    IfOk-weaker result P _
    (λ zones told.
    subst (λ (tree : PatternTree).
    HoldExactly zones (Lasting (LastsUpTo longest) (BegunRest tree rest))) (sym is)
    (exact zones told))
    given
