-- Restrictions and intersections that are entered.
use Rattle.std.proofs.Common.{◌≡◌, ℕ, ◌-◌, ◌*◌, ◌<◌, ◌≤◌, ◌↔◌, inl, inr, ⊎_elim, refl, sym, subst, arith, Option, List, [], ◌∷◌, Some, pos}
use Rattle.std.proofs.Math.Nat.{mul-pos, mul-le-mul_right}
use Rattle.tre_pairs.specs.Cuts.{Crossing}
use Rattle.tre_pairs.specs.Pairs.{Pairs, Composed, Either, Both, Lasting}
use Rattle.tre_pairs.specs.Before.{Before}
use Rattle.tre_pairs.specs.Same.{Same}
use Rattle.tre_pairs.specs.declared.TheConstants.{TIME_MAX}
use Rattle.tre_pairs.proofs.Instances.{both_goes}
use Rattle.tre_pairs.proofs.Laws.{Scales, IsOrdered, IsInstant}
use Rattle.tre_pairs.proofs.Order.{IsOrdered-Both}
use Rattle.tre_pairs.proofs.Scaling.{Scales-Both}
use Rattle.tre_pairs.proofs.Shortening.{finer_duration}
use Rattle.tre_pairs.proofs.Ticks.{le_up, le_down, ge_down, gt_up}
use Rattle.tre_zone.specs.Held.{Held}
use Rattle.tre_zone.specs.Interval.{IntervalEnds, LastsWithin}
use Rattle.tre_zone.specs.Longest.{LastsUpTo}
use Rattle.tre_zone.specs.Zone.{instants_of, IsInstantBetween}
use Rattle.tre_zone.specs.declared.zone_bounds.ZoneBounds.{ZoneBounds}
use Rattle.tre_zone.proofs.HeldSets.{IsOrdered-Held}
use Rattle.tre_zone.proofs.Lasting.{LastsUpTo-downward, LastsUpTo-scales}
use Rattle.tre_trace.specs.Trace.{Timeline, AreLong}
use Rattle.tre_syntax.specs.Meaning.{MatchesRest}
use Rattle.tre_syntax.specs.PatternTree.{PatternTree, intersection, restriction}
use Rattle.tre_syntax.proofs.CutMeaning.{IsOrdered-rest, Scales-rest}
use Rattle.tre_edges.specs.Piece.{end_of_piece}
use Rattle.tre_edges.specs.declared.piece.Piece.{Piece}
use Rattle.tre_mark.specs.MarkTree.{MarkTree, intersection_one, restriction_one}
use Rattle.tre_mark.specs.Marked.{AnyDuration, Marked}
use Rattle.tre_mark.proofs.Meanings.{IsOrdered-Marked}
use Rattle.tre_forms.specs.Begun.{EndsFrom}
use Rattle.tre_forms.specs.Dull.{None}
use Rattle.tre_forms.specs.Enters.{over, behind, Goes, Enters}
use Rattle.tre_forms.proofs.Restricted.{IsMomentOf}
use Rattle.tre_forms.proofs.Whole.{AreAllMoments}
use Rattle.tre_node.specs.Looked.{IsReach, StillLead}
use Rattle.tre_node.specs.Outer.{AreKept}
use Rattle.tre_node.proofs.Joins.{alone_held, held_alone}
use Rattle.tre_zone.proofs.Bounds.{Meets-at_most}
use Rattle.tre_zone.proofs.Instants.{instants-holds}

-- O had led to the instances, O2 is what is left of that where something may still count behind it,
-- and O3 that and what enters. X is what the body matches over the piece and what comes, M what had
-- begun of it, M' what has behind the piece; the moments Mom enter the body.
module _ (begin cut : ℕ) (D R A : ℕ → ℕ → Type 0) (O O2 O3 E Mom M M' X : Pairs)
    (ordered_o : IsOrdered O) (ordered_e : IsOrdered E) (ordered_x : IsOrdered X)
    (ordered_m : IsOrdered M) (ordered_m' : IsOrdered M')
    (before : (a m n : ℕ) → 0 < n → O2 a m n → m < begin * n)
    (less : (a m n : ℕ) → 0 < n → O2 a m n → O a m n)
    (more : (a m b n : ℕ) → 0 < n → O a m n → M m b n → cut * n ≤ b → R (b - m) n → O2 a m n)
    (from : (a m n : ℕ) → 0 < n → D (m - a) n → E a m n → begin * n ≤ m)
    (later : begin ≤ cut)
    (began : (a b n : ℕ) → 0 < n → M a b n → a < begin * n)
    (sound : (a b n : ℕ) → 0 < n → Composed (Before cut Mom) X a b n → X a b n)
    (within : (a b n : ℕ) → 0 < n → Composed (Before cut Mom) X a b n → begin * n ≤ a)
    (covers : (a m b n : ℕ) → 0 < n → Before cut E a m n → begin * n ≤ m → X m b n
    → Composed (Before cut Mom) X m b n)
    (down : (d e n : ℕ) → d ≤ e → D e n → D d n)
    (counts : (d n : ℕ) → D d n → A d n → R d n)
    (finer : (k a b n : ℕ) → 0 < k → D (b - a) n → D (k * b - k * a) (k * n))
    (sound_outer : (a m n : ℕ) → 0 < n → O3 a m n → Either O2 (Before cut E) a m n)
    (kept : (a m b n : ℕ) → 0 < n → Either O2 (Before cut E) a m n → m ≤ b → cut * n ≤ b
    → R (b - m) n → O3 a m n)
    (x : Same R M' (Crossing cut (Either M (Composed (Before cut Mom) X)))) where
  abbrev Whole : Pairs
  Whole = Either (Composed O (Lasting A M)) (Composed (Before cut E) (Lasting A X))

  pub instances_go : Same D (Composed O3 (Lasting A M')) (Crossing cut Whole)
  instances_go = record {
    at = λ a b n some short. (
      (λ h.
          let k = h.factor in
          let m = h.midpoint in
          let pos = mul-pos h.positive some in
          let so = sound_outer (k * a) m (k * n) pos h.left in
          let second = ordered_m'.le m (k * b) (k * n) h.right.related in
          let long = finer k a b n h.positive short in
          let brief = counts (k * b - m) (k * n)
          (down (k * b - m) (k * b - k * a) (k * n)
          (omega (
            arith,
            second,
            (⊎_elim (λ o. ordered_o.le (k * a) m (k * n) (less (k * a) m (k * n) pos o))
                (λ e. ordered_e.le (k * a) m (k * n) e.related) so),
          )) long) h.right.admitted in
          let first : k * a ≤ m = ⊎_elim (λ o. ordered_o.le (k * a) m (k * n) (less (k * a) m (k * n) pos o))
          (λ e. ordered_e.le (k * a) m (k * n) e.related) so in
          let c = (x.at m (k * b) (k * n) pos brief).0 h.right.related in
          let start = c.begin in
          let whole : Whole a b n = ⊎_elim
          (λ o. ⊎_elim
          (λ q. inl (record {
            factor = k;
            positive = h.positive;
            midpoint = m;
            left = less (k * a) m (k * n) pos o;
            right = record { related = q; admitted = h.right.admitted };
          }))
          (λ q.
          let one = before (k * a) m (k * n) pos o in
          let two = within m (k * b) (k * n) pos q in
          absurd (omega (arith, one, two))) c.related)
          (λ e. ⊎_elim
          (λ q.
          let one = from (k * a) m (k * n) pos
          (down (m - k * a) (k * b - k * a) (k * n) (omega (arith, second)) long) e.related in
          let two = began m (k * b) (k * n) pos q in
          absurd (omega (arith, one, two)))
          (λ q. inr (record {
            factor = k;
            positive = h.positive;
            midpoint = m;
            left = e;
            right = record {
              related = sound m (k * b) (k * n) pos q;
              admitted = h.right.admitted;
            };
          })) c.related) so in
          record {
            related = whole;
            begin = ge_down k cut a n h.positive (omega (arith, first, start));
            end = le_down k cut b n h.positive c.end;
          }),
      (λ c. ⊎_elim
          (λ p.
          let k = p.factor in
          let m = p.midpoint in
          let pos = mul-pos p.positive some in
          let first = ordered_o.le (k * a) m (k * n) p.left in
          let second = ordered_m.le m (k * b) (k * n) p.right.related in
          let long = finer k a b n p.positive short in
          let brief = counts (k * b - m) (k * n)
          (down (k * b - m) (k * b - k * a) (k * n) (omega (arith, first, second)) long)
          p.right.admitted in
          let end = le_up k cut b n c.end in
          let early = began m (k * b) (k * n) pos p.right.related in
          let upto = mul-le-mul_right (k * n) later in
          let left = more (k * a) m (k * b) (k * n) pos p.left p.right.related end brief in
          record {
            factor = k;
            positive = p.positive;
            midpoint = m;
            left = kept (k * a) m (k * b) (k * n) pos (inl left) second end brief;
            right = record {
              related = (x.at m (k * b) (k * n) pos brief).1 (record {
                related = inl p.right.related;
                begin = omega (arith, early, upto);
                end = end;
              });
              admitted = p.right.admitted;
            };
          })
          (λ p.
          let k = p.factor in
          let m = p.midpoint in
          let pos = mul-pos p.positive some in
          let first = ordered_e.le (k * a) m (k * n) p.left.related in
          let second = ordered_x.le m (k * b) (k * n) p.right.related in
          let long = finer k a b n p.positive short in
          let brief = counts (k * b - m) (k * n)
          (down (k * b - m) (k * b - k * a) (k * n) (omega (arith, first, second)) long)
          p.right.admitted in
          let end = le_up k cut b n c.end in
          let early = p.left.early in
          let late = from (k * a) m (k * n) pos
          (down (m - k * a) (k * b - k * a) (k * n) (omega (arith, second)) long) p.left.related in
          record {
            factor = k;
            positive = p.positive;
            midpoint = m;
            left = kept (k * a) m (k * b) (k * n) pos (inr p.left) second end brief;
            right = record {
              related = (x.at m (k * b) (k * n) pos brief).1 (record {
                related = inr (covers (k * a) m (k * b) (k * n) pos p.left late p.right.related);
                begin = omega (arith, early);
                end = end;
              });
              admitted = p.right.admitted;
            };
          }) c.related),
    );
  }

-- What enters the body of an instance: all moments of the piece, or nothing.
pub record CoverPiece (piece : Piece) (E Mom : Pairs) : Type 0 where
  pub within : (a b n : ℕ) → 0 < n → Mom a b n → IsMomentOf piece a b n
  pub covers : (a m n : ℕ) → 0 < n → Before (end_of_piece piece) E a m n → piece.begin * n ≤ m
      → Mom m m n

module _ (longest reach : Option ℕ) (piece : Piece) (outer outer2 outer3 : List ZoneBounds)
    (E Mom : Pairs) (oe : IsOrdered E) (mom : CoverPiece piece E Mom) (scales_mom : Scales Mom)
    (from : EndsFrom longest piece.begin E)
    (kept : AreKept reach (end_of_piece piece) (Either (Held outer2) (Before (end_of_piece piece) E))
    outer3) where
  abbrev T' : ℕ
  T' = end_of_piece piece

  abbrev D : ℕ → ℕ → Type 0
  D = LastsUpTo longest

  module _ (X : Pairs) (scales : Scales X) where
    mom_sound : (a b n : ℕ) → 0 < n → Composed (Before T' Mom) X a b n → X a b n
    mom_sound a b n some h =
        let k = h.factor in
        scales.down k a b n h.positive
        (subst (λ t. X t (k * b) (k * n))
        (sym (mom.within (k * a) h.midpoint (k * n) (mul-pos h.positive some) h.left.related).same)
        h.right)

    mom_within : (a b n : ℕ) → 0 < n → Composed (Before T' Mom) X a b n → piece.begin * n ≤ a
    mom_within a b n some h = le_down h.factor piece.begin a n h.positive
        (mom.within (h.factor * a) h.midpoint (h.factor * n) (mul-pos h.positive some)
        h.left.related).begin

    mom_covers : (a m b n : ℕ) → 0 < n → Before T' E a m n → piece.begin * n ≤ m → X m b n
        → Composed (Before T' Mom) X m b n
    mom_covers a m b n some e late x =
        let one : 0 < 1 = omega arith in
        record {
          factor = 1;
          positive = one;
          midpoint = 1 * m;
          left = record {
            related = scales_mom.up 1 m m n one (mom.covers a m n some e late);
            early = gt_up 1 T' m n one e.early;
          };
          right = scales.up 1 m b n one x;
        }

  module _ (to to' : ℕ) (body body' : MarkTree) (tree : PatternTree) (ends : IntervalEnds)
      (counts : IsReach longest (LastsWithin ends) reach)
      (led : StillLead reach piece (λ next. Marked (over piece next) body tree) outer outer2)
      (began : (next : Timeline) (a b n : ℕ) → 0 < n → Marked (over piece next) body tree a b n
      → a < piece.begin * n)
      (x : Enters reach piece body tree Mom body') where
    pub restriction_led : Enters longest piece (restriction_one to outer body) (restriction tree ends) E
        (restriction_one to' outer3 body')
    restriction_led = record {
      leaves = λ next long.
          let X = MatchesRest tree (over piece next) in
          let scales = Scales-rest tree (over piece next) in
          instances_go piece.begin T' D (LastsUpTo reach) (LastsWithin ends) (Held outer)
          (Held outer2) (Held outer3) E Mom (Marked (over piece next) body tree)
          (Marked (behind piece next) body' tree) X (IsOrdered-Held outer) oe
          (IsOrdered-rest tree (over piece next)) (IsOrdered-Marked (over piece next) body tree)
          (IsOrdered-Marked (behind piece next) body' tree) led.before led.less
          (λ a m b n some o m' end brief. led.more next a m b n long some o m' end brief)
          (λ a m n some short e. from.from a m n some short e) (omega arith) (began next)
          (mom_sound X scales) (mom_within X scales) (mom_covers X scales)
          (λ d e n le short. (LastsUpTo-downward longest).at d e n le short)
          (λ d n short within. counts.counts d n short within)
          (λ k a b n pos h. finer_duration D (LastsUpTo-downward longest)
          (LastsUpTo-scales longest) k a b n pos h)
          kept.sound kept.kept (x.leaves next long);
    }

  -- Both sides.
  module _ (to to' : ℕ) (one other one' other' : MarkTree) (left right : PatternTree)
      (counts : IsReach longest AnyDuration reach)
      (led : StillLead reach piece (λ next. Both (Marked (over piece next) one left)
      (Marked (over piece next) other right)) outer outer2)
      (instant : IsInstant Mom)
      (began_one : (next : Timeline) (a b n : ℕ) → 0 < n → Marked (over piece next) one left a b n
      → a < piece.begin * n)
      (began_other : (next : Timeline) (a b n : ℕ) → 0 < n
      → Marked (over piece next) other right a b n → a < piece.begin * n)
      (x : Enters reach piece one left Mom one') (y : Enters reach piece other right Mom other')
    where
      module _ (next : Timeline) (long : AreLong next.segments) where
        abbrev X : Pairs
        X = Both (MatchesRest left (over piece next)) (MatchesRest right (over piece next))

        abbrev M : Pairs
        M = Both (Marked (over piece next) one left) (Marked (over piece next) other right)

        abbrev M' : Pairs
        M' = Both (Marked (behind piece next) one' left) (Marked (behind piece next) other' right)

        scales_both : Scales X
        scales_both = Scales-Both (MatchesRest left (over piece next))
            (MatchesRest right (over piece next)) (Scales-rest left (over piece next))
            (Scales-rest right (over piece next))

        bodies : Same (LastsUpTo reach) M' (Crossing T' (Either M (Composed (Before T' Mom) X)))
        bodies = both_goes piece.begin T' (LastsUpTo reach) Mom (Marked (over piece next) one left)
            (Marked (behind piece next) one' left) (MatchesRest left (over piece next))
            (Marked (over piece next) other right) (Marked (behind piece next) other' right)
            (MatchesRest right (over piece next)) instant scales_mom
            (Scales-rest left (over piece next)) (Scales-rest right (over piece next))
            (λ a b n some h.
            let is = mom.within a b n some h in
            let eq = is.same in
            let begin = is.begin in
            omega (arith, eq, begin)) (began_one next) (began_other next) (x.leaves next long)
            (y.leaves next long)

        any : Same D (Composed (Held outer3) (Lasting AnyDuration M'))
            (Crossing T' (Either (Composed (Held outer) (Lasting AnyDuration M))
            (Composed (Before T' E) (Lasting AnyDuration X))))
        any = instances_go piece.begin T' D (LastsUpTo reach) AnyDuration (Held outer)
            (Held outer2) (Held outer3) E Mom M M' X (IsOrdered-Held outer) oe
            (IsOrdered-Both (MatchesRest left (over piece next)) (MatchesRest right (over piece next))
            (IsOrdered-rest left (over piece next)))
            (IsOrdered-Both (Marked (over piece next) one left) (Marked (over piece next) other right)
            (IsOrdered-Marked (over piece next) one left))
            (IsOrdered-Both (Marked (behind piece next) one' left)
            (Marked (behind piece next) other' right) (IsOrdered-Marked (behind piece next) one' left))
            led.before led.less
            (λ a m b n some o m' end brief. led.more next a m b n long some o m' end brief)
            (λ a m n some short e. from.from a m n some short e) (omega arith)
            (λ a b n some h. began_one next a b n some h.left)
            (mom_sound X scales_both) (mom_within X scales_both) (mom_covers X scales_both)
            (λ d e n le short. (LastsUpTo-downward longest).at d e n le short)
            (λ d n short within. counts.counts d n short within)
            (λ k a b n pos h. finer_duration D (LastsUpTo-downward longest)
            (LastsUpTo-scales longest) k a b n pos h)
            kept.sound kept.kept bodies

        meets : Same D
            (Marked (behind piece next) (intersection_one to' outer3 one' other') (intersection left right))
            (Crossing T' (Goes piece next (intersection_one to outer one other)
            (intersection left right) (Before T' E)))
        meets = record {
          at = λ a b n some short.
              let c = any.at a b n some short in (
                (λ h.
                    let d = c.0 (record {
                      factor = h.factor;
                      positive = h.positive;
                      midpoint = h.midpoint;
                      left = h.left;
                      right = record { related = h.right; admitted = tt };
                    }) in
                    record {
                      related = ⊎_elim
                          (λ p. inl (record {
                            factor = p.factor;
                            positive = p.positive;
                            midpoint = p.midpoint;
                            left = p.left;
                            right = p.right.related;
                          }))
                          (λ p. inr (record {
                            factor = p.factor;
                            positive = p.positive;
                            midpoint = p.midpoint;
                            left = p.left;
                            right = p.right.related;
                          })) d.related;
                      begin = d.begin;
                      end = d.end;
                    }),
                (λ h.
                    let d = c.1 (record {
                      related = ⊎_elim
                          (λ p. inl (record {
                            factor = p.factor;
                            positive = p.positive;
                            midpoint = p.midpoint;
                            left = p.left;
                            right = record { related = p.right; admitted = tt };
                          }))
                          (λ p. inr (record {
                            factor = p.factor;
                            positive = p.positive;
                            midpoint = p.midpoint;
                            left = p.left;
                            right = record { related = p.right; admitted = tt };
                          })) h.related;
                      begin = h.begin;
                      end = h.end;
                    }) in
                    record {
                      factor = d.factor;
                      positive = d.positive;
                      midpoint = d.midpoint;
                      left = d.left;
                      right = d.right.related;
                    }),
              );
        }

      pub intersection_led : Enters longest piece (intersection_one to outer one other)
          (intersection left right) E (intersection_one to' outer3 one' other')
      intersection_led = record { leaves = λ next long. meets next long }

-- ---- moments

no_time : (longest : Option ℕ) (n : ℕ) → LastsUpTo longest 0 n
no_time Option.None n = record { within = tt }
no_time (Some high) n = record { within = omega arith }

pub held_moments : (low high a b n : ℕ) → 0 < n
    → Held (instants_of low high ∷ []) a b n ↔ IsInstantBetween low high a b n
held_moments low high a b n some =
    let same = instants-holds low high a b n some in (
      (λ h. same.0 (alone_held (instants_of low high) a b n h)),
      (λ h.
          let eq = h.same in
          held_alone (instants_of low high) a b n (omega (arith, eq)) (same.1 h)),
    )

pub moments_are_instants : (low high : ℕ) → IsInstant (Held (instants_of low high ∷ []))
unfolding instants_of
moments_are_instants low high = record {
  same = λ a b n h.
      let z = alone_held (instants_of low high) a b n h in
      let le = (Meets-at_most (pos 1) 0 refl a b n).0 z.dur_low in
      let ge = (Meets-at_most (pos 1) 0 refl b a n).0 z.dur_high in
      omega (arith, le, ge);
}

pub moments_cover_all : (piece : Piece) (E : Pairs)
    → CoverPiece piece E (Held (instants_of piece.begin (end_of_piece piece) ∷ []))
moments_cover_all piece E = record {
  within = λ a b n some h.
      let is = (held_moments piece.begin (end_of_piece piece) a b n some).0 h in
      let eq = is.same in
      let begin = is.starts in
      record { same = eq; begin = begin; end = is.ends };
  covers = λ a m n some e late.
      let early = e.early in
      (held_moments piece.begin (end_of_piece piece) m m n some).1
      (record { starts = late; same = refl; ends = omega (arith, early) });
}

pub none_cover : (piece : Piece) (Mom : Pairs) → ((a b n : ℕ) → Mom a b n → ⊥)
    → CoverPiece piece None Mom
none_cover piece Mom none = record {
  within = λ a b n some h. absurd (none a b n h);
  covers = λ a m n some e late. absurd e.related;
}

pub all_moments : (piece : Piece) → AreAllMoments (end_of_piece piece) (instants_of 0 TIME_MAX ∷ [])
all_moments piece = record {
  same = λ a b n some h. ((held_moments 0 TIME_MAX a b n some).0 h).same;
  there = λ a n some le.
      let within = mul-le-mul_right n piece.in_time in
      (held_moments 0 TIME_MAX a a n some).1
      (record { starts = omega arith; same = refl; ends = omega (arith, le, within) });
}

-- Pairs that last no time count in any case.
pub instants_from : (longest reach : Option ℕ) (time : ℕ) (E : Pairs) → IsInstant E
    → EndsFrom longest time E → EndsFrom reach time E
instants_from longest reach time E instant from = record {
  from = λ a b n some short h.
      let eq = instant.same a b n h in
      let none : b - a ≡ 0 = omega (arith, eq) in
      from.from a b n some (subst (λ t. LastsUpTo longest t n) (sym none) (no_time longest n)) h;
}

pub instants_all : (longest : Option ℕ) (time : ℕ) (E : Pairs) → IsInstant E
    → EndsFrom longest time E → (a b n : ℕ) → 0 < n → E a b n → time * n ≤ b
instants_all longest time E instant from a b n some h =
    let eq = instant.same a b n h in
    let none : b - a ≡ 0 = omega (arith, eq) in
    from.from a b n some (subst (λ t. LastsUpTo longest t n) (sym none) (no_time longest n)) h

-- What counts around counts in it.
pub enters_narrow : (longest reach : Option ℕ) (piece : Piece) (old new : MarkTree)
    (tree : PatternTree) (E : Pairs) → ((d n : ℕ) → LastsUpTo longest d n → LastsUpTo reach d n)
    → Enters reach piece old tree E new → Enters longest piece old tree E new
enters_narrow longest reach piece old new tree E counts x = record {
  leaves = λ next long. record {
    at = λ a b n some short. (x.leaves next long).at a b n some (counts (b - a) n short);
  };
}
