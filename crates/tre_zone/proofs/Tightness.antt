-- Each bound of canonical bounds is met to the last: by a pair at the denominator 4.
use Rattle.std.proofs.Common.{◌≡◌, ℕ, ◌+◌, ◌*◌, ◌≤◌, ◌^◌, refl, sym, arith, ℤ, pos, neg_ℤ, ◌+ℤ◌, ◌-ℤ◌, ◌*ℤ◌, ◌≤ℤ◌, rules}
use Rattle.std.proofs.lemmas.Int.{ints, clamps}
use Rattle.std.specs.Int.{int_max}
use borrow.Author.Differences.{up}
use Rattle.tre_pairs.specs.declared.TheConstants.{TIME_MAX}
use Rattle.tre_zone.specs.Bound.{value_of, weakness_of, sum_of, Meets, IsKeyWithin}
use Rattle.tre_zone.specs.Zone.{ZoneHolds, IsCanonical, IsTightest, IsTight, HoldsSome, Includes, Covers, AreKeysWithin}
use Rattle.tre_zone.specs.declared.zone_bounds.ZoneBounds.{ZoneBounds}
use Rattle.tre_zone.proofs.Bounds.{split, split-sum}
use Rattle.tre_zone.proofs.Paths.{Meets-looser, pos-up}
use Rattle.tre_zone.proofs.Sums.{sum_of-comm, sum_of-swap}
use Rattle.tre_zone.proofs.ZoneKeys.{zones_same}

-- The greatest whole number of quarters of a tick that meets a bound.
unfoldable quarters_of : ℤ → ℤ
quarters_of key = ((pos 4 *ℤ value_of key) +ℤ pos (weakness_of key)) -ℤ pos 1

-- Three times i, j and k, with j at 0, in quarters: i lies at the bound on i - j, or half a tick
-- below it where it is strict.
record Facet (ij ji ik ki jk kj : ℤ) : Type 0 where
  third : ℤ
  first : ℤ
  place : first ≡ pos 2 *ℤ (ij -ℤ pos 1)
  ij_met : first ≤ℤ quarters_of ij
  ji_met : neg_ℤ first ≤ℤ quarters_of ji
  ik_met : (first -ℤ third) ≤ℤ quarters_of ik
  ki_met : (third -ℤ first) ≤ℤ quarters_of ki
  jk_met : neg_ℤ third ≤ℤ quarters_of jk
  kj_met : third ≤ℤ quarters_of kj

-- That place of i leaves room for j, and for k on each of its four sides.
own_side : (ij : ℤ) → (pos 2 *ℤ (ij -ℤ pos 1)) ≤ℤ quarters_of ij
unfolding quarters_of
own_side ij = let a = split ij in omega (arith, ints)

back_side : (ij ji : ℤ) → pos 1 ≤ℤ sum_of ij ji → neg_ℤ (pos 2 *ℤ (ij -ℤ pos 1)) ≤ℤ quarters_of ji
unfolding quarters_of
back_side ij ji loop = let a = split ij in let b = split ji in let c = split-sum ij ji in
    omega (arith, ints)

loop_side : (ik ki : ℤ) → pos 1 ≤ℤ sum_of ik ki → neg_ℤ (quarters_of ik) ≤ℤ quarters_of ki
unfolding quarters_of
loop_side ik ki loop = let a = split ik in let b = split ki in let c = split-sum ik ki in
    omega (arith, ints)

straight_side : (ij ik kj : ℤ) → ij ≤ℤ sum_of ik kj
    → ((pos 2 *ℤ (ij -ℤ pos 1)) -ℤ quarters_of ik) ≤ℤ quarters_of kj
unfolding quarters_of
straight_side ij ik kj le = let a = split ij in let b = split ik in let c = split kj in let d =
    split-sum ik kj in omega (arith, ints)

round_side : (ij ji jk ki : ℤ) → pos 1 ≤ℤ sum_of ij ji → ji ≤ℤ sum_of jk ki
    → neg_ℤ (quarters_of jk) ≤ℤ ((pos 2 *ℤ (ij -ℤ pos 1)) +ℤ quarters_of ki)
unfolding quarters_of
round_side ij ji jk ki loop le =
    let a = split ij in let b = split ji in let c = split jk in let d = split ki in let e =
    split-sum ij ji in let f = split-sum jk ki in omega (arith, ints)

facet : (ij ji ik ki jk kj : ℤ) → pos 1 ≤ℤ sum_of ij ji → pos 1 ≤ℤ sum_of ik ki
    → pos 1 ≤ℤ sum_of jk kj
    → ij ≤ℤ sum_of ik kj → ji ≤ℤ sum_of jk ki → Facet ij ji ik ki jk kj
facet ij ji ik ki jk kj loop_ij loop_ik loop_jk over back =
    let own = own_side ij in
    let other = back_side ij ji loop_ij in
    let ik_side = loop_side ik ki loop_ik in
    let jk_side = loop_side jk kj loop_jk in
    let straight = straight_side ij ik kj over in
    let round = round_side ij ji jk ki loop_ij back in
    record {
      third = int_max ((pos 2 *ℤ (ij -ℤ pos 1)) -ℤ quarters_of ik) (neg_ℤ (quarters_of jk));
      first = pos 2 *ℤ (ij -ℤ pos 1);
      place = refl;
      ij_met = own;
      ji_met = other;
      ik_met = omega (arith, ints, clamps);
      ki_met = omega (arith, ints, clamps);
      jk_met = omega (arith, ints, clamps);
      kj_met = omega (arith, ints, clamps);
    }

-- A point of a zone in quarters of a tick.
record Point (zone : ZoneBounds) (x y : ℤ) : Type 0 where
  begin_low : neg_ℤ x ≤ℤ quarters_of zone.begin_low
  begin_high : x ≤ℤ quarters_of zone.begin_high
  end_low : neg_ℤ y ≤ℤ quarters_of zone.end_low
  end_high : y ≤ℤ quarters_of zone.end_high
  dur_low : (x -ℤ y) ≤ℤ quarters_of zone.dur_low
  dur_high : (y -ℤ x) ≤ℤ quarters_of zone.dur_high

Meets-quarters : (key : ℤ) (p q : ℕ) → (pos p -ℤ pos q) ≤ℤ quarters_of key → Meets key p q 4
unfolding quarters_of
Meets-quarters key p q le = record { met = omega (arith, ints) }

quarters-met : (key : ℤ) (p q : ℕ) → Meets key p q 4 → (pos p -ℤ pos q) ≤ℤ quarters_of key
unfolding quarters_of
quarters-met key p q m = let met = m.met in omega (arith, ints)

quarters_of-at_most_zero : (key : ℤ) → key ≤ℤ pos 1 → quarters_of key ≤ℤ pos 0
unfolding quarters_of
quarters_of-at_most_zero key le = let s = split key in omega (arith, ints)

-- The pair of a point: its two times, as naturals.
record Pair (zone : ZoneBounds) (x y : ℤ) : Type 0 where
  a : ℕ
  b : ℕ
  a_is : pos a ≡ x
  b_is : pos b ≡ y
  rising : a ≤ b
  held : ZoneHolds zone a b 4

pair_at : (zone : ZoneBounds) → IsCanonical zone → (x y : ℤ) → Point zone x y → Pair zone x y
pair_at zone canonical x y p =
    let starts = quarters_of-at_most_zero zone.begin_low canonical.framed.starts in
    let lasts = quarters_of-at_most_zero zone.dur_low canonical.framed.lasts in
    let begin_low = p.begin_low in
    let dur_low = p.dur_low in
    let e = pos-up x (omega (arith, ints)) in
    let f = pos-up y (omega (arith, ints)) in
    record {
      a = up x;
      b = up y;
      a_is = sym e;
      b_is = sym f;
      rising = omega (arith, ints);
      held = record {
        begin_low = Meets-quarters _ 0 (up x) (omega (arith, ints));
        begin_high = Meets-quarters _ (up x) 0 (omega (arith, ints, p.begin_high));
        end_low = Meets-quarters _ 0 (up y) (omega (arith, ints, p.end_low));
        end_high = Meets-quarters _ (up y) 0 (omega (arith, ints, p.end_high));
        dur_low = Meets-quarters _ (up x) (up y) (omega (arith, ints));
        dur_high = Meets-quarters _ (up y) (up x) (omega (arith, ints, p.dur_high));
      };
    }

-- A bound that is met at the place of a facet has at least its key.
at_place : (key other : ℤ) (p q : ℕ) → (pos p -ℤ pos q) ≡ pos 2 *ℤ (key -ℤ pos 1)
    → Meets other p q 4 → key ≤ℤ other
unfolding quarters_of
at_place key other p q e m =
    let s = split key in
    let t = split other in
    let le = quarters-met other p q m in
    omega (arith, ints)

-- ---- the six bounds, each with its pair

tight_begin_low : (z : ZoneBounds) → IsCanonical z → IsTightest z z.begin_low (λ a b. 0) (λ a b. a)
tight_begin_low z c =
    let f = facet z.begin_low z.begin_high z.end_low z.end_high z.dur_low z.dur_high
    c.room.begin_loop c.room.end_loop c.room.dur_loop c.closed.begin_low c.closed.begin_high in
    let point : Point z (neg_ℤ f.first) (f.third -ℤ f.first) =
    record {
      begin_low = omega (arith, ints, f.ij_met);
      begin_high = omega (arith, ints, f.ji_met);
      end_low = omega (arith, ints, f.ik_met);
      end_high = omega (arith, ints, f.ki_met);
      dur_low = omega (arith, ints, f.jk_met);
      dur_high = omega (arith, ints, f.kj_met);
    } in
    let p = pair_at z c (neg_ℤ f.first) (f.third -ℤ f.first) point in
    record {
      tightest = λ other every.
          at_place z.begin_low other 0 p.a (omega (arith, ints, f.place, p.a_is, p.b_is))
          (every p.a p.b 4 (omega arith) p.rising p.held);
    }

tight_begin_high : (z : ZoneBounds) → IsCanonical z
    → IsTightest z z.begin_high (λ a b. a) (λ a b. 0)
tight_begin_high z c =
    let f = facet z.begin_high z.begin_low z.dur_low z.dur_high z.end_low z.end_high
    (sum_of-swap _ _ c.room.begin_loop) c.room.dur_loop c.room.end_loop c.closed.begin_high
    c.closed.begin_low in
    let point : Point z f.first f.third =
    record {
      begin_low = omega (arith, ints, f.ji_met);
      begin_high = omega (arith, ints, f.ij_met);
      end_low = omega (arith, ints, f.jk_met);
      end_high = omega (arith, ints, f.kj_met);
      dur_low = omega (arith, ints, f.ik_met);
      dur_high = omega (arith, ints, f.ki_met);
    } in
    let p = pair_at z c f.first f.third point in
    record {
      tightest = λ other every.
          at_place z.begin_high other p.a 0 (omega (arith, ints, f.place, p.a_is, p.b_is))
          (every p.a p.b 4 (omega arith) p.rising p.held);
    }

tight_end_low : (z : ZoneBounds) → IsCanonical z → IsTightest z z.end_low (λ a b. 0) (λ a b. b)
tight_end_low z c =
    let f = facet z.end_low z.end_high z.begin_low z.begin_high z.dur_high z.dur_low
    c.room.end_loop c.room.begin_loop
    (sum_of-swap _ _ c.room.dur_loop) c.closed.end_low c.closed.end_high in
    let point : Point z (f.third -ℤ f.first) (neg_ℤ f.first) =
    record {
      begin_low = omega (arith, ints, f.ik_met);
      begin_high = omega (arith, ints, f.ki_met);
      end_low = omega (arith, ints, f.ij_met);
      end_high = omega (arith, ints, f.ji_met);
      dur_low = omega (arith, ints, f.kj_met);
      dur_high = omega (arith, ints, f.jk_met);
    } in
    let p = pair_at z c (f.third -ℤ f.first) (neg_ℤ f.first) point in
    record {
      tightest = λ other every.
          at_place z.end_low other 0 p.b (omega (arith, ints, f.place, p.a_is, p.b_is))
          (every p.a p.b 4 (omega arith) p.rising p.held);
    }

tight_end_high : (z : ZoneBounds) → IsCanonical z → IsTightest z z.end_high (λ a b. b) (λ a b. 0)
tight_end_high z c =
    let f = facet z.end_high z.end_low z.dur_high z.dur_low z.begin_low z.begin_high
    (sum_of-swap _ _ c.room.end_loop)
    (sum_of-swap _ _ c.room.dur_loop) c.room.begin_loop c.closed.end_high c.closed.end_low in
    let point : Point z f.third f.first =
    record {
      begin_low = omega (arith, ints, f.jk_met);
      begin_high = omega (arith, ints, f.kj_met);
      end_low = omega (arith, ints, f.ji_met);
      end_high = omega (arith, ints, f.ij_met);
      dur_low = omega (arith, ints, f.ki_met);
      dur_high = omega (arith, ints, f.ik_met);
    } in
    let p = pair_at z c f.third f.first point in
    record {
      tightest = λ other every.
          at_place z.end_high other p.b 0 (omega (arith, ints, f.place, p.a_is, p.b_is))
          (every p.a p.b 4 (omega arith) p.rising p.held);
    }

tight_dur_low : (z : ZoneBounds) → IsCanonical z → IsTightest z z.dur_low (λ a b. a) (λ a b. b)
tight_dur_low z c =
    let f = facet z.dur_low z.dur_high z.begin_high z.begin_low z.end_high z.end_low
    c.room.dur_loop (sum_of-swap _ _ c.room.begin_loop)
    (sum_of-swap _ _ c.room.end_loop) c.closed.dur_low c.closed.dur_high in
    let point : Point z (f.first -ℤ f.third) (neg_ℤ f.third) =
    record {
      begin_low = omega (arith, ints, f.ki_met);
      begin_high = omega (arith, ints, f.ik_met);
      end_low = omega (arith, ints, f.kj_met);
      end_high = omega (arith, ints, f.jk_met);
      dur_low = omega (arith, ints, f.ij_met);
      dur_high = omega (arith, ints, f.ji_met);
    } in
    let p = pair_at z c (f.first -ℤ f.third) (neg_ℤ f.third) point in
    record {
      tightest = λ other every.
          at_place z.dur_low other p.a p.b (omega (arith, ints, f.place, p.a_is, p.b_is))
          (every p.a p.b 4 (omega arith) p.rising p.held);
    }

tight_dur_high : (z : ZoneBounds) → IsCanonical z → IsTightest z z.dur_high (λ a b. b) (λ a b. a)
tight_dur_high z c =
    let f = facet z.dur_high z.dur_low z.end_high z.end_low z.begin_high z.begin_low
    (sum_of-swap _ _ c.room.dur_loop) (sum_of-swap _ _ c.room.end_loop)
    (sum_of-swap _ _ c.room.begin_loop) c.closed.dur_high c.closed.dur_low in
    let point : Point z (neg_ℤ f.third) (f.first -ℤ f.third) =
    record {
      begin_low = omega (arith, ints, f.kj_met);
      begin_high = omega (arith, ints, f.jk_met);
      end_low = omega (arith, ints, f.ki_met);
      end_high = omega (arith, ints, f.ik_met);
      dur_low = omega (arith, ints, f.ji_met);
      dur_high = omega (arith, ints, f.ij_met);
    } in
    let p = pair_at z c (neg_ℤ f.third) (f.first -ℤ f.third) point in
    record {
      tightest = λ other every.
          at_place z.dur_high other p.b p.a (omega (arith, ints, f.place, p.a_is, p.b_is))
          (every p.a p.b 4 (omega arith) p.rising p.held);
    }

pub canonical-tight : (zone : ZoneBounds) → IsCanonical zone → IsTight zone
canonical-tight zone c = record {
  begin_low = tight_begin_low zone c;
  begin_high = tight_begin_high zone c;
  end_low = tight_end_low zone c;
  end_high = tight_end_high zone c;
  dur_low = tight_dur_low zone c;
  dur_high = tight_dur_high zone c;
}

pub canonical-some : (z : ZoneBounds) → IsCanonical z → HoldsSome z
canonical-some z c =
    let f = facet z.begin_high z.begin_low z.dur_low z.dur_high z.end_low z.end_high
    (sum_of-swap _ _ c.room.begin_loop) c.room.dur_loop c.room.end_loop c.closed.begin_high
    c.closed.begin_low in
    let point : Point z f.first f.third =
    record {
      begin_low = f.ji_met;
      begin_high = f.ij_met;
      end_low = f.jk_met;
      end_high = f.kj_met;
      dur_low = f.ik_met;
      dur_high = f.ki_met;
    } in
    let p = pair_at z c f.first f.third point in
    record {
      a = p.a;
      b = p.b;
      n = 4;
      some = omega arith;
      rising = p.rising;
      held = p.held;
    }

-- ---- inclusion goes by the keys

pub Covers-Includes : (outer inner : ZoneBounds) → Covers outer inner → Includes outer inner
Covers-Includes outer inner covers = record {
  every = λ a b n some le held. record {
    begin_low = Meets-looser _ _ 0 a n some covers.begin_low held.begin_low;
    begin_high = Meets-looser _ _ a 0 n some covers.begin_high held.begin_high;
    end_low = Meets-looser _ _ 0 b n some covers.end_low held.end_low;
    end_high = Meets-looser _ _ b 0 n some covers.end_high held.end_high;
    dur_low = Meets-looser _ _ a b n some covers.dur_low held.dur_low;
    dur_high = Meets-looser _ _ b a n some covers.dur_high held.dur_high;
  };
}

pub Includes-Covers : (outer inner : ZoneBounds) → IsCanonical inner → Includes outer inner
    → Covers outer inner
Includes-Covers outer inner c includes =
    let tight = canonical-tight inner c in
    record {
      begin_low = tight.begin_low.tightest outer.begin_low
          (λ a b n some le held. (includes.every a b n some le held).begin_low);
      begin_high = tight.begin_high.tightest outer.begin_high
          (λ a b n some le held. (includes.every a b n some le held).begin_high);
      end_low = tight.end_low.tightest outer.end_low
          (λ a b n some le held. (includes.every a b n some le held).end_low);
      end_high = tight.end_high.tightest outer.end_high
          (λ a b n some le held. (includes.every a b n some le held).end_high);
      dur_low = tight.dur_low.tightest outer.dur_low
          (λ a b n some le held. (includes.every a b n some le held).dur_low);
      dur_high = tight.dur_high.tightest outer.dur_high
          (λ a b n some le held. (includes.every a b n some le held).dur_high);
    }

le_antisym : (x y : ℤ) → x ≤ℤ y → y ≤ℤ x → x ≡ y
le_antisym x y h k = omega (arith, ints)

pub same_pairs : (one other : ZoneBounds) → IsCanonical one → IsCanonical other
    → Includes one other → Includes other one → one ≡ other
same_pairs one other c d includes back =
    let covers = Includes-Covers one other d includes in
    let covered = Includes-Covers other one c back in
    zones_same one other (le_antisym _ _ covered.begin_low covers.begin_low)
    (le_antisym _ _ covered.begin_high covers.begin_high)
    (le_antisym _ _ covered.end_low covers.end_low)
    (le_antisym _ _ covered.end_high covers.end_high)
    (le_antisym _ _ covered.dur_low covers.dur_low)
    (le_antisym _ _ covered.dur_high covers.dur_high)

-- ---- what a canonical zone keeps within limits

limit_low : (key back : ℤ) (limit : ℕ) → pos 1 ≤ℤ sum_of key back → back ≤ℤ pos limit
    → neg_ℤ (pos limit) ≤ℤ key
limit_low key back limit loop le =
    let a = split key in let b = split back in let d = split-sum key back in omega (arith, ints)

limit_high : (key left right : ℤ) (limit : ℕ) → key ≤ℤ sum_of left right → left ≤ℤ pos 1
    → right ≤ℤ pos limit → key ≤ℤ pos limit
limit_high key left right limit le small large =
    let a = split left in let b = split right in let d = split-sum left right in omega (arith, ints)

within_limits : (z : ZoneBounds) → IsCanonical z → AreKeysWithin (2 * TIME_MAX + 1) z
within_limits z c =
    let begin_high = limit_high z.begin_high z.dur_low z.end_high
    (2 * TIME_MAX + 1) c.closed.begin_high c.framed.lasts c.framed.ends in
    let end_low = limit_high z.end_low z.begin_low z.dur_low 1 c.closed.end_low c.framed.starts
    c.framed.lasts in
    let dur_high = limit_high z.dur_high z.begin_low z.end_high (2 * TIME_MAX + 1)
    (rw (sum_of-comm z.begin_low z.end_high) c.closed.dur_high) c.framed.starts c.framed.ends in
    record {
      begin_low = record {
        low = limit_low z.begin_low z.begin_high
            (2 * TIME_MAX + 1) c.room.begin_loop begin_high;
        high =
            omega (arith, ints, c.framed.starts);
      };
      begin_high = record {
        low = omega (
          arith,
          ints,
          limit_low z.begin_high z.begin_low 1
              (sum_of-swap _ _ c.room.begin_loop) c.framed.starts,
        );
        high = begin_high;
      };
      end_low = record {
        low = limit_low z.end_low z.end_high
            (2 * TIME_MAX + 1) c.room.end_loop c.framed.ends;
        high = omega (arith, ints);
      };
      end_high = record {
        low = omega (
          arith,
          ints,
          limit_low z.end_high z.end_low 1
              (sum_of-swap _ _ c.room.end_loop) end_low,
        );
        high = c.framed.ends;
      };
      dur_low = record {
        low = limit_low z.dur_low z.dur_high
            (2 * TIME_MAX + 1) c.room.dur_loop dur_high;
        high = omega (arith, ints, c.framed.lasts);
      };
      dur_high = record {
        low = omega (
          arith,
          ints,
          limit_low z.dur_high z.dur_low 1
              (sum_of-swap _ _ c.room.dur_loop) c.framed.lasts,
        );
        high = dur_high;
      };
    }

pub key-wider : (limit wide : ℕ) → limit ≤ wide → (key : ℤ) → IsKeyWithin limit key
    → IsKeyWithin wide key
key-wider limit wide le key h = search rules

pub keys-wider : (limit wide : ℕ) → limit ≤ wide → (z : ZoneBounds) → AreKeysWithin limit z
    → AreKeysWithin wide z
keys-wider limit wide le z h = search rules

pub canonical-keys : (z : ZoneBounds) → IsCanonical z → AreKeysWithin (2 ^ 42) z
canonical-keys z c = keys-wider (2 * TIME_MAX + 1) (2 ^ 42) (omega arith) z (within_limits z c)
