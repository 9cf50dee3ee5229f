-- What an intersection or a restriction goes on with that one instance serves.
use Rattle.std.proofs.Common.{ℕ, sym, ◌-◌, ◌*◌, ◌<◌, ◌≤◌, inl, inr, ⊎_elim, arith, subst}
use Rattle.std.proofs.Math.Nat.{mul-pos, mul-le-mul_right}
use Rattle.tre_pairs.specs.Cuts.{Crossing}
use Rattle.tre_pairs.specs.Pairs.{Pairs, Composed, Either, Both, Lasting}
use Rattle.tre_pairs.proofs.Laws.{IsOrdered, IsInstant, Scales, Agree}
use Rattle.tre_pairs.proofs.Ticks.{le_up, le_down, ge_up, ge_down, gt_up, gt_down}
use Rattle.tre_pairs.specs.Before.{Before}
use Rattle.tre_pairs.specs.Same.{Same}

-- O had entered before the piece, O' is what is left of that and of E. X is what the body matches
-- over the piece and what comes, M what had begun of it, M' what has begun behind the piece. The
-- moments Mom of the piece enter the body. D admits the durations that count around, R those of
-- the body, and A what the instance itself admits.
module _ (begin cut : ℕ) (D R A : ℕ → ℕ → Type 0) (O O' E Mom M M' X : Pairs)
    (ordered_o : IsOrdered O) (ordered_e : IsOrdered E) (ordered_x : IsOrdered X)
    (ordered_m : IsOrdered M) (ordered_m' : IsOrdered M')
    (old : (a b n : ℕ) → 0 < n → O a b n → b < begin * n)
    (new : (a b n : ℕ) → 0 < n → E a b n → begin * n ≤ b)
    (later : begin ≤ cut)
    (began : (a b n : ℕ) → 0 < n → M a b n → a < begin * n)
    (sound : (a b n : ℕ) → 0 < n → Composed (Before cut Mom) X a b n → X a b n)
    (within : (a b n : ℕ) → 0 < n → Composed (Before cut Mom) X a b n → begin * n ≤ a)
    (covers : (a m b n : ℕ) → 0 < n → Before cut E a m n → X m b n
    → Composed (Before cut Mom) X m b n)
    (counts : (a m b n : ℕ) → 0 < n → a ≤ m → m ≤ b → D (b - a) n → A (b - m) n → R (b - m) n)
    (finer : (k a b n : ℕ) → 0 < k → D (b - a) n → D (k * b - k * a) (k * n))
    (sound_outer : (a m n : ℕ) → 0 < n → O' a m n → Either O (Before cut E) a m n)
    (kept : (a m b n : ℕ) → 0 < n → Either O (Before cut E) a m n → m ≤ b → cut * n ≤ b
    → R (b - m) n → O' a m n)
    (x : Same R M' (Crossing cut (Either M (Composed (Before cut Mom) X)))) where
  abbrev Whole : Pairs
  Whole = Either (Composed O (Lasting A M)) (Composed (Before cut E) (Lasting A X))

  pub instance_goes : Same D (Composed O' (Lasting A M')) (Crossing cut Whole)
  instance_goes = record {
    at = λ a b n some short. (
      (λ h.
          let k = h.factor in
          let m = h.midpoint in
          let pos = mul-pos h.positive some in
          let so = sound_outer (k * a) m (k * n) pos h.left in
          let first : k * a ≤ m = ⊎_elim (λ o. ordered_o.le (k * a) m (k * n) o)
          (λ e. ordered_e.le (k * a) m (k * n) e.related) so in
          let second = ordered_m'.le m (k * b) (k * n) h.right.related in
          let brief = counts (k * a) m (k * b) (k * n) pos first second
          (finer k a b n h.positive short) h.right.admitted in
          let c = (x.at m (k * b) (k * n) pos brief).0 h.right.related in
          let start = c.begin in
          let whole : Whole a b n = ⊎_elim
          (λ o. ⊎_elim
          (λ q. inl (record {
            factor = k;
            positive = h.positive;
            midpoint = m;
            left = o;
            right = record { related = q; admitted = h.right.admitted };
          }))
          (λ q.
          let one = old (k * a) m (k * n) pos o in
          let two = within m (k * b) (k * n) pos q in
          absurd (omega (arith, one, two))) c.related)
          (λ e. ⊎_elim
          (λ q.
          let one = new (k * a) m (k * n) pos e.related in
          let two = began m (k * b) (k * n) pos q in
          absurd (omega (arith, one, two)))
          (λ q. inr (record {
            factor = k;
            positive = h.positive;
            midpoint = m;
            left = e;
            right = record {
              related = sound m (k * b) (k * n) pos q;
              admitted = h.right.admitted;
            };
          })) c.related) so in
          record {
            related = whole;
            begin = ge_down k cut a n h.positive (omega (arith, first, start));
            end = le_down k cut b n h.positive c.end;
          }),
      (λ c. ⊎_elim
          (λ p.
          let k = p.factor in
          let m = p.midpoint in
          let pos = mul-pos p.positive some in
          let first = ordered_o.le (k * a) m (k * n) p.left in
          let second = ordered_m.le m (k * b) (k * n) p.right.related in
          let brief = counts (k * a) m (k * b) (k * n) pos first second
          (finer k a b n p.positive short) p.right.admitted in
          let end = le_up k cut b n c.end in
          let early = old (k * a) m (k * n) pos p.left in
          let upto = mul-le-mul_right (k * n) later in
          record {
            factor = k;
            positive = p.positive;
            midpoint = m;
            left = kept (k * a) m (k * b) (k * n) pos (inl p.left) second end brief;
            right = record {
              related = (x.at m (k * b) (k * n) pos brief).1 (record {
                related = inl p.right.related;
                begin = omega (arith, early, upto);
                end = end;
              });
              admitted = p.right.admitted;
            };
          })
          (λ p.
          let k = p.factor in
          let m = p.midpoint in
          let pos = mul-pos p.positive some in
          let first = ordered_e.le (k * a) m (k * n) p.left.related in
          let second = ordered_x.le m (k * b) (k * n) p.right.related in
          let brief = counts (k * a) m (k * b) (k * n) pos first second
          (finer k a b n p.positive short) p.right.admitted in
          let end = le_up k cut b n c.end in
          let early = p.left.early in
          record {
            factor = k;
            positive = p.positive;
            midpoint = m;
            left = kept (k * a) m (k * b) (k * n) pos (inr p.left) second end brief;
            right = record {
              related = (x.at m (k * b) (k * n) pos brief).1 (record {
                related = inr (covers (k * a) m (k * b) (k * n) pos p.left p.right.related);
                begin = omega (arith, early);
                end = end;
              });
              admitted = p.right.admitted;
            };
          }) c.related),
    );
  }

-- Where all that enters are moments, and it is entered by all of them, the pairs that enter need
-- not be kept: the body stands for them itself.
module _ (cut : ℕ) (D R A : ℕ → ℕ → Type 0) (E M M' X : Pairs) (instant : IsInstant E)
    (scales_x : Scales X)
    (counts : (d n : ℕ) → D d n → A d n → R d n)
    (scales_a : (k a b n : ℕ) → 0 < k → A (b - a) n → A (k * b - k * a) (k * n))
    (back_a : (k a b n : ℕ) → 0 < k → A (k * b - k * a) (k * n) → A (b - a) n)
    (x : Same R M' (Crossing cut (Either M (Composed (Before cut E) X)))) where
  pub whole_goes : Same D (Lasting A M')
      (Crossing cut (Either (Lasting A M) (Composed (Before cut E) (Lasting A X))))
  whole_goes = record {
    at = λ a b n some short. (
      (λ h.
          let c = (x.at a b n some (counts (b - a) n short h.admitted)).0 h.related in
          record {
            related = ⊎_elim
                (λ q. inl (record { related = q; admitted = h.admitted }))
                (λ q.
                let k = q.factor in
                let eq = instant.same (k * a) q.midpoint (k * n) q.left.related in
                inr (record {
                  factor = k;
                  positive = q.positive;
                  midpoint = q.midpoint;
                  left = q.left;
                  right = record {
                    related = q.right;
                    admitted = subst (λ t. A (k * b - t) (k * n)) eq
                        (scales_a k a b n q.positive h.admitted);
                  };
                })) c.related;
            begin = c.begin;
            end = c.end;
          }),
      (λ c. ⊎_elim
          (λ q. record {
            related = (x.at a b n some (counts (b - a) n short q.admitted)).1
                (record { related = inl q.related; begin = c.begin; end = c.end });
            admitted = q.admitted;
          })
          (λ q.
          let k = q.factor in
          let eq = instant.same (k * a) q.midpoint (k * n) q.left.related in
          let admitted = back_a k a b n q.positive
          (subst (λ t. A (k * b - t) (k * n)) (sym eq) q.right.admitted) in
          record {
            related = (x.at a b n some (counts (b - a) n short admitted)).1 (record {
              related = inr (record {
                factor = k;
                positive = q.positive;
                midpoint = q.midpoint;
                left = q.left;
                right = q.right.related;
              });
              begin = c.begin;
              end = c.end;
            });
            admitted = admitted;
          }) c.related),
    );
  }

-- Both sides of an intersection: what had begun before the piece meets what had, and what begins in
-- the piece meets what does.
module _ (begin cut : ℕ) (R : ℕ → ℕ → Type 0) (E M M' X N N' Y : Pairs) (instant : IsInstant E)
    (scales_e : Scales E) (scales_x : Scales X) (scales_y : Scales Y)
    (new : (a b n : ℕ) → 0 < n → E a b n → begin * n ≤ b)
    (began_m : (a b n : ℕ) → 0 < n → M a b n → a < begin * n)
    (began_n : (a b n : ℕ) → 0 < n → N a b n → a < begin * n)
    (x : Same R M' (Crossing cut (Either M (Composed (Before cut E) X))))
    (y : Same R N' (Crossing cut (Either N (Composed (Before cut E) Y)))) where
  starts : (Z : Pairs) (a b n : ℕ) → 0 < n → Composed (Before cut E) Z a b n → begin * n ≤ a
  starts Z a b n some h =
      let k = h.factor in
      let eq = instant.same (k * a) h.midpoint (k * n) h.left.related in
      let from = new (k * a) h.midpoint (k * n) (mul-pos h.positive some) h.left.related in
      le_down k begin a n h.positive (omega (arith, eq, from))

  -- Behind a moment, a pair of Z under the name of the whole.
  behind_moment : (Z : Pairs) → Scales Z → (a b n : ℕ) → 0 < n
      → Composed (Before cut E) Z a b n → Z a b n
  behind_moment Z z a b n some h =
      let k = h.factor in
      let eq = instant.same (k * a) h.midpoint (k * n) h.left.related in
      z.down k a b n h.positive (subst (λ t. Z t (k * b) (k * n)) (sym eq) h.right)

  pub both_goes : Same R (Both M' N')
      (Crossing cut (Either (Both M N) (Composed (Before cut E) (Both X Y))))
  both_goes = record {
    at = λ a b n some short. (
      (λ h.
          let c = (x.at a b n some short).0 h.left in
          let d = (y.at a b n some short).0 h.right in
          record {
            related = ⊎_elim
                (λ p. ⊎_elim (λ q. inl (record { left = p; right = q }))
                (λ q.
                let one = began_m a b n some p in
                let two = starts Y a b n some q in
                absurd (omega (arith, one, two))) d.related)
                (λ p. ⊎_elim
                (λ q.
                let one = began_n a b n some q in
                let two = starts X a b n some p in
                absurd (omega (arith, one, two)))
                (λ q.
                let k = p.factor in
                let eq = instant.same (k * a) p.midpoint (k * n) p.left.related in
                inr (record {
                  factor = k;
                  positive = p.positive;
                  midpoint = p.midpoint;
                  left = p.left;
                  right = record {
                    left = p.right;
                    right = subst (λ t. Y t (k * b) (k * n)) eq
                        (scales_y.up k a b n p.positive
                        (behind_moment Y scales_y a b n some q));
                  };
                })) d.related) c.related;
            begin = c.begin;
            end = c.end;
          }),
      (λ c. ⊎_elim
          (λ p. record {
            left = (x.at a b n some short).1
                (record { related = inl p.left; begin = c.begin; end = c.end });
            right = (y.at a b n some short).1
                (record { related = inl p.right; begin = c.begin; end = c.end });
          })
          (λ p. record {
            left = (x.at a b n some short).1 (record {
              related = inr (record {
                factor = p.factor;
                positive = p.positive;
                midpoint = p.midpoint;
                left = p.left;
                right = p.right.left;
              });
              begin = c.begin;
              end = c.end;
            });
            right = (y.at a b n some short).1 (record {
              related = inr (record {
                factor = p.factor;
                positive = p.positive;
                midpoint = p.midpoint;
                left = p.left;
                right = p.right.right;
              });
              begin = c.begin;
              end = c.end;
            });
          }) c.related),
    );
  }
