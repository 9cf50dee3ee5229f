-- Relations that have the same pairs have the same verdict, and the same pairs are shown.
use Rattle.std.proofs.Common.{◌≡◌, ◌<◌, ◌↔◌, ◌*◌, ℕ, List, arith}
use Rattle.std.proofs.Math.Nat.{mul-pos}
use Rattle.tre_pairs.specs.Leads.{Leads, LeadsOn}
use Rattle.tre_pairs.specs.Except.{Except}
use Rattle.tre_pairs.specs.Pairs.{Pairs}
use Rattle.tre_pairs.proofs.Laws.{IsOrdered}
use Rattle.tre_watch.specs.Forms.{patterns_of}
use Rattle.tre_watch.specs.declared.form.Form.{Form}
use Rattle.tre_watch.specs.declared.form.Form.TheVariants.{Plain, Never, Found, Same, Follows}
use Rattle.tre_zone.specs.ZoneList.{SetHolds, HoldExactly, AreCanonical}
use Rattle.tre_zone.specs.declared.zone_bounds.ZoneBounds.{ZoneBounds}
use Rattle.tre_zone.proofs.Scaling.{SetHolds-rising}
use Rattle.tre_judge.specs.Checks.{HoldFor, IsJudged, ShownFirst}
use Rattle.tre_judge.specs.Verdicts.{HasPair, IsFirst, IsVerdict, Nothing, Shown, Unanswered}
use Rattle.tre_judge.specs.declared.verdict.Verdict.{Verdict}
use Rattle.tre_judge.specs.declared.verdict.Verdict.TheVariants.{Unjudged, Passed, Failed, Waiting, Vacuous}

pub record Alike (R S : Pairs) : Type 0 where
  pub each : (a b n : ℕ) → 0 < n → R a b n ↔ S a b n

Alike-same : (R : Pairs) → Alike R R
Alike-same R = record { each = λ a b n some. ((λ h. h), (λ h. h)) }

-- A set that holds just the pairs of an ordered relation has none other.
pub Alike-set : (zones : List ZoneBounds) (R : Pairs) → AreCanonical zones → IsOrdered R
    → HoldExactly zones R → Alike (SetHolds zones) R
Alike-set zones R canonical ordered held = record {
  each = λ a b n some. (
    (λ h. (held.exact a b n some (SetHolds-rising zones canonical a b n some h)).0 h),
    (λ h. (held.exact a b n some (ordered.le a b n h)).1 h),
  );
}

pub HasPair-into : (R S : Pairs) → Alike R S → HasPair R → HasPair S
HasPair-into R S same h = record {
  a = h.a;
  b = h.b;
  n = h.n;
  positive = h.positive;
  rising = h.rising;
  there = (same.each h.a h.b h.n h.positive).0 h.there;
}

pub HasPair-back : (R S : Pairs) → Alike R S → HasPair S → HasPair R
HasPair-back R S same h = record {
  a = h.a;
  b = h.b;
  n = h.n;
  positive = h.positive;
  rising = h.rising;
  there = (same.each h.a h.b h.n h.positive).1 h.there;
}

pub HoldExactly-alike : (zones : List ZoneBounds) (R S : Pairs) → Alike R S → HoldExactly zones R
    → HoldExactly zones S
HoldExactly-alike zones R S same held = record {
  exact = λ a b n some le.
      let own = held.exact a b n some le in
      let two = same.each a b n some in
      ((λ h. two.0 (own.0 h)), (λ h. own.1 (two.1 h)));
}

-- ---- what is unanswered

LeadsOn-alike : (R S : Pairs) → Alike R S → Alike (LeadsOn R) (LeadsOn S)
LeadsOn-alike R S same = record {
  each = λ a b n some. (
    (λ (h : Leads R b n). record {
      factor = h.factor;
      positive = h.positive;
      to = h.to;
      led = (same.each (h.factor * b) h.to (h.factor * n) (mul-pos h.positive some)).0 h.led;
    }),
    (λ (h : Leads S b n). record {
      factor = h.factor;
      positive = h.positive;
      to = h.to;
      led = (same.each (h.factor * b) h.to (h.factor * n) (mul-pos h.positive some)).1 h.led;
    }),
  );
}

Except-alike : (S S' R R' : Pairs) → Alike S S'
    → ((a b n : ℕ) → 0 < n → S a b n → R a b n ↔ R' a b n) → Alike (Except S R) (Except S' R')
Except-alike S S' R R' same among = record {
  each = λ a b n some.
      let two = same.each a b n some in (
        (λ (h : Except S R a b n). record {
          related = two.0 h.related;
          never = λ r. h.never ((among a b n some h.related).1 r);
        }),
        (λ (h : Except S' R' a b n).
            let own = two.1 h.related in
            record {
              related = own;
              never = λ r. h.never ((among a b n some own).0 r);
            }),
      );
}

pub Unanswered-alike : (form : Form) (subject zones : List ZoneBounds) (S R : Pairs)
    → AreCanonical subject → AreCanonical zones → IsOrdered S → IsOrdered R
    → HoldExactly subject S → HoldFor form subject zones R
    → Alike (Unanswered form (SetHolds subject) (SetHolds zones)) (Unanswered form S R)
Unanswered-alike Plain subject zones S R set set' ordered ordered' held others = Alike-same Nothing
Unanswered-alike Never subject zones S R set set' ordered ordered' held others = Alike-same Nothing
Unanswered-alike Found subject zones S R set set' ordered ordered' held others = Alike-same Nothing
Unanswered-alike Same subject zones S R set set' ordered ordered' held others =
    Except-alike (SetHolds subject) S (SetHolds zones) R (Alike-set subject S set ordered held)
    (λ a b n some h.
    others.exact a b n some (SetHolds-rising subject set a b n some h) h)
Unanswered-alike Follows subject zones S R set set' ordered ordered' held others =
    let led = LeadsOn-alike (SetHolds zones) R (Alike-set zones R set' ordered' others) in
    Except-alike (SetHolds subject) S (LeadsOn (SetHolds zones)) (LeadsOn R)
    (Alike-set subject S set ordered held) (λ a b n some h. led.each a b n some)

-- ---- the verdict, and what is shown

first_alike : (verdict : Verdict) (S S' F F' U U' : Pairs) → Alike S S' → Alike F F' → Alike U U'
    → IsFirst verdict S F U → IsFirst verdict S' F' U'
first_alike Unjudged S S' F F' U U' s f u is = absurd is
first_alike Passed S S' F F' U U' s f u is =
    ((λ h. is.0 (HasPair-back U U' u h)), HasPair-into S S' s is.1)
first_alike Failed S S' F F' U U' s f u is = HasPair-into F F' f is
first_alike Waiting S S' F F' U U' s f u is =
    ((λ h. is.0 (HasPair-back F F' f h)), HasPair-into U U' u is.1)
first_alike Vacuous S S' F F' U U' s f u is = λ h. is (HasPair-back S S' s h)

shown_alike : (verdict : Verdict) (F F' U U' : Pairs) → Alike F F' → Alike U U'
    → Alike (ShownFirst verdict F U) (ShownFirst verdict F' U')
shown_alike Unjudged F F' U U' f u = Alike-same Nothing
shown_alike Passed F F' U U' f u = Alike-same Nothing
shown_alike Failed F F' U U' f u = f
shown_alike Waiting F F' U U' f u = u
shown_alike Vacuous F F' U U' f u = Alike-same Nothing

of_first : (form : Form) (verdict : Verdict) (S M A : Pairs) → patterns_of form ≡ 2
    → IsFirst verdict S (Unanswered form S M) (Unanswered form S A) → IsVerdict form verdict S M A
of_first Plain verdict S M A two is = absurd (omega (arith, two))
of_first Never verdict S M A two is = absurd (omega (arith, two))
of_first Found verdict S M A two is = absurd (omega (arith, two))
of_first Same verdict S M A two is = is
of_first Follows verdict S M A two is = is

of_shown : (form : Form) (verdict : Verdict) (zones : List ZoneBounds) (S M A : Pairs)
    → patterns_of form ≡ 2
    → HoldExactly zones (ShownFirst verdict (Unanswered form S M) (Unanswered form S A))
    → HoldExactly zones (Shown form verdict S M A)
of_shown Plain verdict zones S M A two is = absurd (omega (arith, two))
of_shown Never verdict zones S M A two is = absurd (omega (arith, two))
of_shown Found verdict zones S M A two is = absurd (omega (arith, two))
of_shown Same Unjudged zones S M A two is = is
of_shown Same Passed zones S M A two is = is
of_shown Same Failed zones S M A two is = is
of_shown Same Waiting zones S M A two is = is
of_shown Same Vacuous zones S M A two is = is
of_shown Follows Unjudged zones S M A two is = is
of_shown Follows Passed zones S M A two is = is
of_shown Follows Failed zones S M A two is = is
of_shown Follows Waiting zones S M A two is = is
of_shown Follows Vacuous zones S M A two is = is

-- What is judged of sets is judged of the relations that they hold.
module _ (form : Form) (two : patterns_of form ≡ 2) (verdict : Verdict)
    (subject may answers shown : List ZoneBounds) (S M A : Pairs)
    (same : Alike (SetHolds subject) S)
    (failing : Alike (Unanswered form (SetHolds subject) (SetHolds may)) (Unanswered form S M))
    (unanswered : Alike (Unanswered form (SetHolds subject) (SetHolds answers))
    (Unanswered form S A))
    (judged : IsJudged verdict shown (SetHolds subject)
    (Unanswered form (SetHolds subject) (SetHolds may))
    (Unanswered form (SetHolds subject) (SetHolds answers))) where
  pub verdict_of : IsVerdict form verdict S M A
  verdict_of = of_first form verdict S M A two
      (first_alike verdict (SetHolds subject) S _ (Unanswered form S M) _ (Unanswered form S A)
      same failing unanswered judged.verdict_is)

  pub shown_of : HoldExactly shown (Shown form verdict S M A)
  shown_of = of_shown form verdict shown S M A two
      (HoldExactly-alike shown _ (ShownFirst verdict (Unanswered form S M) (Unanswered form S A))
      (shown_alike verdict _ (Unanswered form S M) _ (Unanswered form S A) failing unanswered)
      judged.exact)
