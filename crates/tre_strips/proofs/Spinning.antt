-- One pass over time finds all strips.
use Rattle.std.proofs.Common.{◌≡◌, ◌≢◌, ℕ, ◌*◌, ◌<◌, ◌≤◌, ◌⊎◌, ◌↔◌, min, Bool, true, false, List, [], ◌∷◌, get_or, refl, sym, ap, subst, ◌∙◌, arith, inl, inr, ⊎_elim, mul-le-mul_right, true≢false, rules}
use Rattle.std.specs.Prelude.{Contains}
use Rattle.std.proofs.lemmas.Bool.{cases_eq, cases_lt}
use Rattle.std.proofs.lemmas.List.Elements.{Contains-get_or}
use Rattle.tre_pairs.specs.Pairs.{Pairs}
use Rattle.tre_pairs.specs.declared.TheConstants.{TIME_MAX}
use Rattle.tre_zone.specs.Zone.{IsCanonical, IsZoneOf, IsInFrame}
use Rattle.tre_zone.specs.ZoneList.{SetHolds, AreCanonical}
use Rattle.tre_zone.specs.declared.zone_bounds.ZoneBounds.{ZoneBounds}
use Rattle.tre_zone.proofs.Scaling.{canonical-frame}
use Rattle.tre_strips.specs.Bar.{BarHolds, BarsHold}
use Rattle.tre_strips.specs.Profile.{IsProfile, BarsFit}
use Rattle.tre_strips.specs.Runs.{IsRunOfBars, IsInStrip, IsAlone, IsInBlock, IsInColumn}
use Rattle.tre_strips.specs.Strips.{IsStripZone, of_run, of_time}
use Rattle.tre_strips.specs.Found.{StandAlike, ProfileGoesOn, IsInPart}
use Rattle.tre_strips.specs.Spun.{ClosesRun, Begun, IsSpun}
use Rattle.tre_strips.specs.declared.bar.Bar.{Bar}
use Rattle.tre_strips.specs.declared.strip_zone.Begins.{Begins}
use Rattle.tre_strips.proofs.Lists.{BarsHold-which, BarsHold-by}
use Rattle.tre_strips.proofs.Unique.{IsProfile-places, IsProfile-same}
use Rattle.tre_strips.proofs.Fitting.{AreSamePlaces-single, each_alike}
use Rattle.tre_strips.proofs.Runs.{IsProfile-on, IsProfile-part, Fits-agree, IsRun-closed, IsRun-same, earlier}

-- ---- the frame

pub set_framed : (zones : List ZoneBounds) → AreCanonical zones → (a b n : ℕ) → 0 < n
    → SetHolds zones a b n → IsInFrame TIME_MAX a b n
unfolding SetHolds AreCanonical
set_framed [] canonical a b n some h = absurd h
set_framed (zone ∷ zones) canonical a b n some h =
    ⊎_elim (λ x. canonical-frame zone canonical.0 a b n some x)
    (λ x. set_framed zones canonical.1 a b n some x) h

-- ---- the pairs of a strip

pub block_held : (M : Pairs) (bars : List Bar) (from until : ℕ) (bar : Bar)
    → IsProfile M bars from until → Contains bars bar → (a b n : ℕ) → 0 < n
    → IsInBlock M bars from until bar a b n → M a b n
block_held M bars from until bar profile has a b n some block =
    let held = BarsHold-by bars bar a b n has block.ends in
    let low = block.begins.low in
    let high = block.begins.high in
    ⊎_elim (λ (is : a ≡ from * n).
    subst (λ (k : ℕ). M k b n) (sym is)
    (((block.begins.first is).exact b n some).0 (subst (λ (k : ℕ). BarsHold bars k b n) is held)))
    (λ (differs : a ≢ from * n).
    ⊎_elim (λ (is : a ≡ until * n).
    subst (λ (k : ℕ). M k b n) (sym is)
    (((block.begins.last is).exact b n some).0 (subst (λ (k : ℕ). BarsHold bars k b n) is held)))
    (λ (differs' : a ≢ until * n).
    ((profile.each a n some (inr (omega arith, omega arith))).exact b).0 held)
    (cases_eq a (until * n)))
    (cases_eq a (from * n))

pub column_held : (M : Pairs) (bars : List Bar) (time : ℕ) (bar : Bar)
    → IsProfile M bars time time → Contains bars bar → (a b n : ℕ) → 0 < n
    → IsInColumn time bar a b n → M a b n
column_held M bars time bar profile has a b n some column =
    ((profile.each a n some (inl (refl, column.begins))).exact b).0
    (BarsHold-by bars bar a b n has column.ends)

-- What fits is what is taken.
module _ (zones : List ZoneBounds) (canonical : AreCanonical zones) (bars : List Bar)
    (from until : ℕ) (takes taken : Bool) (profile : IsProfile (SetHolds zones) bars from until)
    (first : (takes ≡ true) ↔ BarsFit (SetHolds zones) bars from)
    (last : (taken ≡ true) ↔ BarsFit (SetHolds zones) bars until) where
  abbrev the_strip : Begins
  the_strip = record {
    from = from;
    takes_from = takes;
    until = until;
    takes_until = taken;
  }

  pub block_part : (bar : Bar) → Contains bars bar → (a b n : ℕ) → 0 < n
      → IsInBlock (SetHolds zones) bars from until bar a b n ↔ IsInPart the_strip bar a b n
  block_part bar has a b n some = (
    (λ block. record {
      left = record {
        low = block.begins.low;
        high = block.begins.high;
        first = λ e. first.1 (block.begins.first e);
        last = λ e. last.1 (block.begins.last e);
        ends = block.ends;
      };
      right = set_framed zones canonical a b n some
          (block_held (SetHolds zones) bars from until bar profile has a b n some block);
    }),
    (λ part. record {
      begins = record {
        low = part.left.low;
        high = part.left.high;
        first = λ e. first.0 (part.left.first e);
        last = λ e. last.0 (part.left.last e);
      };
      ends = part.left.ends;
    }),
  )

  pub IsZoneOf-block : (bar : Bar) (zone : ZoneBounds) → Contains bars bar
      → IsZoneOf zone (IsInPart the_strip bar)
      → IsZoneOf zone (IsInBlock (SetHolds zones) bars from until bar)
  IsZoneOf-block bar zone has is = record {
    exact = λ a b n some le.
        let one = is.exact a b n some le in
        let both = block_part bar has a b n some in
        ((λ h. both.1 (one.0 h)), (λ h. one.1 (both.0 h)));
  }

  pub IsZoneOf-part : (bar : Bar) (zone : ZoneBounds) → Contains bars bar
      → IsZoneOf zone (IsInBlock (SetHolds zones) bars from until bar)
      → IsZoneOf zone (IsInPart the_strip bar)
  IsZoneOf-part bar zone has is = record {
    exact = λ a b n some le.
        let one = is.exact a b n some le in
        let both = block_part bar has a b n some in
        ((λ h. both.0 (one.0 h)), (λ h. one.1 (both.1 h)));
  }

abbrev alone_strip : ℕ → Begins
alone_strip time = record {
  from = time;
  takes_from = true;
  until = time;
  takes_until = true;
}

column_part : (zones : List ZoneBounds) → AreCanonical zones → (there : List Bar) (time : ℕ)
    → IsProfile (SetHolds zones) there time time → (bar : Bar) → Contains there bar
    → (a b n : ℕ) → 0 < n
    → IsInColumn time bar a b n ↔ IsInPart (alone_strip time) bar a b n
column_part zones canonical there time profile bar has a b n some = (
  (λ column.
      let is = column.begins in
      record {
        left = record {
          low = omega arith;
          high = omega arith;
          first = λ e. refl;
          last = λ e. refl;
          ends = column.ends;
        };
        right = set_framed zones canonical a b n some
            (column_held (SetHolds zones) there time bar profile has a b n some column);
      }),
  (λ part.
      let low = part.left.low in
      let high = part.left.high in
      record { begins = omega arith; ends = part.left.ends }),
)

-- A bar that stands alike over the time has the same column.
pub column_alike : (time : ℕ) (bar other : Bar) (a b n : ℕ)
    → StandAlike (time * n) n bar other → IsInColumn time bar a b n
    → IsInColumn time other a b n
column_alike time bar other a b n same column = search rules

decided : (flag : Bool) → (flag ≡ true) ⊎ (flag ≡ false)
decided true = inl refl
decided false = inr refl

-- ---- the time at which a run begins

module _ (zones : List ZoneBounds) (canonical : AreCanonical zones) (there behind : List Bar)
    (time until : ℕ) (taken takes : Bool) (mid new : List ZoneBounds) (later : time < until)
    (at : IsProfile (SetHolds zones) there time time)
    (next : IsProfile (SetHolds zones) behind time until)
    (begun : Begun there behind time taken takes mid new) where
  next_fits : (takes ≡ true) ↔ BarsFit (SetHolds zones) behind time
  next_fits = search (rules, Fits-agree)

  kept : (zone : ZoneBounds) → Contains mid zone → Contains new zone
  kept zone has = ⊎_elim
      (λ x. subst (λ (l : List ZoneBounds). Contains l zone) (sym x.1) has)
      (λ x. x.2.kept zone has) begun.pushed

  kept_pairs : (a b n : ℕ) → SetHolds mid a b n → SetHolds new a b n
  kept_pairs a b n h = search rules

  -- A run that begins at the time has the bars behind it.
  same_behind : (others : List Bar) (start end : ℕ) → IsRunOfBars (SetHolds zones) others start end
      → start ≡ time → others ≡ behind
  same_behind others start end run is =
      let rises = run.rising in
      IsProfile-same (SetHolds zones) others behind time (min end until) (omega arith)
      (IsProfile-part (SetHolds zones) others start end time (min end until) (omega arith)
      (omega arith) (omega arith) run.profile)
      (IsProfile-part (SetHolds zones) behind time until time (min end until) (omega arith)
      (omega arith) (omega arith) next)

  -- Where neither run takes the time, it is alone.
  is_alone : ((others : List Bar) (start end : ℕ) → IsRunOfBars (SetHolds zones) others start end
      → start < time → IsInStrip (SetHolds zones) others start end time 1 → taken ≡ true)
      → taken ≡ false → takes ≡ false → IsAlone (SetHolds zones) time
  is_alone before free free' = search (rules, before, same_behind, next_fits, cases_lt)

  column_zone : (zone : ZoneBounds) (bar : Bar) → Contains there bar
      → IsZoneOf zone (IsInPart (alone_strip time) bar)
      → IsZoneOf zone (IsInColumn time bar)
  column_zone zone bar has is = record {
    exact = λ a b n some le.
        let one = is.exact a b n some le in
        let both = column_part zones canonical there time at bar has a b n some in
        ((λ h. both.1 (one.0 h)), (λ h. one.1 (both.0 h)));
  }

  sound_begun : ((others : List Bar) (start end : ℕ) → IsRunOfBars (SetHolds zones) others start end
      → start < time → IsInStrip (SetHolds zones) others start end time 1 → taken ≡ true)
      → ((zone : ZoneBounds) → Contains mid zone
      → IsCanonical zone × IsStripZone (SetHolds zones) zone)
      → (zone : ZoneBounds) → Contains new zone
      → IsCanonical zone × IsStripZone (SetHolds zones) zone
  sound_begun before sound zone has = ⊎_elim
      (λ x. sound zone (subst (λ (l : List ZoneBounds). Contains l zone) x.1 has))
      (λ x. ⊎_elim (λ y. sound zone y)
      (λ y. (
        y.0,
        of_time there time y.1.0 (is_alone before x.0 x.1) at y.1.1
            (column_zone zone y.1.0 y.1.1 y.1.2),
      ))
      (x.2.sound zone has)) begun.pushed

  -- A bar of the profile of the time stands where one of the bars there does.
  there_zone : (others : List Bar) (bar : Bar) (zone : ZoneBounds)
      → IsProfile (SetHolds zones) others time time → Contains others bar
      → IsZoneOf zone (IsInColumn time bar)
      → (other : Bar) × Contains there other × IsZoneOf zone (IsInPart (alone_strip time) other)
  there_zone others bar zone own has is =
      let same = IsProfile-places (SetHolds zones) others there time time (2 * time) 2
      (omega arith) (inl (refl, omega arith)) own at in
      let long = (each_alike others there (2 * time) 2 same).0 in
      let other : Bar = get_or there has.0 bar in
      let inside : Contains there other =
      Contains-get_or there has.0 bar (omega (arith, has.1)) in
      let alike : (n : ℕ) → StandAlike (time * n) n bar other = λ n.
      subst (λ (b : Bar). StandAlike (time * n) n b other) has.2
      ((each_alike others there (time * n) n (AreSamePlaces-single others there time n same)).1
      has.0 bar bar has.1) in (
        other,
        inside,
        record {
          exact = λ a b n some le.
              let one = is.exact a b n some le in
              let both = column_part zones canonical there time at other inside a b n some in
              let there_is = alike n in (
                (λ h. both.0 (column_alike time bar other a b n there_is (one.0 h))),
                (λ h. one.1 (column_alike time other bar a b n
                    (record { low = sym there_is.low; high = sym there_is.high }) (both.1 h))),
              );
        },
      )

  alone_begun : (taken ≡ true → IsAlone (SetHolds zones) time → ⊥) → (others : List Bar)
      (bar : Bar) (zone : ZoneBounds) → IsAlone (SetHolds zones) time
      → IsProfile (SetHolds zones) others time time → (takes ≡ true → ⊥) → Contains others bar
      → IsCanonical zone → IsZoneOf zone (IsInColumn time bar) → Contains new zone
  alone_begun strip others bar zone alone own not has is_canonical is = ⊎_elim
      (λ x. ⊎_elim (λ y. absurd (strip y alone)) (λ y. absurd (not y)) x.0)
      (λ x. let found = there_zone others bar zone own has is in
      x.2.all found.0 zone found.1 is_canonical found.2) begun.pushed

  held_begun : (a b n : ℕ) → (taken ≡ true → SetHolds mid a b n) → 0 < n
      → SetHolds zones a b n → a ≡ time * n → (takes ≡ true → ⊥) → SetHolds new a b n
  held_begun a b n strip some h is not = ⊎_elim
      (λ x. ⊎_elim (λ y. kept_pairs a b n (strip y)) (λ y. absurd (not y)) x.0)
      (λ x.
      let w = BarsHold-which there a b n (((at.each a n some (inl (refl, is))).exact b).1 h) in
      let frame = set_framed zones canonical a b n some h in
      x.2.covers w.0 w.1 a b n some frame.rising
      ((column_part zones canonical there time at w.0 w.1 a b n some).0
      (record { begins = is; ends = w.2 }))) begun.pushed

-- ---- the first column

pub IsSpun-first : (zones : List ZoneBounds) (there behind : List Bar) (time until : ℕ)
    (takes : Bool) (new : List ZoneBounds) → AreCanonical zones → time ≡ 0 → time < until
    → IsProfile (SetHolds zones) there time time → IsProfile (SetHolds zones) behind time until
    → Begun there behind time false takes [] new
    → IsSpun zones behind time takes new until
IsSpun-first zones there behind time until takes new canonical start less at next begun = record {
  rising = less;
  profile = next;
  first = λ begin low whole. omega arith;
  takes = next_fits zones canonical there behind time until false takes [] new less at next begun;
  sound = sound_begun zones canonical there behind time until false takes [] new less at next begun
      (λ others begin end run early strip. absurd (omega arith))
      (λ zone has. absurd (omega (arith, has.1)));
  runs = λ others begin end bar zone run early has is_canonical is. absurd (omega arith);
  alone = λ others moment bar zone alone own low not has is_canonical is.
      let same : moment ≡ time = omega arith in
      alone_begun zones canonical there behind time until false takes [] new less at next begun
      (λ e. absurd (true≢false (sym e))) others bar zone
      (subst (IsAlone (SetHolds zones)) same alone)
      (subst (λ (k : ℕ). IsProfile (SetHolds zones) others k k) same own)
      (λ e. not same e) has is_canonical
      (subst (λ (k : ℕ). IsZoneOf zone (IsInColumn k bar)) same is);
  held = λ a b n some h where_it.
      ⊎_elim (λ early. let product = ap (λ k. k * n) start in absurd (omega arith))
      (λ x. held_begun zones canonical there behind time until false takes [] new less at next begun
      a b n (λ e. absurd (true≢false (sym e))) some h x.0 x.1) where_it;
}

-- ---- a run that goes on

pub IsSpun-on : (zones : List ZoneBounds) (bars there behind : List Bar) (from time until : ℕ)
    (takes : Bool) (found : List ZoneBounds) → time < until
    → IsProfile (SetHolds zones) there time time → IsProfile (SetHolds zones) behind time until
    → ProfileGoesOn bars there behind time → IsSpun zones bars from takes found time
    → IsSpun zones bars from takes found until
IsSpun-on zones bars there behind from time until takes found less at next goes spun =
    search (rules, IsProfile-on, IsProfile-part, spun.rising, spun.profile, spun.first)

-- ---- a run that ends, and the next

module _ (zones : List ZoneBounds) (canonical : AreCanonical zones)
    (bars there behind : List Bar) (from time until : ℕ) (takes taken takes' : Bool)
    (old mid new : List ZoneBounds) (later : time < until)
    (at : IsProfile (SetHolds zones) there time time)
    (next : IsProfile (SetHolds zones) behind time until)
    (stops : ProfileGoesOn bars there behind time → ⊥)
    (closes : ClosesRun bars there from time takes taken old mid)
    (begun : Begun there behind time taken takes' mid new)
    (spun : IsSpun zones bars from takes old time) where
  last_fits : (taken ≡ true) ↔ BarsFit (SetHolds zones) bars time
  last_fits = search (rules, Fits-agree)

  is_run : IsRunOfBars (SetHolds zones) bars from time
  is_run = IsRun-closed (SetHolds zones) bars there behind from time until spun.rising later
      spun.profile at next spun.first stops

  same_run : (others : List Bar) (start end : ℕ) → IsRunOfBars (SetHolds zones) others start end
      → start < time → from < end → (others ≡ bars) × (start ≡ from) × (end ≡ time)
  same_run others start end run early late = search (rules, IsRun-same)

  first_again : (start : ℕ) → start ≤ time → IsProfile (SetHolds zones) behind start until
      → start ≡ time
  first_again start low whole = ⊎_elim
      (λ (before : start < time).
      absurd (stops (earlier (SetHolds zones) bars there behind from time until spun.rising later
      spun.profile at next start before whole)))
      (λ (above : time ≤ start). omega arith) (cases_lt start time)

  kept_on : (zone : ZoneBounds) → Contains mid zone → Contains new zone
  kept_on = kept zones canonical there behind time until taken takes' mid new later at next begun

  runs_again : (others : List Bar) (start end : ℕ) (bar : Bar) (zone : ZoneBounds)
      → IsRunOfBars (SetHolds zones) others start end → start < time → Contains others bar
      → IsCanonical zone → IsZoneOf zone (IsInBlock (SetHolds zones) others start end bar)
      → Contains new zone
  runs_again others start end bar zone run early has is_canonical is =
      ⊎_elim (λ (overlaps : from < end).
      let same = same_run others start end run early overlaps in
      let has' = subst (λ (l : List Bar). Contains l bar) same.0 has in
      let is' = subst (λ (l : List Bar). IsZoneOf zone (IsInBlock (SetHolds zones) l from time bar))
      same.0
      (subst (λ (k : ℕ). IsZoneOf zone (IsInBlock (SetHolds zones) others k time bar)) same.1
      (subst (λ (k : ℕ). IsZoneOf zone (IsInBlock (SetHolds zones) others start k bar)) same.2 is))
      in
      kept_on zone (closes.pushed.all bar zone has' is_canonical
      (IsZoneOf-part zones canonical bars from time takes taken spun.profile spun.takes last_fits
      bar zone has' is')))
      (λ (left : end ≤ from).
      let rises = run.rising in
      kept_on zone (closes.pushed.kept zone
      (spun.runs others start end bar zone run (omega arith) has is_canonical is)))
      (cases_lt from end)

  -- The strip of the run has its inner times, and those at its ends that it takes.
  in_strip : (moment : ℕ) → from ≤ moment → moment ≤ time
      → (moment ≡ from → takes ≡ true) → (moment ≡ time → taken ≡ true)
      → IsInStrip (SetHolds zones) bars from time moment 1
  in_strip moment low high first last = search (rules, last_fits)

  before : (others : List Bar) (start end : ℕ) → IsRunOfBars (SetHolds zones) others start end
      → start < time → IsInStrip (SetHolds zones) others start end time 1 → taken ≡ true
  before others start end run early strip =
      search (rules, same_run, last_fits, strip.high, strip.last)

  sound_mid : (zone : ZoneBounds) → Contains mid zone
      → IsCanonical zone × IsStripZone (SetHolds zones) zone
  sound_mid zone has = ⊎_elim (λ x. spun.sound zone x)
      (λ x. (
        x.0,
        of_run bars from time x.1.0 is_run x.1.1
            (IsZoneOf-block zones canonical bars from time takes taken spun.profile spun.takes
            last_fits x.1.0 zone x.1.1 x.1.2),
      ))
      (closes.pushed.sound zone has)

  alone_again : (others : List Bar) (moment : ℕ) (bar : Bar) (zone : ZoneBounds)
      → IsAlone (SetHolds zones) moment → IsProfile (SetHolds zones) others moment moment
      → moment ≤ time → (moment ≡ time → takes' ≡ true → ⊥) → Contains others bar
      → IsCanonical zone → IsZoneOf zone (IsInColumn moment bar) → Contains new zone
  alone_again others moment bar zone alone own low not has is_canonical is =
      let rising = spun.rising in
      ⊎_elim (λ (inner : moment < time).
      ⊎_elim (λ (behind_it : from < moment).
      absurd (alone.none bars from time is_run (in_strip moment (omega arith) (omega arith)
      (λ e. absurd (omega arith)) (λ e. absurd (omega arith)))))
      (λ (early : moment ≤ from).
      kept_on zone (closes.pushed.kept zone (spun.alone others moment bar zone alone own early
      (λ e t. alone.none bars from time is_run (in_strip moment (omega arith) (omega arith)
      (λ e'. t) (λ e'. absurd (omega arith)))) has is_canonical is)))
      (cases_lt from moment))
      (λ (above : time ≤ moment).
      let same : moment ≡ time = omega arith in
      alone_begun zones canonical there behind time until taken takes' mid new later at next begun
      (λ t lone. lone.none bars from time is_run (in_strip time (omega arith) (omega arith)
      (λ e. absurd (omega arith)) (λ e. t))) others bar zone
      (subst (IsAlone (SetHolds zones)) same alone)
      (subst (λ (k : ℕ). IsProfile (SetHolds zones) others k k) same own)
      (λ e. not same e) has is_canonical
      (subst (λ (k : ℕ). IsZoneOf zone (IsInColumn k bar)) same is))
      (cases_lt moment time)

  covered : (bar : Bar) → Contains bars bar → (a b n : ℕ) → 0 < n → SetHolds zones a b n
      → from * n ≤ a → a ≤ time * n → (a ≡ from * n → takes ≡ true)
      → (a ≡ time * n → taken ≡ true) → BarHolds bar a b n → SetHolds mid a b n
  covered bar has a b n some h low high first last ends = search (rules, set_framed)

  kept_pairs_on : (a b n : ℕ) → SetHolds mid a b n → SetHolds new a b n
  kept_pairs_on = search rules

  held_before : (a b n : ℕ) → 0 < n → SetHolds zones a b n → a < time * n → SetHolds mid a b n
  held_before a b n some h early =
      ⊎_elim (λ (lt : a < from * n).
      closes.pushed.held a b n (spun.held a b n some h (inl lt)))
      (λ (above : from * n ≤ a).
      ⊎_elim (λ (is : a ≡ from * n).
      ⊎_elim (λ t.
      let fits = spun.takes.0 t in
      let w = BarsHold-which bars a b n (subst (λ (k : ℕ). BarsHold bars k b n) (sym is)
      ((fits.exact b n some).1 (subst (λ (k : ℕ). SetHolds zones k b n) is h))) in
      covered w.0 w.1 a b n some h above (omega arith) (λ e. t) (λ e. absurd (omega arith)) w.2)
      (λ f. closes.pushed.held a b n (spun.held a b n some h
      (inr (is, λ t. true≢false (sym t ∙ f))))) (decided takes))
      (λ (differs : a ≢ from * n).
      let own = spun.profile.each a n some (inr (omega arith, early)) in
      let w = BarsHold-which bars a b n ((own.exact b).1 h) in
      covered w.0 w.1 a b n some h above (omega arith) (λ e. absurd (differs e))
      (λ e. absurd (omega arith)) w.2)
      (cases_eq a (from * n)))
      (cases_lt a (from * n))

  held_again : (a b n : ℕ) → 0 < n → SetHolds zones a b n
      → (a < time * n) ⊎ ((a ≡ time * n) × (takes' ≡ true → ⊥)) → SetHolds new a b n
  held_again a b n some h where_it = ⊎_elim
      (λ early. kept_pairs_on a b n (held_before a b n some h early))
      (λ x. held_begun zones canonical there behind time until taken takes' mid new later at next
      begun a b n (λ t.
      let is = x.0 in
      let rising = mul-le-mul_right n spun.rising in
      let fits = last_fits.0 t in
      let w = BarsHold-which bars a b n (subst (λ (k : ℕ). BarsHold bars k b n) (sym is)
      ((fits.exact b n some).1 (subst (λ (k : ℕ). SetHolds zones k b n) is h))) in
      covered w.0 w.1 a b n some h (omega arith) (omega arith) (λ e. absurd (omega arith))
      (λ e. t) w.2) some h x.0 x.1) where_it

  pub IsSpun-next : IsSpun zones behind time takes' new until
  IsSpun-next = record {
    rising = later;
    profile = next;
    first = first_again;
    takes = next_fits zones canonical there behind time until taken takes' mid new later at next
        begun;
    sound = sound_begun zones canonical there behind time until taken takes' mid new later at next
        begun before sound_mid;
    runs = runs_again;
    alone = alone_again;
    held = held_again;
  }
