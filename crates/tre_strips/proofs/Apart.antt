-- Of two strips of which one includes the other, both are the same.
use Rattle.std.proofs.Common.{◌≡◌, ℕ, zero, suc, ◌+◌, ◌*◌, ◌<◌, ◌≤◌, min, max, List, [], ◌∷◌, get_or, refl, sym, subst, ◌∙◌, arith, inl, inr, le_refl, rules}
use Rattle.std.specs.Prelude.{Contains}
use Rattle.std.proofs.lemmas.List.Elements.{Contains-get_or}
use Rattle.tre_pairs.specs.Pairs.{Pairs}
use Rattle.tre_zone.specs.Zone.{Includes, IsCanonical, IsZoneOf, HoldsSome}
use Rattle.tre_zone.specs.ZoneList.{SetHolds, AreCanonical}
use Rattle.tre_zone.specs.declared.zone_bounds.ZoneBounds.{ZoneBounds}
use Rattle.tre_strips.specs.Bar.{place_of, BarHolds, RiseFrom}
use Rattle.tre_strips.specs.Profile.{IsProfile}
use Rattle.tre_strips.specs.Runs.{IsRunOfBars, IsInBlock, IsInColumn}
use Rattle.tre_strips.specs.Strips.{IsStripZone, of_run, of_time}
use Rattle.tre_strips.specs.Found.{StandAlike}
use Rattle.tre_strips.specs.declared.bar.Bar.{Bar}
use Rattle.tre_strips.proofs.Unique.{IsProfile-same, IsProfile-places, low_finer, high_finer}
use Rattle.tre_strips.proofs.Fitting.{AreSamePlaces-single, each_alike}
use Rattle.tre_strips.proofs.Runs.{IsProfile-part, IsProfile-join}
use Rattle.tre_strips.proofs.StripZones.{same_zone}
use Rattle.tre_strips.proofs.Spinning.{set_framed, block_held, column_held, column_alike}

-- ---- bars of a rising list

rises_from : (bars : List Bar) (least a n : ℕ) → RiseFrom least bars a n → (bar : Bar)
    → Contains bars bar
    → (least ≤ place_of bar.low a n) × (place_of bar.low a n < place_of bar.high a n)
unfolding RiseFrom
rises_from [] least a n rising bar has = absurd (omega (arith, has.1))
rises_from (first ∷ bars) least a n rising bar (zero, below, is) = search rules
rises_from (first ∷ bars) least a n rising bar (suc k, below, is) =
    let rest = rises_from bars _ a n rising.2 bar (k, omega (arith, below), is) in
    let low = rest.0 in
    let start = rising.0 in
    let filled = rising.1 in
    (omega arith, rest.1)

-- Two of its bars that hold one end are one.
one_bar : (bars : List Bar) (least a n : ℕ) → RiseFrom least bars a n → (bar other : Bar)
    → Contains bars bar → Contains bars other → (b : ℕ) → BarHolds bar a b n
    → BarHolds other a b n → bar ≡ other
unfolding RiseFrom
one_bar [] least a n rising bar other has has' b h h' = absurd (omega (arith, has.1))
one_bar (first ∷ bars) least a n rising bar other (zero, below, is) (zero, below', is') b h h' =
    sym is ∙ is'
one_bar (first ∷ bars) least a n rising bar other (zero, below, is) (suc k, below', is') b h h' =
    search (rules, rises_from, rising.2, h'.low)
one_bar (first ∷ bars) least a n rising bar other (suc k, below, is) (zero, below', is') b h h' =
    search (rules, rises_from, rising.2, h.low)
one_bar (first ∷ bars) least a n rising bar other (suc k, below, is) (suc j, below', is') b h h' =
    one_bar bars _ a n rising.2 bar other (k, omega (arith, below), is)
    (j, omega (arith, below'), is') b h h'

-- A bar that is not empty holds, in a unit twice as fine, what stands at its low end.
holds_low : (bar : Bar) (a n : ℕ) → place_of bar.low a n < place_of bar.high a n
    → BarHolds bar (2 * a) (place_of bar.low a n) (2 * n)
holds_low bar a n less = record {
  low = (low_finer bar.low a n (place_of bar.low a n)).1 (le_refl (place_of bar.low a n));
  high = (high_finer bar.high a n (place_of bar.low a n)).1 less;
}

-- ---- a pair of a strip zone

run_pair : (M : Pairs) (bars : List Bar) (from until : ℕ) (bar : Bar)
    → IsProfile M bars from until → from < until → Contains bars bar
    → IsInBlock M bars from until bar (2 * (2 * from + 1))
    (place_of bar.low (2 * from + 1) 2) 4
run_pair M bars from until bar profile less has =
    let own = profile.each (2 * from + 1) 2 (omega arith) (inr (omega arith, omega arith)) in
    let filled = (rises_from bars 0 (2 * from + 1) 2 own.rising bar has).1 in
    record {
      begins = record {
        low = omega arith;
        high = omega arith;
        first = λ e. absurd (omega arith);
        last = λ e. absurd (omega arith);
      };
      ends = holds_low bar (2 * from + 1) 2 filled;
    }

time_pair : (M : Pairs) (bars : List Bar) (time : ℕ) (bar : Bar) → IsProfile M bars time time
    → Contains bars bar
    → IsInColumn time bar (2 * (time * 1)) (place_of bar.low (time * 1) 1) 2
time_pair M bars time bar profile has =
    let own = profile.each (time * 1) 1 (omega arith) (inl (refl, refl)) in
    let filled = (rises_from bars 0 (time * 1) 1 own.rising bar has).1 in
    record { begins = omega arith; ends = holds_low bar (time * 1) 1 filled }

module _ (zones : List ZoneBounds) (canonical : AreCanonical zones) where
  pub strip_some : (zone : ZoneBounds) → IsStripZone (SetHolds zones) zone → HoldsSome zone
  strip_some zone (of_run bars from until bar run has is) =
      let a : ℕ = 2 * (2 * from + 1) in
      let b : ℕ = place_of bar.low (2 * from + 1) 2 in
      let pair = run_pair (SetHolds zones) bars from until bar run.profile run.rising has in
      let frame = set_framed zones canonical a b 4 (omega arith)
      (block_held (SetHolds zones) bars from until bar run.profile has a b 4 (omega arith) pair) in
      record {
        a = a;
        b = b;
        n = 4;
        some = omega arith;
        rising = frame.rising;
        held = (is.exact a b 4 (omega arith) frame.rising).1 pair;
      }
  strip_some zone (of_time bars time bar alone own has is) =
      let a : ℕ = 2 * (time * 1) in
      let b : ℕ = place_of bar.low (time * 1) 1 in
      let pair = time_pair (SetHolds zones) bars time bar own has in
      let frame = set_framed zones canonical a b 2 (omega arith)
      (column_held (SetHolds zones) bars time bar own has a b 2 (omega arith) pair) in
      record {
        a = a;
        b = b;
        n = 2;
        some = omega arith;
        rising = frame.rising;
        held = (is.exact a b 2 (omega arith) frame.rising).1 pair;
      }

-- ---- two strip zones

module _ (zones : List ZoneBounds) (canonical : AreCanonical zones) where
  -- Two runs that share a time between whole ones are one.
  runs_same : (bars others : List Bar) (from until start end : ℕ)
      → IsRunOfBars (SetHolds zones) bars from until → IsRunOfBars (SetHolds zones) others start end
      → from ≤ start → start < until → (bars ≡ others) × (from ≡ start) × (until ≡ end)
  runs_same bars others from until start end run run' low high =
      let rises = run.rising in
      let rises' = run'.rising in
      let same : bars ≡ others =
      IsProfile-same (SetHolds zones) bars others start (suc start) (omega arith)
      (IsProfile-part (SetHolds zones) bars from until start (suc start) low (omega arith)
      (omega arith) run.profile)
      (IsProfile-part (SetHolds zones) others start end start (suc start) (omega arith)
      (omega arith) (omega arith) run'.profile) in
      let own = subst (λ (l : List Bar). IsProfile (SetHolds zones) l start end) (sym same)
      run'.profile in
      let whole = IsProfile-join (SetHolds zones) bars from until start end (omega arith) high
      run.profile own in
      let one = run.longest (min from start) (max until end) (omega arith) (omega arith) whole in
      let two = run'.longest (min from start) (max until end) (omega arith) (omega arith)
      (subst (λ (l : List Bar). IsProfile (SetHolds zones) l (min from start) (max until end)) same
      whole) in
      let a = one.0 in
      let b = one.1 in
      let c = two.0 in
      let d = two.1 in
      (same, omega arith, omega arith)

  of_runs : (zone other : ZoneBounds) → IsCanonical zone → IsCanonical other
      → Includes zone other
      → (bars : List Bar) (from until : ℕ) (bar : Bar) → IsRunOfBars (SetHolds zones) bars from until
      → Contains bars bar → IsZoneOf zone (IsInBlock (SetHolds zones) bars from until bar)
      → (others : List Bar) (start end : ℕ) (bar' : Bar) → IsRunOfBars (SetHolds zones) others start end
      → Contains others bar' → IsZoneOf other (IsInBlock (SetHolds zones) others start end bar')
      → zone ≡ other
  of_runs zone other is_canonical is_canonical' includes bars from until bar run has is
      others start end bar' run' has' is' =
      let a : ℕ = 2 * (2 * start + 1) in
      let b : ℕ = place_of bar'.low (2 * start + 1) 2 in
      let rises' = run'.rising in
      let pair = run_pair (SetHolds zones) others start end bar' run'.profile run'.rising has' in
      let frame = set_framed zones canonical a b 4 (omega arith)
      (block_held (SetHolds zones) others start end bar' run'.profile has' a b 4 (omega arith) pair)
      in
      let block = (is.exact a b 4 (omega arith) frame.rising).0
      (includes.every a b 4 (omega arith) frame.rising
      ((is'.exact a b 4 (omega arith) frame.rising).1 pair)) in
      let low = block.begins.low in
      let high = block.begins.high in
      let same = runs_same bars others from until start end run run' (omega arith) (omega arith) in
      let rising = (run'.profile.each a 4 (omega arith) (inr (omega arith, omega arith))).rising in
      let one : bar ≡ bar' = one_bar others 0 a 4 rising bar bar'
      (subst (λ (l : List Bar). Contains l bar) same.0 has) has' b block.ends pair.ends in
      same_zone zone other (IsInBlock (SetHolds zones) others start end bar') is_canonical
      is_canonical'
      (subst (λ (x : Bar). IsZoneOf zone (IsInBlock (SetHolds zones) others start end x)) one
      (subst (λ (k : ℕ). IsZoneOf zone (IsInBlock (SetHolds zones) others start k bar)) same.2
      (subst (λ (k : ℕ). IsZoneOf zone (IsInBlock (SetHolds zones) others k until bar)) same.1
      (subst (λ (l : List Bar). IsZoneOf zone (IsInBlock (SetHolds zones) l from until bar)) same.0
      is)))) is'

  of_times : (zone other : ZoneBounds) → IsCanonical zone → IsCanonical other
      → Includes zone other
      → (bars : List Bar) (time : ℕ) (bar : Bar) → IsProfile (SetHolds zones) bars time time
      → Contains bars bar → IsZoneOf zone (IsInColumn time bar)
      → (others : List Bar) (moment : ℕ) (bar' : Bar)
      → IsProfile (SetHolds zones) others moment moment → Contains others bar'
      → IsZoneOf other (IsInColumn moment bar') → zone ≡ other
  of_times zone other is_canonical is_canonical' includes bars time bar own has is
      others moment bar' own' has' is' =
      let a : ℕ = 2 * (moment * 1) in
      let b : ℕ = place_of bar'.low (moment * 1) 1 in
      let pair = time_pair (SetHolds zones) others moment bar' own' has' in
      let frame = set_framed zones canonical a b 2 (omega arith)
      (column_held (SetHolds zones) others moment bar' own' has' a b 2 (omega arith) pair) in
      let column = (is.exact a b 2 (omega arith) frame.rising).0
      (includes.every a b 2 (omega arith) frame.rising
      ((is'.exact a b 2 (omega arith) frame.rising).1 pair)) in
      let at = column.begins in
      let same_time : moment ≡ time = omega arith in
      let there = subst (λ (k : ℕ). IsProfile (SetHolds zones) others k k) same_time own' in
      let same = IsProfile-places (SetHolds zones) others bars time time (2 * time) 2 (omega arith)
      (inl (refl, omega arith)) there own in
      let long = (each_alike others bars (2 * time) 2 same).0 in
      let match : Bar = get_or bars has'.0 bar' in
      let inside : Contains bars match = Contains-get_or bars has'.0 bar' (omega (arith, has'.1)) in
      let alike : (n : ℕ) → StandAlike (time * n) n bar' match = λ n.
      subst (λ (x : Bar). StandAlike (time * n) n x match) has'.2
      ((each_alike others bars (time * n) n (AreSamePlaces-single others bars time n same)).1 has'.0
      bar' bar' has'.1) in
      let moved = column_alike time bar' match a b 2 (alike 2)
      (subst (λ (k : ℕ). IsInColumn k bar' a b 2) same_time pair) in
      let rising = (own.each a 2 (omega arith) (inl (refl, at))).rising in
      let one : match ≡ bar = one_bar bars 0 a 2 rising match bar inside has b moved.ends
      column.ends in
      let like : (n : ℕ) → StandAlike (time * n) n bar' bar = λ n.
      subst (λ (x : Bar). StandAlike (time * n) n bar' x) one (alike n) in
      same_zone zone other (IsInColumn time bar) is_canonical is_canonical' is (record {
        exact = λ a b n some le.
            let each = (subst (λ (k : ℕ). IsZoneOf other (IsInColumn k bar')) same_time is').exact
            a b n some le in
            let is_like = like n in (
              (λ h. column_alike time bar' bar a b n is_like (each.0 h)),
              (λ h. each.1 (column_alike time bar bar' a b n
                  (record { low = sym is_like.low; high = sym is_like.high }) h)),
            );
      })

  pub strips_apart : (zone other : ZoneBounds) → IsCanonical zone → IsCanonical other
      → IsStripZone (SetHolds zones) zone → IsStripZone (SetHolds zones) other
      → Includes zone other → zone ≡ other
  strips_apart zone other is_canonical is_canonical' (of_run bars from until bar run has is)
      (of_run others start end bar' run' has' is') includes = search (rules, of_runs)
  strips_apart zone other is_canonical is_canonical' (of_time bars time bar alone own has is)
      (of_run others start end bar' run' has' is') includes =
      let a : ℕ = 2 * (2 * start + 1) in
      let b : ℕ = place_of bar'.low (2 * start + 1) 2 in
      let pair = run_pair (SetHolds zones) others start end bar' run'.profile run'.rising has' in
      let frame = set_framed zones canonical a b 4 (omega arith)
      (block_held (SetHolds zones) others start end bar' run'.profile has' a b 4 (omega arith) pair)
      in
      let at = ((is.exact a b 4 (omega arith) frame.rising).0
      (includes.every a b 4 (omega arith) frame.rising
      ((is'.exact a b 4 (omega arith) frame.rising).1 pair))).begins in
      absurd (omega arith)
  strips_apart zone other is_canonical is_canonical' (of_run bars from until bar run has is)
      (of_time others moment bar' alone' own' has' is') includes =
      let a : ℕ = 2 * (moment * 1) in
      let b : ℕ = place_of bar'.low (moment * 1) 1 in
      let pair = time_pair (SetHolds zones) others moment bar' own' has' in
      let frame = set_framed zones canonical a b 2 (omega arith)
      (column_held (SetHolds zones) others moment bar' own' has' a b 2 (omega arith) pair) in
      let begins = ((is.exact a b 2 (omega arith) frame.rising).0
      (includes.every a b 2 (omega arith) frame.rising
      ((is'.exact a b 2 (omega arith) frame.rising).1 pair))).begins in
      let low = begins.low in
      let high = begins.high in
      absurd (alone'.none bars from until run (record {
        low = omega arith;
        high = omega arith;
        first = λ e. begins.first (omega arith);
        last = λ e. begins.last (omega arith);
      }))
  strips_apart zone other is_canonical is_canonical' (of_time bars time bar alone own has is)
      (of_time others moment bar' alone' own' has' is') includes = search (rules, of_times)
