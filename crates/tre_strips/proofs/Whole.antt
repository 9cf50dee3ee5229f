-- At the end of the pass all strips are found, and hold exactly the pairs.
use Rattle.std.proofs.Common.{◌≡◌, ◌≢◌, ℕ, ◌-◌, ◌*◌, ◌<◌, ◌≤◌, ◌⊎◌, ◌↔◌, Bool, true, List, [], ◌∷◌, refl, ap, subst, ◌∙◌, arith, inl, inr, ⊎_elim, mul-le-mul_right, rules}
use Rattle.std.specs.Prelude.{All, Contains}
use Rattle.std.specs.List.Sorted.{IsNonDecreasingBy, IsPermutation}
use Rattle.std.proofs.lemmas.List.Elements.{All-cons, All-nil, All-head, All-tail}
use Rattle.std.proofs.lemmas.List.Sorted.{All-permutation}
use Rattle.std.proofs.lemmas.Bool.{cases_eq, cases_lt}
use Rattle.tre_pairs.specs.Pairs.{Pairs}
use Rattle.tre_pairs.specs.declared.TheConstants.{TIME_MAX}
use Rattle.tre_zone.specs.Zone.{ZoneHolds, IsCanonical, IsZoneOf}
use Rattle.tre_zone.specs.ZoneList.{SetHolds, AreCanonical}
use Rattle.tre_zone.specs.declared.zone_bounds.ZoneBounds.{ZoneBounds}
use Rattle.tre_zoneset.proofs.Members.{SetHolds-any}
use Rattle.tre_zoneset.proofs.Thinning.{SetHolds-permutation}
use Rattle.tre_strips.specs.Bar.{place_of, BarsHold, RiseFrom}
use Rattle.tre_strips.specs.Profile.{IsProfile}
use Rattle.tre_strips.specs.Runs.{IsRunOfBars, IsAlone, IsInBlock, IsInColumn}
use Rattle.tre_strips.specs.Strips.{IsStripZone, of_run, of_time}
use Rattle.tre_strips.specs.Spun.{IsSpun, HaveSamePairs, AreFound}
use Rattle.tre_strips.specs.Sweep.{begin_of, BeginInTurn, IsColumn}
use Rattle.tre_strips.specs.declared.bar.Bar.{Bar}
use Rattle.tre_strips.specs.declared.column.Column.{Column}
use Rattle.tre_strips.proofs.Lists.{BarsHold-none}
use Rattle.tre_strips.proofs.Unique.{IsProfile-same, covers_held}
use Rattle.tre_strips.proofs.Runs.{IsProfile-part}
use Rattle.tre_strips.proofs.Spinning.{set_framed, block_held, column_held}

-- ---- sets with the same pairs

pub IsProfile-pairs : (M N : Pairs) → ((a b n : ℕ) → 0 < n → M a b n ↔ N a b n)
    → (bars : List Bar) (from until : ℕ) → IsProfile M bars from until
    → IsProfile N bars from until
IsProfile-pairs M N same bars from until profile = record {
  each = λ a n some inside.
      let own = profile.each a n some inside in
      record {
        rising = own.rising;
        exact = λ b.
            let one = own.exact b in
            let both = same a b n some in
            ((λ h. both.0 (one.0 h)), (λ h. one.1 (both.1 h)));
      };
}

pub IsColumn-same : (set zones : List ZoneBounds) (column : Column) → HaveSamePairs set zones
    → IsColumn (SetHolds zones) column → IsColumn (SetHolds set) column
IsColumn-same set zones column same is =
    search (rules, IsProfile-pairs, same.same, column.there.items, column.time, column.behind.items)

-- ---- bars without a pair

no_bars : (bars : List Bar) (a n : ℕ) → RiseFrom 0 bars a n
    → ((p : ℕ) → BarsHold bars (2 * a) p (2 * n) → ⊥) → bars ≡ []
unfolding RiseFrom
no_bars [] a n rising none = refl
no_bars (bar ∷ bars) a n rising none =
    absurd (none (place_of bar.low a n)
    ((covers_held (bar ∷ bars) a n (place_of bar.low a n)).1 (inl (omega arith, rising.1))))

-- No profile has bars over a time at which no pair begins.
no_bars_at : (M : Pairs) (bars : List Bar) (time : ℕ) → IsProfile M bars time time
    → ((b n : ℕ) → 0 < n → M (time * n) b n → ⊥) → bars ≡ []
no_bars_at M bars time own none =
    let one : time * 1 ≡ time = omega arith in
    no_bars bars (time * 1) 1 (own.each (time * 1) 1 (omega arith) (inl (refl, refl))).rising
    (λ p h.
    let twice : 2 * (time * 1) ≡ time * 2 = omega arith in
    none p 2 (omega arith) (subst (λ (k : ℕ). M k p 2) twice
    (((own.each (2 * (time * 1)) 2 (omega arith) (inl (refl, twice))).exact p).0 h)))

module _ (zones : List ZoneBounds) (canonical : AreCanonical zones) where
  pub strip_held : (zone : ZoneBounds) → IsStripZone (SetHolds zones) zone → (a b n : ℕ) → 0 < n
      → a ≤ b → ZoneHolds zone a b n → SetHolds zones a b n
  strip_held zone (of_run others start end bar run has is) a b n some le h =
      block_held (SetHolds zones) others start end bar run.profile has a b n some
      ((is.exact a b n some le).0 h)
  strip_held zone (of_time others moment bar alone own has is) a b n some le h =
      column_held (SetHolds zones) others moment bar own has a b n some
      ((is.exact a b n some le).0 h)

  none_past : (a b n : ℕ) → 0 < n → TIME_MAX * n < a → SetHolds zones a b n → ⊥
  none_past a b n some past h = search (rules, set_framed)

  -- Nor over times past all that can be named.
  no_bars_past : (bars : List Bar) (from until : ℕ) → from < until → TIME_MAX < until
      → IsProfile (SetHolds zones) bars from until → bars ≡ []
  no_bars_past bars from until less past profile =
      no_bars bars (2 * until - 1) 2
      (profile.each (2 * until - 1) 2 (omega arith) (inr (omega arith, omega arith))).rising
      (λ p h. none_past (2 * (2 * until - 1)) p 4 (omega arith) (omega arith)
      (((profile.each (2 * (2 * until - 1)) 4 (omega arith)
      (inr (omega arith, omega arith))).exact p).0 h))

  no_bar : (bars : List Bar) (bar : Bar) → bars ≡ [] → Contains bars bar → ⊥
  no_bar bars bar e has = search rules

  module _ (bars : List Bar) (from : ℕ) (takes : Bool) (found : List ZoneBounds) (time : ℕ)
      (spun : IsSpun zones bars from takes found time) (past : TIME_MAX < time) where
    last_empty : bars ≡ []
    last_empty = no_bars_past bars from time spun.rising past spun.profile

    holds_none : (a b n : ℕ) → BarsHold bars a b n → ⊥
    holds_none a b n h =
        BarsHold-none a b n (subst (λ (l : List Bar). BarsHold l a b n) last_empty h)

    -- Behind the last run's first time nothing begins, nor at it where the run takes it.
    begins_none : (a b n : ℕ) → 0 < n → SetHolds zones a b n
        → (from * n < a) ⊎ ((a ≡ from * n) × (takes ≡ true)) → ⊥
    begins_none a b n some h where_it = ⊎_elim
        (λ behind. ⊎_elim
        (λ (within : a < time * n).
        holds_none a b n (((spun.profile.each a n some (inr (behind, within))).exact b).1 h))
        (λ (above : time * n ≤ a).
        let wide = mul-le-mul_right n past in
        none_past a b n some (omega arith) h)
        (cases_lt a (time * n)))
        (λ x.
        let fits = spun.takes.0 x.1 in
        holds_none (from * n) b n
        ((fits.exact b n some).1 (subst (λ (k : ℕ). SetHolds zones k b n) x.0 h))) where_it

    found_run : (others : List Bar) (start end : ℕ) (bar : Bar) (zone : ZoneBounds)
        → IsRunOfBars (SetHolds zones) others start end → Contains others bar → IsCanonical zone
        → IsZoneOf zone (IsInBlock (SetHolds zones) others start end bar) → Contains found zone
    found_run others start end bar zone run has is_canonical is =
        let rises = run.rising in
        ⊎_elim (λ (early : start < from).
        spun.runs others start end bar zone run early has is_canonical is)
        (λ (late : from ≤ start).
        ⊎_elim (λ (far : TIME_MAX < end).
        absurd (no_bar others bar (no_bars_past others start end rises far run.profile) has))
        (λ (near : end ≤ TIME_MAX).
        let same : others ≡ bars = IsProfile-same (SetHolds zones) others bars start end rises
        run.profile (IsProfile-part (SetHolds zones) bars from time start end late (omega arith)
        rises spun.profile) in
        absurd (no_bar others bar (same ∙ last_empty) has))
        (cases_lt TIME_MAX end))
        (cases_lt start from)

    found_time : (others : List Bar) (moment : ℕ) (bar : Bar) (zone : ZoneBounds)
        → IsAlone (SetHolds zones) moment → IsProfile (SetHolds zones) others moment moment
        → Contains others bar → IsCanonical zone → IsZoneOf zone (IsInColumn moment bar)
        → Contains found zone
    found_time others moment bar zone alone own has is_canonical is =
        ⊎_elim (λ (behind : from < moment).
        absurd (no_bar others bar (no_bars_at (SetHolds zones) others moment own
        (λ b n some h.
        let wide = mul-le-mul_right n behind in
        begins_none (moment * n) b n some h (inl (omega arith)))) has))
        (λ (early : moment ≤ from).
        spun.alone others moment bar zone alone own early
        (λ e t. no_bar others bar (no_bars_at (SetHolds zones) others moment own
        (λ b n some h. begins_none (moment * n) b n some h (inr (ap (λ k. k * n) e, t)))) has)
        has is_canonical is)
        (cases_lt from moment)

    complete : (zone : ZoneBounds) → IsCanonical zone × IsStripZone (SetHolds zones) zone
        → Contains found zone
    complete zone (is_canonical, of_run others start end bar run has is) =
        found_run others start end bar zone run has is_canonical is
    complete zone (is_canonical, of_time others moment bar alone own has is) =
        found_time others moment bar zone alone own has is_canonical is

    held_back : (a b n : ℕ) → 0 < n → SetHolds zones a b n → SetHolds found a b n
    held_back a b n some h =
        ⊎_elim (λ (early : a < from * n). spun.held a b n some h (inl early))
        (λ (late : from * n ≤ a).
        ⊎_elim (λ (is : a ≡ from * n).
        spun.held a b n some h (inr (is, λ t. begins_none a b n some h (inr (is, t)))))
        (λ (differs : a ≢ from * n).
        absurd (begins_none a b n some h (inl (omega arith))))
        (cases_eq a (from * n)))
        (cases_lt a (from * n))

    pub AreFound-spun : AreFound zones found
    AreFound-spun = record {
      exact = λ zone. ((λ has. spun.sound zone has), (λ is. complete zone is));
      held = record {
        exact = λ a b n some le. (
          (λ h.
              let any = (SetHolds-any found a b n).0 h in
              strip_held any.1 (spun.sound any.1 (any.0, any.2, any.3)).1 a b n some le any.4),
          (λ h. held_back a b n some h),
        );
      };
    }

-- ---- zones in the order of their begins

canonical_each : (zones : List ZoneBounds) → AreCanonical zones → All IsCanonical zones
unfolding AreCanonical
canonical_each [] all = All-nil IsCanonical
canonical_each (zone ∷ zones) all =
    All-cons IsCanonical zone zones all.0 (canonical_each zones all.1)

canonical_again : (zones : List ZoneBounds) → All IsCanonical zones → AreCanonical zones
unfolding AreCanonical
canonical_again [] each = tt
canonical_again (zone ∷ zones) each = (
  All-head IsCanonical zone zones each,
  canonical_again zones (All-tail IsCanonical zone zones each),
)

pub AreInTurn-sorted : (zones sorted : List ZoneBounds) → IsPermutation zones sorted
    → AreCanonical zones → IsNonDecreasingBy begin_of sorted → BeginInTurn sorted
AreInTurn-sorted zones sorted order canonical rising =
    search (rules, canonical_again, All-permutation, canonical_each)

pub HaveSamePairs-permutation : (zones sorted : List ZoneBounds) → IsPermutation zones sorted
    → HaveSamePairs zones sorted
HaveSamePairs-permutation zones sorted order = search (rules, SetHolds-permutation)
