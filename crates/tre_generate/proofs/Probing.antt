-- Probes, as a loop over the segments makes them.
use Rattle.std.proofs.Common.{◌≡◌, ℕ, zero, suc, ◌+◌, ◌*◌, ◌<◌, ◌≤◌, ◌↔◌, List, [], ◌∷◌, ◌++◌, length, get_or, take, drop, refl, sym, ap, subst, ◌∙◌, add-one, arith}
use Rattle.std.proofs.lemmas.List.{take_more, take-append-drop}
use Rattle.tre_pairs.specs.Pairs.{Pairs}
use Rattle.tre_pairs.specs.declared.TheConstants.{TIME_MAX}
use Rattle.tre_pairs.proofs.Scaling.{moved}
use Rattle.tre_trace.specs.Trace.{end_of, IsTrace}
use Rattle.tre_trace.specs.declared.segment.Segment.{Segment}
use Rattle.tre_trace.proofs.Segments.{end_of-append, end_of-le, place-in_time}
use Rattle.tre_zone.specs.ZoneList.{SetHolds}
use Rattle.tre_zone.specs.declared.zone_bounds.ZoneBounds.{ZoneBounds}
use Rattle.tre_generate.specs.Probes.{probe_begin, probe_end, ProbeIsInside, IsProbed}
use Rattle.tre_generate.specs.Tallies.{AgreeOnPair, IsTallied, IsTally}
use Rattle.tre_generate.specs.declared.tally.Probe.{Probe}
use Rattle.tre_generate.specs.declared.tally.Tally.{Tally}
use Rattle.tre_generate.proofs.Counts.{counted_along, count_next}

module _ (segments : List Segment) (place begin : ℕ) (d : Segment)
    (below : place < length segments) (begin_is : begin ≡ end_of 0 (take place segments)) where
  -- the segment at the place ends in time
  pub place_fits : IsTrace segments → begin + (get_or segments place d).len ≤ TIME_MAX
  place_fits trace =
      let whole : end_of 0 (take place segments ++ drop place segments) ≡ end_of 0 segments =
      ap (end_of 0) (take-append-drop place segments) in
      let left : end_of begin (drop place segments) ≡ end_of 0 segments =
      ap (λ (t : ℕ). end_of t (drop place segments)) begin_is
      ∙ sym (end_of-append 0 (take place segments) (drop place segments)) ∙ whole in
      place-in_time segments place begin d below left trace

  -- where it ends, the next one begins
  pub place_next : begin + (get_or segments place d).len ≡ end_of 0 (take (place + 1) segments)
  place_next =
      ap (λ (t : ℕ). t + (get_or segments place d).len) begin_is
      ∙ sym (ap (end_of 0) (take_more segments place d below)
      ∙ end_of-append 0 (take place segments) (get_or segments place d ∷ []))

end_of-take : (segments : List Segment) (place start : ℕ)
    → end_of start (take place segments) ≤ end_of start (take (suc place) segments)
end_of-take [] zero start = omega arith
end_of-take [] (suc place) start = omega arith
end_of-take (segment ∷ segments) zero start = end_of-le start (segment ∷ [])
end_of-take (segment ∷ segments) (suc place) start =
    end_of-take segments place (start + segment.len)

pub probe_rises : (segments : List Segment) (place : ℕ)
    → probe_begin segments place ≤ probe_end segments place
probe_rises segments place =
    let rising : end_of 0 (take place segments) ≤ end_of 0 (take (place + 1) segments) =
    rw (add-one place) (end_of-take segments place 0) in
    omega (arith, rising)

module _ (segments : List Segment) (place begin end last : ℕ)
    (begin_is : begin ≡ probe_begin segments place) (end_is : end ≡ probe_end segments place)
    (last_is : last ≡ 2 * end_of 0 segments) where
  inside_is : (end ≤ last) ↔ ProbeIsInside segments place
  inside_is = (
    (λ h. record {
      end = subst (λ (x : ℕ). x ≤ 2 * end_of 0 segments) end_is
          (subst (λ (x : ℕ). end ≤ x) last_is h);
    }),
    (λ h. subst (λ (x : ℕ). end ≤ x) (sym last_is)
        (subst (λ (x : ℕ). x ≤ 2 * end_of 0 segments) (sym end_is) h.end)),
  )

  probed_is : (R : Pairs) → ((end ≤ last) × R begin end 2) ↔ IsProbed R segments place
  probed_is R = (
    (λ h. record {
      inside = inside_is.0 h.0;
      related = moved R begin_is end_is refl h.1;
    }),
    (λ h. (inside_is.1 h.inside, moved R (sym begin_is) (sym end_is) refl h.related)),
  )

-- The tally of one more place.
pub tally_next : (whole told : List ZoneBounds) (segments : List Segment) (place begin end last : ℕ)
    (probe : Probe) (before after : Tally) → begin ≡ end_of 0 (take place segments)
    → end ≡ end_of 0 (take (place + 1) segments) → last ≡ 2 * end_of 0 segments
    → probe.begin ≡ 2 * begin → probe.end ≡ 2 * end + 3
    → IsTally whole told segments place before → IsTallied whole told probe last before after
    → IsTally whole told segments (place + 1) after
tally_next whole told segments place begin end last probe before after begin_is end_is last_is
    from to tally tallied =
    let probe_begin_is : probe.begin ≡ probe_begin segments place =
    from ∙ ap (λ (t : ℕ). 2 * t) begin_is in
    let probe_end_is : probe.end ≡ probe_end segments place =
    to ∙ ap (λ (t : ℕ). 2 * t + 3) end_is in
    let inside = inside_is segments place probe.begin probe.end last probe_begin_is probe_end_is
    last_is in
    let probed = probed_is segments place probe.begin probe.end last probe_begin_is probe_end_is
    last_is in
    record {
      probes = count_next (ProbeIsInside segments) place before.probes after.probes tally.probes
          (counted_along inside before.probes after.probes tallied.probes);
      held = count_next (IsProbed (SetHolds whole) segments) place before.held after.held tally.held
          (counted_along (probed (SetHolds whole)) before.held after.held tallied.held);
      alike = count_next (IsProbed (AgreeOnPair (SetHolds whole) (SetHolds told)) segments) place
          before.alike after.alike tally.alike
          (counted_along (probed (AgreeOnPair (SetHolds whole) (SetHolds told))) before.alike
          after.alike tallied.alike);
    }

-- Relations that have the same pairs have the same probes.
pub probed_along : (R S : Pairs) → ((a b n : ℕ) → 0 < n → a ≤ b → R a b n ↔ S a b n)
    → (segments : List Segment) (place : ℕ) → IsProbed R segments place ↔ IsProbed S segments place
probed_along R S same segments place =
    let two : 0 < 2 = omega arith in
    let at = same (probe_begin segments place) (probe_end segments place) 2 two
    (probe_rises segments place) in (
      (λ h. record { inside = h.inside; related = at.0 h.related }),
      (λ h. record { inside = h.inside; related = at.1 h.related }),
    )

-- A relation that has every pair has the probes that count.
pub probed_all : (R : Pairs) → ((a b n : ℕ) → 0 < n → a ≤ b → R a b n)
    → (segments : List Segment) (place : ℕ) → IsProbed R segments place ↔ ProbeIsInside segments place
probed_all R all segments place = (
  (λ h. h.inside),
  (λ h. record {
    inside = h;
    related = all (probe_begin segments place) (probe_end segments place) 2 (omega arith)
        (probe_rises segments place);
  }),
)
