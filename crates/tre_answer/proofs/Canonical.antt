-- Where the canonical zones are asked for, an input has one answer.
use Rattle.std.proofs.Common.{◌≡◌, ℕ, ◌<◌, ◌≤◌, Bool, true, List, [], ◌∷◌, length, Option, None, Some, IfSome, IsSomeAnd, ◌↔◌, refl, sym, subst, ap, ◌∙◌, arith}
use Rattle.tre_pairs.specs.Pairs.{Pairs}
use Rattle.tre_show.specs.Order.{IsRising}
use Rattle.tre_answer.proofs.Strips.{AreStrips-pairs}
use Rattle.tre_strips.specs.Listed.{AreListed}
use Rattle.tre_strips.proofs.Listing.{same_listed}
use Rattle.tre_syntax.specs.Rest.{whole, AtomMatches}
use Rattle.tre_syntax.proofs.Atoms.{IsOrdered-Atom, IsInstant-Empty}
use Rattle.tre_syntax.proofs.MeaningLaws.{IsOrdered-Meaning}
use Rattle.tre_tell.specs.Sought.{Sought}
use Rattle.tre_trace.specs.Trace.{Timeline}
use Rattle.tre_zone.specs.declared.zone_bounds.ZoneBounds.{ZoneBounds}
use Rattle.tre_tell.specs.Request.{Request}
use Rattle.tre_answer.specs.Alike.{WantTheSame}
use Rattle.tre_answer.specs.Wanted.{IsWanted, AreZonesOf, AreZonesFor, IsOfflineAnswer, AreTooMany}

one_value : {X : Type 0} {x y : X} → Some x ≡ Some y → x ≡ y
one_value e = cc

are_listed : (normal : Bool) (wanted : Pairs) (zones : List ZoneBounds)
    → AreZonesOf normal wanted zones → AreListed zones
unfolding IsRising
are_listed normal wanted zones of =
    record { rising = of.rising; apart = of.apart; tight = of.tight }

-- what is wanted is rising
some_rising : (patterns : List Sought) (traces : List Timeline) (a b n : ℕ)
    → IsWanted patterns traces a b n → a ≤ b
some_rising (pattern ∷ patterns) (trace ∷ traces) a b n h =
    (IsOrdered-Meaning (AtomMatches (whole trace)) (IsOrdered-Atom (whole trace))
    (IsInstant-Empty (whole trace)) pattern.tree).le a b n h.0
some_rising (pattern ∷ patterns) [] a b n h = absurd h
some_rising [] traces a b n h = absurd h

-- zones for the same pairs are one list
pub one_strips : (normal second : Bool) (wanted sought : Pairs) (zones others : List ZoneBounds)
    → normal ≡ true → second ≡ true → ((a b n : ℕ) → 0 < n → wanted a b n ↔ sought a b n)
    → AreZonesOf normal wanted zones → AreZonesOf second sought others → zones ≡ others
one_strips normal second wanted sought zones others is is' same one other =
    let strips = (AreStrips-pairs wanted sought same zones (one.strips is)).exact in
    let strips' = (other.strips is').exact in
    same_listed zones others (are_listed normal wanted zones one)
    (are_listed second sought others other) (λ zone. (
      (λ has. (strips' zone).1 ((strips zone).0 has)),
      (λ has. (strips zone).1 ((strips' zone).0 has)),
    ))

-- so they are where what is wanted of any traces is the same
pub same_zones : (patterns others : List Sought) (traces seconds : List Timeline)
    (zones strips : List ZoneBounds) → AreZonesOf true (IsWanted patterns traces) zones
    → AreZonesOf true (IsWanted others seconds) strips
    → ((a b n : ℕ) → 0 < n → a ≤ b
    → IsWanted patterns traces a b n ↔ IsWanted others seconds a b n) → zones ≡ strips
same_zones patterns others traces seconds zones strips one other same =
    one_strips true true (IsWanted patterns traces) (IsWanted others seconds) zones strips refl refl
    (λ a b n some. (
      (λ h. (same a b n some (some_rising patterns traces a b n h)).0 h),
      (λ h. (same a b n some (some_rising others seconds a b n h)).1 h),
    )) one other

-- the zones for inputs of which the same is wanted are the same
zones_once : (one other : Request) (bytes others : List ℕ) (zones seconds : List ZoneBounds)
    → WantTheSame one other bytes others → AreZonesFor one bytes zones
    → AreZonesFor other others seconds → zones ≡ seconds
zones_once one other bytes others zones seconds same for for' =
    one_strips one.job.normal other.job.normal (IsWanted one.patterns for.traces)
    (IsWanted other.patterns for'.traces) zones seconds same.normal.0 same.normal.1
    (λ a b n some. (
      (λ h. (same.wanted for.traces for'.traces for.are for'.are a b n some
          (some_rising one.patterns for.traces a b n h)).0 h),
      (λ h. (same.wanted for.traces for'.traces for.are for'.are a b n some
          (some_rising other.patterns for'.traces a b n h)).1 h),
    )) for.found for'.found

pub canonical_text : (one other : Request) (bytes others text second : List ℕ)
    → WantTheSame one other bytes others → IsOfflineAnswer one bytes text
    → IsOfflineAnswer other others second → text ≡ second
canonical_text one other bytes others text second alike for for' =
    let same = zones_once one other bytes others for.zones for'.zones alike for.right for'.right in
    let scale = alike.scale in
    let end = alike.end in
    let printed = for.printed in
    let printed' = for'.printed in
    cc

pub canonical_count : (one other : Request) (bytes others : List ℕ) (count second : ℕ)
    → WantTheSame one other bytes others → AreTooMany one bytes count
    → AreTooMany other others second → count ≡ second
canonical_count one other bytes others count second alike are are' =
    let same = zones_once one other bytes others are.zones are'.zones alike are.right are'.right in
    sym are.counted ∙ (ap length same ∙ are'.counted)

few_or_many : (most limit : Option ℕ) (zones count : ℕ) → most ≡ limit → zones ≡ count
    → IfSome most (λ limit. zones ≤ limit) → IsSomeAnd limit (λ limit. limit < count) → ⊥
few_or_many most None zones count one same few many = many
few_or_many None (Some limit) zones count one same few many = cc
few_or_many (Some most) (Some limit) zones count one same few many =
    let equal : most ≡ limit = one_value one in
    omega (arith, same, few, many, equal)

pub never_both : (one other : Request) (bytes others text : List ℕ) (count : ℕ)
    → WantTheSame one other bytes others → IsOfflineAnswer one bytes text
    → AreTooMany other others count → ⊥
never_both one other bytes others text count alike for many =
    let same = zones_once one other bytes others for.zones many.zones alike for.right many.right in
    few_or_many one.job.max_zones other.job.max_zones (length for.zones) count alike.most
    (ap length same ∙ many.counted) for.few many.many

-- a request wants of one input what it wants
pub same_itself : (request : Request) (bytes : List ℕ) → request.job.normal ≡ true
    → WantTheSame request request bytes bytes
same_itself request bytes normal = record {
  normal = (normal, normal);
  scale = refl;
  most = refl;
  end = refl;
  wanted = λ traces seconds are are' a b n some le.
      let same : traces ≡ seconds = are.are ∙ sym are'.are in (
        (λ h. subst (λ (list : List Timeline). IsWanted request.patterns list a b n) same h),
        (λ h. subst (λ (list : List Timeline). IsWanted request.patterns list a b n) (sym same) h),
      );
}
