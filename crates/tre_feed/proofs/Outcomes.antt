-- What the bytes of an input come to, and what all bytes of it say.
use Rattle.std.proofs.Common.{◌≡◌, ◌∙◌, ◌-◌, ◌<◌, ◌≤◌, ℕ, nat_le, Bool, true, false, List, [], ◌++◌, length, take, Option, None, Some, IfSome, refl, sym, ap, subst, arith, length-append, append-nil, rules}
use Rattle.std.proofs.lemmas.Bool.Decides.{nat_tests}
use Rattle.std.proofs.lemmas.List.{take-append-le}
use Rattle.std.proofs.KnownBytes.{Consumes-whole}
use Rattle.std.specs.Io.KnownBytes.{Consumes, IsAtEnd}
use Rattle.tre_trace.specs.Reading.{Recording, Grows}
use Rattle.tre_trace.specs.declared.fault.TraceFault.{TraceFault}
use Rattle.tre_feed.specs.Comes.{InputComesTo, Outcome, refuses, exceeds, outcome_of, outcome_from, recording_within}
use Rattle.tre_feed.specs.Input.{InputTold}
use Rattle.tre_feed.proofs.Cuts.{take-over, take_split}

pub within : (count limit : ℕ) → count ≤ limit → nat_le count limit ≡ true
within count limit h = grind (arith, nat_tests)

pub beyond : (count limit : ℕ) → limit < count → nat_le count limit ≡ false
beyond count limit h = grind (arith, nat_tests)

-- nothing is taken back when more bytes come
abbrev pub GrowsOn : (Bool → List ℕ → Recording) → Type 0
GrowsOn recording = (closed : Bool) (first more : List ℕ)
    → Grows (recording false first) (recording closed (first ++ more))

refused : (closed : Bool) (recording : Recording) (fault : TraceFault)
    → recording.fault ≡ Some fault → outcome_from closed recording.fault ≡ refuses fault
refused closed recording fault e = rw e refl

too_long : (recording : Recording) → recording.fault ≡ None
    → outcome_from false recording.fault ≡ exceeds
too_long recording e = rw e refl

-- what is so of the bytes that were read, whatever follows, is so of the whole input
pub IfSome-front : (file left : Option (List ℕ)) (taken : List ℕ) (P : List ℕ → Type 0)
    → Consumes file left taken → ((rest : List ℕ) → P (taken ++ rest)) → IfSome file P
IfSome-front None left taken P front all = tt
IfSome-front (Some whole) None taken P front all = absurd front
IfSome-front (Some whole) (Some rest) taken P front all = subst P (sym front) (all rest)

module _ (recording : Bool → List ℕ → Recording) (limit : ℕ) where
  -- a fault within the limit ends the recording, whatever follows
  fault_within : GrowsOn recording → (taken rest : List ℕ) (fault : TraceFault)
      → (recording false (take limit taken)).fault ≡ Some fault
      → recording_within recording limit (taken ++ rest) ≡ recording false (take limit taken)
  fault_within grows taken rest fault told = search (rules, take_split)

  -- so do more bytes than the limit
  exceed_within : (taken rest : List ℕ) → limit < length taken
      → recording_within recording limit (taken ++ rest) ≡ recording false (take limit taken)
  exceed_within taken rest over =
      let longer : limit < length (taken ++ rest) = omega (arith, over, length-append taken rest) in
      let inside : limit ≤ length taken = omega (arith, over) in
      rw (
        beyond (length (taken ++ rest)) limit longer,
        take-append-le limit taken rest inside,
      ) refl

  -- all bytes, closed
  closed_within : (bytes : List ℕ) → length bytes ≤ limit
      → recording_within recording limit bytes ≡ recording true bytes
  closed_within bytes inside =
      rw (within (length bytes) limit inside, take-over limit bytes inside) refl

  -- a fault is what they come to
  refuses_here : (bytes : List ℕ) (now : Recording) (fault : TraceFault)
      → recording_within recording limit bytes ≡ now → now.fault ≡ Some fault
      → outcome_of recording limit bytes ≡ refuses fault
  unfolding outcome_of
  refuses_here bytes now fault same told = search rules

  -- no fault, and more bytes than the limit
  exceeds_here : (bytes : List ℕ) (now : Recording)
      → recording_within recording limit bytes ≡ now → now.fault ≡ None → limit < length bytes
      → outcome_of recording limit bytes ≡ exceeds
  unfolding outcome_of
  exceeds_here bytes now same none over = search rules

  module _ (input : InputTold) (taken : List ℕ)
      (front : Consumes input.before.file input.now.left taken) where
    -- whatever is left
    comes_front : (outcome : Outcome) (said : Recording)
        → ((rest : List ℕ) → recording_within recording limit (taken ++ rest) ≡ said)
        → ((rest : List ℕ) → outcome_of recording limit (taken ++ rest) ≡ outcome)
        → InputComesTo recording limit input outcome said.stretches
    comes_front outcome said same comes = record {
      bytes = taken;
      front = front;
      comes = rw (append-nil taken) at (comes []);
      here = ap (λ (r : Recording). r.stretches) (rw (append-nil taken) at (same []));
      whole = IfSome-front input.before.file input.now.left taken _ front comes;
      same = IfSome-front input.before.file input.now.left taken _ front
          (λ rest. ap (λ (r : Recording). r.stretches) (same rest));
    }

    -- what was read has a fault
    pub comes_fault : GrowsOn recording → (fault : TraceFault)
        → (recording false (take limit taken)).fault ≡ Some fault
        → InputComesTo recording limit input (refuses fault)
        (recording false (take limit taken)).stretches
    comes_fault grows fault told = comes_front (refuses fault) (recording false (take limit taken))
        (λ rest. fault_within grows taken rest fault told)
        (λ rest. refuses_here (taken ++ rest) _ fault (fault_within grows taken rest fault told)
        told)

    -- it has none, and is more than the limit
    pub comes_exceeds : limit < length taken → (recording false (take limit taken)).fault ≡ None
        → InputComesTo recording limit input exceeds (recording false (take limit taken)).stretches
    comes_exceeds over none = comes_front exceeds (recording false (take limit taken))
        (λ rest. exceed_within taken rest over)
        (λ rest. exceeds_here (taken ++ rest) _ (exceed_within taken rest over) none
        (omega (arith, over, length-append taken rest)))

    -- it is the whole input, and has a fault at its end
    pub comes_end : (fault : TraceFault) → IsAtEnd input.now.left → length taken ≤ limit
        → (recording true taken).fault ≡ Some fault
        → InputComesTo recording limit input (refuses fault) (recording true taken).stretches
    comes_end fault all inside told =
        let same = closed_within taken inside in
        let comes = refuses_here taken _ fault same told in
        let here = ap (λ (r : Recording). r.stretches) same in
        record {
          bytes = taken;
          front = front;
          comes = comes;
          here = here;
          whole = Consumes-whole input.before.file input.now.left taken _ front all comes;
          same = Consumes-whole input.before.file input.now.left taken _ front all here;
        }

-- the bytes that were fed, with one more piece
pub fed_more : (limit : ℕ) (taken piece : List ℕ) → length taken ≤ limit
    → taken ++ take (limit - length taken) piece ≡ take limit (taken ++ piece)
fed_more limit taken piece inside = sym (take_split limit taken piece
    ∙ ap (λ front. front ++ take (limit - length taken) piece) (take-over limit taken inside))
