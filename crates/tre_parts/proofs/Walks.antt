-- Where a reader is, one part after the other.
use Rattle.std.proofs.Common.{◌≡◌, ◌≢◌, ℕ, ◌+◌, ◌<◌, ◌≤◌, Bool, true, false, List, [], ◌∷◌, ◌++◌, append_assoc, append-nil, length, length-append, Option, None, Some, Result, Ok, Err, refl, sym, ap, subst, ◌∙◌, arith, inl, inr}
use Rattle.std.specs.List.{slice_split}
use Rattle.std.proofs.lemmas.List.Elements.{All-nil, All-append}
use Rattle.std.proofs.lemmas.List.Splits.{slice_split_none, slice_split_at}
use Rattle.tre_parts.specs.Joins.{slice_split-has}
use Rattle.tre_parts.specs.Growing.{more_parts, too_long, short_enough, reading-grows}
use Rattle.tre_parts.specs.Format.{Format, Step, nothing, faulty, ending, behind, read_on, after_part, part_says, last_part, parts_recording, recording_from, recording_of}
use Rattle.tre_parts.specs.Walk.{HasNoSeparator, PartGoesOn, IsAt, AddsPart, IsRefusedPart, IsEnded}
use Rattle.tre_parts.specs.declared.TheConstants.{PART_MAX}
use Rattle.tre_parts.specs.declared.spot.Spot.{Spot}
use Rattle.tre_trace.proofs.Readings.{is_memory, Adds-none, IsRefused-told, IsRefused-memory}
use Rattle.tre_trace.specs.Reading.{Recording, Stretch, Vocabulary, segments_for, events_for, Grows, Adds, IsRefused}
use Rattle.tre_trace.specs.declared.segment.Segment.{Segment}
use Rattle.tre_trace.specs.declared.fault.TraceFault.{TraceFault}
use Rattle.tre_trace.specs.declared.fault.TraceKind.{TraceKind}
use Rattle.tre_trace.specs.declared.fault.TraceKind.TheVariants.{LineTooLong, Memory, Spent}

pub behind-behind : (told stretches : List Stretch) (more : Recording)
    → behind told (behind stretches more)
    ≡ behind (told ++ stretches) more
behind-behind told stretches more = ap
    (λ all. record { stretches = all; last = more.last; fault = more.fault })
    (sym (append_assoc told stretches more.stretches))

-- what bytes say whose first part ends at a separator
pub reading-part : {S : Type 0} (format : Format S) (closed : Bool) (state : S) (spot : Spot)
    (part : List ℕ) (separator : ℕ) (more : List ℕ)
    → HasNoSeparator format.separates part → format.separates separator ≡ true
    → recording_from format closed state spot (part ++ separator ∷ more)
    ≡ read_on (format.place spot) (part_says format state part) (λ now. recording_from format
    closed now (after_part spot (length part)) more)
unfolding recording_from
reading-part format closed state spot part separator more inside ends =
    ap (parts_recording format closed state spot)
    (slice_split_at format.separates part separator more
    inside ends)
    ∙ more_parts format closed state spot part (slice_split format.separates more)
    (slice_split-has format.separates more)

-- what bytes say that are one part
pub reading-last : {S : Type 0} (format : Format S) (closed : Bool) (state : S) (spot : Spot)
    (part : List ℕ) → HasNoSeparator format.separates part
    → recording_from format closed state spot part ≡ last_part format closed state spot part
unfolding recording_from
reading-last format closed state spot part inside = ap (parts_recording format closed state spot)
    (slice_split_none format.separates part inside)

last-open : {S : Type 0} (format : Format S) (state : S) (spot : Spot) (part : List ℕ) → length part
    ≤ PART_MAX → last_part format false state spot part ≡ nothing
last-open format state spot part short = rw (short_enough (length part) PART_MAX short) refl

last-long : {S : Type 0} (format : Format S) (state : S) (spot : Spot) (part : List ℕ) → PART_MAX <
    length part
    → last_part format false state spot part ≡ faulty (format.place spot) LineTooLong
last-long format state spot part long = rw (too_long (length part) PART_MAX long) refl

-- the bytes so far end inside a part
pub at-last : {Reader T S : Type 0} {tm : Reader → T} {fm : T → Format S}
    {hd : Reader → S → Type 0} {terms : T} {reader : Reader} {part : List ℕ}
    {spot : Spot} {bytes : List ℕ}
    → (here : IsAt tm fm hd terms reader part spot bytes) (closed : Bool) (more : List ℕ)
    → HasNoSeparator (fm terms).separates more
    → recording_of (fm terms) closed (bytes ++ more) ≡ behind here.told (last_part (fm terms) closed
    here.state spot (part ++ more))
at-last {fm = fm} {terms = terms} {part = part} {spot = spot} here closed more inside =
    here.follows closed more
    ∙ ap (behind here.told) (reading-last (fm terms) closed here.state spot (part ++ more)
    (All-append (λ byte. (fm terms).separates byte ≡ false) part more here.inside inside))

pub at-nothing : {Reader T S : Type 0} {tm : Reader → T} {fm : T → Format S}
    {hd : Reader → S → Type 0} {terms : T} {reader : Reader} {part : List ℕ}
    {spot : Spot} {bytes : List ℕ}
    → (here : IsAt tm fm hd terms reader part spot bytes) → recording_of (fm terms) false bytes
    ≡ record { stretches = here.told; last = λ name. false; fault = None }
at-nothing {fm = fm} {terms = terms} {part = part} {spot = spot} {bytes = bytes} here =
    ap (recording_of (fm terms) false) (sym (append-nil bytes))
    ∙ at-last here false [] (All-nil (λ byte. (fm terms).separates byte ≡ false))
    ∙ ap (behind here.told) (ap (last_part (fm terms) false here.state spot) (append-nil part)
    ∙ last-open (fm terms) here.state spot part here.short)
    ∙ ap (λ stretches. record { stretches = stretches; last = λ name. false; fault = None })
    (append-nil here.told)

-- A separator came behind `front`: the part is the one that was kept and `front`.
follows-ended : {Reader T S : Type 0} {tm : Reader → T} {fm : T → Format S}
    {hd : Reader → S → Type 0} {terms : T} {reader : Reader} {part : List ℕ}
    {spot : Spot} {bytes : List ℕ}
    → (here : IsAt tm fm hd terms reader part spot bytes) (whole front : List ℕ) (separator : ℕ)
    → whole ≡ part ++ front
    → HasNoSeparator (fm terms).separates front → (fm terms).separates separator ≡ true → (closed : Bool)
    (more : List ℕ)
    → recording_of (fm terms) closed ((bytes ++ (front ++ separator ∷ [])) ++ more)
    ≡ behind here.told (read_on ((fm terms).place spot) (part_says (fm terms) here.state whole)
    (λ now. recording_from (fm terms) closed now (after_part spot (length whole)) more))
follows-ended {fm = fm} {terms = terms} {part = part} {spot = spot} {bytes = bytes} here whole front
    separator is inside ends closed more =
    let f = fm terms in
    let all : HasNoSeparator f.separates (part ++ front) = All-append (λ byte. f.separates byte ≡ false)
    part front here.inside inside in
    ap (recording_of f closed) (append_assoc bytes (front ++ separator ∷ []) more
    ∙ ap (λ rest. bytes ++ rest) (append_assoc front (separator ∷ []) more))
    ∙ here.follows closed (front ++ separator ∷ more)
    ∙ ap (λ rest. behind here.told (recording_from f closed here.state spot rest))
    (sym (append_assoc part front (separator ∷ more)))
    ∙ rw is (ap (behind here.told) (reading-part f closed here.state spot (part ++ front) separator
    more all ends))

pub after-ended : {Reader T S : Type 0} {tm : Reader → T} {fm : T → Format S}
    {hd : Reader → S → Type 0} {terms : T} {reader now : Reader} {part : List ℕ}
    {spot next : Spot} {bytes : List ℕ} {stretches : List Stretch}
    → (here : IsAt tm fm hd terms reader part spot bytes) (whole front : List ℕ) (separator : ℕ)
    → whole ≡ part ++ front
    → HasNoSeparator (fm terms).separates front → (fm terms).separates separator ≡ true
    → PartGoesOn (part_says (fm terms) here.state whole) stretches (hd now) → tm now ≡ terms → next
    ≡ after_part spot (length whole)
    → IsAt tm fm hd terms now [] next (bytes ++ (front ++ separator ∷ []))
after-ended {fm = fm} {terms = terms} {part = part} {spot = spot} {next = next} {bytes = bytes}
    {stretches = stretches} here whole front separator is inside ends goes named at =
    let f = fm terms in
    record {
      named = named;
      state = goes.state;
      is_held = goes.is_held;
      told = here.told ++ stretches;
      follows = λ closed more.
          follows-ended here whole front separator is inside ends closed more
          ∙ ap (λ (said : Result (Step _) TraceKind). behind here.told (read_on (f.place spot) said
          (λ now. recording_from f closed now (after_part spot (length whole)) more))) goes.says
          ∙ behind-behind here.told stretches (recording_from f closed goes.state
          (after_part spot (length whole)) more)
          ∙ ap (λ (s : Spot). behind (here.told ++ stretches) (recording_from f closed goes.state s
          more)) (sym at);
      inside = All-nil (λ byte. f.separates byte ≡ false);
      short = omega arith;
      counts = rw at (omega (
        arith,
        ap length is,
        length-append part front,
        length-append bytes
            (front ++ separator ∷ []),
        length-append front (separator ∷ []),
        here.counts,
      ));
      few = rw at (omega (arith, here.few));
    }

read_on-nothing : {S : Type 0} (format : Format S) (place : ℕ) (said : Result (Step S) TraceKind)
    (spot : Spot)
    → read_on place said (λ now. recording_from format false now spot []) ≡ read_on place said
    (λ _. nothing)
read_on-nothing format place (Err kind) spot = refl
read_on-nothing format place (Ok step) spot =
    ap (behind step.stretches)
    (reading-last format false step.state spot [] (All-nil (λ byte. format.separates byte ≡ false))
    ∙ last-open format step.state spot [] (omega arith))

reading-ended : {Reader T S : Type 0} {tm : Reader → T} {fm : T → Format S}
    {hd : Reader → S → Type 0} {terms : T} {reader : Reader} {part : List ℕ}
    {spot : Spot} {bytes : List ℕ}
    → (here : IsAt tm fm hd terms reader part spot bytes) (whole front : List ℕ) (separator : ℕ)
    → whole ≡ part ++ front
    → HasNoSeparator (fm terms).separates front → (fm terms).separates separator ≡ true
    → recording_of (fm terms) false (bytes ++ (front ++ separator ∷ [])) ≡ behind here.told
    (read_on ((fm terms).place spot) (part_says (fm terms) here.state whole) (λ _. nothing))
reading-ended {fm = fm} {terms = terms} {spot = spot} {bytes = bytes} here whole front separator is
    inside ends =
    ap (recording_of (fm terms) false) (sym (append-nil (bytes ++ (front ++ separator ∷ []))))
    ∙ follows-ended here whole front separator is inside ends false []
    ∙ ap (behind here.told) (read_on-nothing (fm terms) ((fm terms).place spot)
    (part_says (fm terms) here.state whole) (after_part spot (length whole)))

pub adds-ended : {gs : Vocabulary} {Reader T S : Type 0} {tm : Reader → T} {fm : T → Format S}
    {hd : Reader → S → Type 0} {terms : T} {reader now : Reader} {part : List ℕ}
    {spot : Spot} {bytes : List ℕ} {old new : List Segment}
    → (here : IsAt tm fm hd terms reader part spot bytes) (whole front : List ℕ) (separator : ℕ)
    → whole ≡ part ++ front
    → HasNoSeparator (fm terms).separates front → (fm terms).separates separator ≡ true
    → AddsPart gs (part_says (fm terms) here.state whole) (hd now) old new
    → Adds gs old new (recording_of (fm terms) false bytes) (recording_of (fm terms) false
    (bytes ++ (front ++ separator ∷ [])))
adds-ended {fm = fm} {terms = terms} {spot = spot} here whole front separator is inside ends adds =
    record {
      added = adds.stretches;
      new_is = adds.added;
      beyond =
          ap (λ (r : Recording). r.stretches)
          (reading-ended here whole front separator is inside ends
          ∙ ap (λ (said : Result (Step _) TraceKind). behind here.told
          (read_on ((fm terms).place spot)
          said (λ _. nothing))) adds.goes_on.says)
          ∙ ap (λ stretches. here.told ++ stretches) (append-nil adds.stretches)
          ∙ ap (λ (r : Recording). r.stretches ++ adds.stretches) (sym (at-nothing here));
    }

-- a fault that a reading has behind all its stretches, or no memory, with nothing added
refused-at : {gs : Vocabulary} {told : List Stretch} {before now : Recording}
    {old new : List Segment}
    {fault : TraceFault}
    → before ≡ record { stretches = told; last = λ name. false; fault = None } → Grows before now
    → new ≡ old
    → fault.kind
    ≢ Spent
    → (fault.kind ≢ Memory → now ≡ behind told (faulty fault.place fault.kind))
    → IsRefused gs old new before now fault
refused-at {gs = gs} {told = stretches} {before = before} {now = now} {old = old} {new = new}
    {fault = fault}
    is grows same never_spent told =
    subst (λ (new : List Segment). IsRefused gs old new before now fault) (sym same)
    (elim (is_memory fault.kind) [
      | inl memory ↦ IsRefused-memory gs old before now fault grows memory
      | inr other ↦ IsRefused-told gs old old before now fault
          (Adds-none gs old before now
          (ap (λ (r : Recording). r.stretches) (told other) ∙ append-nil stretches
          ∙ ap (λ (r : Recording). r.stretches) (sym is)))
          (ap (λ (r : Recording). r.fault) (told other)) never_spent
    ])

pub refused-ended : {gs : Vocabulary} {Reader T S : Type 0} {tm : Reader → T} {fm : T
    → Format S} {hd : Reader → S
    → Type 0} {terms : T} {reader : Reader} {part : List ℕ}
    {spot : Spot} {bytes : List ℕ} {old new : List Segment} {fault : TraceFault}
    → (here : IsAt tm fm hd terms reader part spot bytes) (whole front : List ℕ) (separator : ℕ)
    → whole ≡ part ++ front
    → HasNoSeparator (fm terms).separates front → (fm terms).separates separator ≡ true
    → IsRefusedPart (part_says (fm terms) here.state whole) ((fm terms).place spot) old new fault
    → IsRefused gs old new (recording_of (fm terms) false bytes) (recording_of (fm terms) false
    (bytes ++ (front ++ separator ∷ []))) fault
refused-ended {fm = fm} {terms = terms} {spot = spot} {bytes = bytes} {fault = fault} here whole
    front separator is inside ends refused =
    refused-at (at-nothing here) (reading-grows (fm terms) false bytes (front ++ separator ∷ []))
    refused.same refused.wrong.never_spent
    (λ other. reading-ended here whole front separator is inside ends
    ∙ ap (λ (said : Result (Step _) TraceKind). behind here.told
    (read_on ((fm terms).place spot) said (λ _. nothing))) (refused.wrong.says other)
    ∙ ap (λ place. behind here.told (faulty place fault.kind)) (sym (refused.at_place other)))

-- bytes without a separator are kept
pub after-kept : {Reader T S : Type 0} {tm : Reader → T} {fm : T → Format S}
    {hd : Reader → S → Type 0} {terms : T} {reader : Reader} {part : List ℕ}
    {spot : Spot} {bytes : List ℕ}
    → IsAt tm fm hd terms reader part spot bytes → (whole more : List ℕ) → whole ≡ part ++ more
    → HasNoSeparator (fm terms).separates more → length whole ≤ PART_MAX
    → IsAt tm fm hd terms reader whole spot (bytes ++ more)
after-kept {fm = fm} {terms = terms} {part = part} {spot = spot} {bytes = bytes} here whole more is
    inside short =
    let f = fm terms in
    record {
      named = here.named;
      state = here.state;
      is_held = here.is_held;
      told = here.told;
      follows = λ closed later.
          ap (recording_of f closed) (append_assoc bytes more later) ∙ here.follows closed
          (more ++ later)
          ∙ ap (λ rest. behind here.told (recording_from f closed here.state spot rest))
          (sym (append_assoc part more later) ∙ ap (λ front. front ++ later) (sym is));
      inside = rw is (All-append (λ byte. f.separates byte ≡ false) part more here.inside inside);
      short = short;
      counts = omega (
        arith,
        ap length is,
        length-append part more,
        length-append bytes more,
        here.counts,
      );
      few = here.few;
    }

pub adds-kept : {gs : Vocabulary} {Reader T S : Type 0} {tm : Reader → T} {fm : T → Format S}
    {hd : Reader → S → Type 0} {terms : T} {reader : Reader} {part : List ℕ}
    {spot : Spot} {bytes : List ℕ}
    → IsAt tm fm hd terms reader part spot bytes → (more : List ℕ) → HasNoSeparator (fm terms).separates
    more → length part + length more ≤ PART_MAX → (old : List Segment)
    → Adds gs old old (recording_of (fm terms) false bytes)
    (recording_of (fm terms) false (bytes ++ more))
adds-kept {fm = fm} {terms = terms} {part = part} {spot = spot} {bytes = bytes} here more inside
    short old =
    let now : recording_of (fm terms) false (bytes ++ more) ≡ behind here.told nothing =
    at-last here false more inside ∙ ap (behind here.told) (last-open (fm terms) here.state spot
    (part ++ more) (omega (arith, length-append part more))) in
    Adds-none _ old _ _ (ap (λ (r : Recording). r.stretches) now ∙ append-nil here.told
    ∙ ap (λ (r : Recording). r.stretches) (sym (at-nothing here)))

-- the part gets too long
pub refused-long : {gs : Vocabulary} {Reader T S : Type 0} {tm : Reader → T} {fm : T → Format S}
    {hd : Reader → S → Type 0} {terms : T} {reader : Reader} {part : List ℕ}
    {spot : Spot} {bytes : List ℕ}
    → IsAt tm fm hd terms reader part spot bytes → (more : List ℕ) → HasNoSeparator (fm terms).separates
    more → PART_MAX < length part + length more → (old : List Segment)
    → IsRefused gs old old (recording_of (fm terms) false bytes) (recording_of (fm terms) false
    (bytes ++ more)) (record { place = (fm terms).place spot; kind = LineTooLong })
refused-long {fm = fm} {terms = terms} {part = part} {spot = spot} {bytes = bytes} here more inside
    long old =
    refused-at (at-nothing here) (reading-grows (fm terms) false bytes more) refl (λ e. cc (e))
    (λ _. at-last here false more inside ∙ ap (behind here.told) (last-long (fm terms) here.state
    spot (part ++ more) (omega (arith, length-append part more))))

pub refused-memory : {gs : Vocabulary} {S : Type 0} (format : Format S) (closed : Bool)
    (bytes more : List ℕ)
    (old : List Segment) (fault : TraceFault) → fault.kind ≡ Memory
    → IsRefused gs old old (recording_of format false bytes)
    (recording_of format closed (bytes ++ more))
    fault
refused-memory format closed bytes more old fault memory = IsRefused-memory _ old _ _ fault
    (reading-grows format closed bytes more) memory

-- the end of the input ends the last part
closed-ending : {Reader T S : Type 0} {tm : Reader → T} {fm : T → Format S}
    {hd : Reader → S → Type 0} {terms : T} {reader : Reader} {part : List ℕ}
    {spot : Spot} {bytes : List ℕ}
    → (here : IsAt tm fm hd terms reader part spot bytes)
    → recording_of (fm terms) true bytes ≡ behind here.told
    (last_part (fm terms) true here.state spot
    part)
closed-ending {fm = fm} {terms = terms} {part = part} {spot = spot} {bytes = bytes} here =
    ap (recording_of (fm terms) true) (sym (append-nil bytes))
    ∙ at-last here true [] (All-nil (λ byte. (fm terms).separates byte ≡ false))
    ∙ ap (λ last. behind here.told (last_part (fm terms) true here.state spot last))
    (append-nil part)

ending-none : (offset : ℕ) (last : List ℕ → Bool) (fault : Option TraceKind)
    → (ending offset last fault).stretches
    ≡ []
ending-none offset last None = refl
ending-none offset last (Some kind) = refl

closed-grows : {S : Type 0} (format : Format S) (bytes : List ℕ)
    → Grows (recording_of format false bytes) (recording_of format true bytes)
closed-grows format bytes =
    subst (λ (whole : List ℕ). Grows (recording_of format false bytes)
    (recording_of format true whole))
    (append-nil bytes) (reading-grows format true bytes [])

closed-goes : {Reader T S : Type 0} {tm : Reader → T} {fm : T → Format S}
    {hd : Reader → S → Type 0} {terms : T} {reader : Reader} {part : List ℕ}
    {spot : Spot} {bytes : List ℕ} {stretches : List Stretch} {holds : S → Type 0}
    → (here : IsAt tm fm hd terms reader part spot bytes)
    → (goes : PartGoesOn (part_says (fm terms) here.state part) stretches holds)
    → recording_of (fm terms) true bytes ≡ behind here.told
    (behind stretches (ending (spot.offset + length part) ((fm terms).last goes.state)
    ((fm terms).at_end goes.state)))
closed-goes {fm = fm} {terms = terms} {part = part} {spot = spot} here goes =
    closed-ending here
    ∙ ap (λ (said : Result (Step _) TraceKind). behind here.told (read_on ((fm terms).place spot)
    said (λ now. ending (spot.offset + length part) ((fm terms).last now)
    ((fm terms).at_end now)))) goes.says

pub whole-closed : {Reader T S : Type 0} {tm : Reader → T} {fm : T → Format S}
    {hd : Reader → S → Type 0} {terms : T} {reader : Reader} {part : List ℕ}
    {spot : Spot} {bytes : List ℕ} {stretches : List Stretch} {holds : S → Type 0}
    → (here : IsAt tm fm hd terms reader part spot bytes)
    → (goes : PartGoesOn (part_says (fm terms) here.state part) stretches holds)
    → None ≡ (fm terms).at_end goes.state
    → (asked : Vocabulary) (last : ℕ) → last ≡ events_for asked ((fm terms).last goes.state)
    → IsEnded asked (recording_of (fm terms) true bytes) last
whole-closed {fm = fm} {terms = terms} {part = part} {spot = spot} {bytes = bytes}
    {stretches = stretches} here goes none asked last is =
    let whole : recording_of (fm terms) true bytes ≡ behind here.told (behind stretches
    (ending (spot.offset + length part) ((fm terms).last goes.state) None)) =
    closed-goes here goes
    ∙ ap (λ fault. behind here.told (behind stretches (ending (spot.offset + length part)
    ((fm terms).last goes.state) fault))) (sym none) in
    let happens : (recording_of (fm terms) true bytes).last ≡ (fm terms).last goes.state =
    ap (λ (r : Recording). r.last) whole in
    record {
      faultless = ap (λ (r : Recording). r.fault) whole;
      last_is = is ∙ ap (events_for asked) (sym happens);
    }

pub adds-closed : {gs : Vocabulary} {Reader T S : Type 0} {tm : Reader → T} {fm : T → Format S}
    {hd : Reader → S → Type 0} {terms : T} {reader : Reader} {part : List ℕ}
    {spot : Spot} {bytes : List ℕ} {stretches : List Stretch} {old new : List Segment} {holds : S
    → Type 0}
    → (here : IsAt tm fm hd terms reader part spot bytes)
    → (goes : PartGoesOn (part_says (fm terms) here.state part) stretches holds) → new
    ≡ old ++ segments_for gs stretches
    → Adds gs old new (recording_of (fm terms) false bytes) (recording_of (fm terms) true bytes)
adds-closed {fm = fm} {terms = terms} {part = part} {spot = spot} {stretches = stretches} here goes
    added = record {
      added = stretches;
      new_is = added;
      beyond =
          ap (λ (r : Recording). r.stretches) (closed-goes here goes)
          ∙ ap (λ rest. here.told ++ (stretches ++ rest)) (ending-none (spot.offset + length part)
          ((fm terms).last goes.state) ((fm terms).at_end goes.state))
          ∙ ap (λ rest. here.told ++ rest) (append-nil stretches)
          ∙ ap (λ (r : Recording). r.stretches ++ stretches) (sym (at-nothing here));
    }

pub refused-closed : {gs : Vocabulary} {Reader T S : Type 0} {tm : Reader → T} {fm : T
    → Format S} {hd : Reader → S
    → Type 0} {terms : T} {reader : Reader} {part : List ℕ}
    {spot : Spot} {bytes : List ℕ} {old new : List Segment} {fault : TraceFault}
    → (here : IsAt tm fm hd terms reader part spot bytes) → IsRefusedPart
    (part_says (fm terms) here.state part) ((fm terms).place spot) old new fault
    → IsRefused gs old new (recording_of (fm terms) false bytes)
    (recording_of (fm terms) true bytes) fault
refused-closed {fm = fm} {terms = terms} {part = part} {spot = spot} {bytes = bytes} {fault = fault}
    here refused =
    refused-at (at-nothing here) (closed-grows (fm terms) bytes) refused.same
    refused.wrong.never_spent
    (λ other. closed-ending here
    ∙ ap (λ (said : Result (Step _) TraceKind). behind here.told
    (read_on ((fm terms).place spot) said (λ now. ending (spot.offset + length part)
    ((fm terms).last now) ((fm terms).at_end now)))) (refused.wrong.says other)
    ∙ ap (λ place. behind here.told (faulty place fault.kind)) (sym (refused.at_place other)))

-- the input may not end here
pub refused-end : {gs : Vocabulary} {Reader T S : Type 0} {tm : Reader → T} {fm : T → Format S}
    {hd : Reader → S → Type 0} {terms : T} {reader : Reader} {part : List ℕ}
    {spot : Spot} {bytes : List ℕ} {stretches : List Stretch} {old new : List Segment} {holds : S
    → Type 0}
    → (here : IsAt tm fm hd terms reader part spot bytes)
    → (goes : PartGoesOn (part_says (fm terms) here.state part) stretches holds) → new
    ≡ old ++ segments_for gs stretches
    → (place : ℕ) (kind : TraceKind) → Some kind ≡ (fm terms).at_end goes.state → kind ≢ Spent
    → place ≡ spot.offset + length part
    → IsRefused gs old new (recording_of (fm terms) false bytes)
    (recording_of (fm terms) true bytes)
    (record { place = place; kind = kind })
refused-end {fm = fm} {terms = terms} {part = part} {spot = spot}
    {stretches = stretches} here goes added place kind ends
    never_spent at =
    IsRefused-told _ _ _ _ _ _ (adds-closed here goes added)
    (ap (λ (r : Recording). r.fault) (closed-goes here goes
    ∙ ap (λ fault. behind here.told (behind stretches (ending (spot.offset + length part)
    ((fm terms).last goes.state) fault))) (sym ends))
    ∙ ap (λ n. Some (record { place = n; kind = kind })) (sym at))
    never_spent
