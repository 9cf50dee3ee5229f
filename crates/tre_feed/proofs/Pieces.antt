-- One turn of reading an input: what it fed, and how it stopped.
use Rattle.std.proofs.Common.{◌≡◌, ◌∙◌, ◌+◌, ◌-◌, ◌<◌, ◌≤◌, ℕ, Bool, true, false, List, [], ◌∷◌, ◌++◌, length, take, Option, None, Some, IfSome, OnOk, Result, Ok, Err, refl, sym, ap, subst, arith, length-append, append-nil, rules}
use Rattle.std.specs.Io.KnownBytes.{Consumes, Keeps, IsAtEnd}
use Rattle.std.proofs.KnownBytes.{Consumes-kept, Consumes-nil, Consumes-trans}
use Rattle.tre_io.specs.Told.{SourceTold}
use Rattle.tre_trace.specs.Reading.{Recording, Stretch}
use Rattle.tre_feed.specs.Front.{IsReadOn}
use Rattle.tre_feed.specs.Input.{InputTold, IsPiece, KeepsSource, TakesAtMost, input_told}
use Rattle.tre_feed.specs.Stops.{IsOfReaders, IsPieceFed, PieceIsRefused, StopsPiece, TakesIn}
use Rattle.tre_feed.specs.Turn.{TurnIsFed, EndsTurn, KeepsWaiting as KeepsAll, TakesOn, TakesRead, TurnFinds}
use Rattle.tre_feed.specs.declared.TheConstants.{PIECE}
use Rattle.tre_feed.specs.declared.fault.Fault.{Fault}
use Rattle.tre_feed.specs.declared.fault.Fault.TheVariants.{Trace, TooLong, TooManyZones, Read, Write, Memory}
use Rattle.tre_feed.proofs.Cuts.{take-over}
use Rattle.tre_feed.proofs.Outcomes.{GrowsOn, comes_end, comes_exceeds, comes_fault, fed_more}

-- nothing was read behind these bytes
pub IsReadOn-nothing : (most : ℕ) (old : List ℕ) (before now : Option (List ℕ))
    (result : Result Bool Fault) → length old ≤ most → Consumes before now []
    → IsReadOn most old old before now result
IsReadOn-nothing most old before now result few front = search rules

none_beyond : (xs ys : List Stretch) → xs ≡ xs ++ ys → ys ≡ []
none_beyond xs ys same =
    let count : length ys ≡ 0 = omega (arith, ap length same, length-append xs ys) in
    none_of ys count
  where
    none_of : (ys : List Stretch) → length ys ≡ 0 → ys ≡ []
    none_of [] count = refl
    none_of (y ∷ ys) count = absurd (omega (arith, count))

-- a recording has nothing beyond itself
pub TakesOn-same : {old new : List Stretch → Type 0} {before now : Recording}
    → TakesOn old new before now → before ≡ now → KeepsAll old new
TakesOn-same {old} {new} {before} {now} takes same = search (rules, takes, none_beyond, takes.then)

-- no stretch more
pub TakesOn-nothing : {old new : List Stretch → Type 0} (recording : Recording)
    → KeepsAll old new → TakesOn old new recording recording
TakesOn-nothing {old} {new} recording kept = search rules

pub Keeps-own : (old : List Stretch → Type 0) → KeepsAll old old
Keeps-own old = record { same = λ waiting wait. wait }

Keeps-trans : {old mid new : List Stretch → Type 0} → KeepsAll old mid → KeepsAll mid new
    → KeepsAll old new
Keeps-trans first then = search rules

TakesOn-after : {old mid new : List Stretch → Type 0} {before now : Recording} → KeepsAll old mid
    → TakesOn mid new before now → TakesOn old new before now
TakesOn-after kept takes = search rules

-- of no byte that a read took
nothing_of : (limit count : ℕ) (buffer : List ℕ) → count ≡ 0 → take limit (take count buffer) ≡ []
nothing_of limit count buffer e = rw e (take-over {X = ℕ} limit [] (omega arith))

-- what a read finds left is what is left of what was read
pub found_behind : (file left found : Option (List ℕ)) (bytes : List ℕ) → Consumes file left bytes
    → Keeps found left → IfSome file (λ all. IfSome found (λ rest. all ≡ bytes ++ rest))
found_behind None left found bytes front kept = tt
found_behind (Some all) left None bytes front kept = tt
found_behind (Some all) None (Some rest) bytes front kept = absurd front
found_behind (Some all) (Some xs) (Some rest) bytes front kept = search rules

-- what a turn says whose readers were told the end
abbrev pub at_end : Result (Unit {0}) Fault → Result Bool Fault
at_end (Ok done) = Ok false
at_end (Err fault) = Err fault

module _ {were_fed : List ℕ → Type 0} {limit : ℕ} {input : InputTold} {count : ℕ}
    {bytes : List ℕ} (so_far : TurnIsFed were_fed limit input count bytes) where
  module _ (inside : count ≤ limit) where
    -- within the limit all bytes were fed
    pub IsFed-here : take limit bytes ≡ bytes
    IsFed-here = take-over limit bytes (omega (arith, so_far.size, inside))

    pub IsFed-all : were_fed bytes
    IsFed-all = subst were_fed IsFed-here so_far.fed

    -- what is fed of one more piece
    pub IsFed-behind : (piece : List ℕ)
        → bytes ++ take (limit - count) piece ≡ take limit (bytes ++ piece)
    IsFed-behind piece = ap (λ n. bytes ++ take (limit - n) piece) (sym so_far.size)
        ∙ fed_more limit bytes piece (omega (arith, so_far.size, inside))

    -- what the piece adds, as far as the limit
    adds_piece : (recording : Bool → List ℕ → Recording) {old new : List Stretch → Type 0}
        (piece : List ℕ) → TakesOn old new (recording false bytes)
        (recording false (bytes ++ take (limit - count) piece))
        → TakesOn old new (recording false (take limit bytes))
        (recording false (take limit (bytes ++ piece)))
    adds_piece recording piece adds = rw (IsFed-here, ← IsFed-behind piece) adds

  module _ {then_fed : List ℕ → Type 0} {has_ended : (List ℕ → Bool) → Type 0}
      (recording : Bool → List ℕ → Recording) {then_count : ℕ} where
    -- a turn that didn't read
    pub EndsTurn-passed : (waits : List Stretch → Type 0) → limit < count
        → (recording false (take limit bytes)).fault ≡ None
        → EndsTurn then_fed has_ended recording limit input then_count bytes waits waits
        (Err TooLong)
    EndsTurn-passed waits over none =
        let last = so_far.last in
        record {
          piece = [];
          front = rw (append-nil bytes) so_far.front;
          last = record {
            earlier = last.earlier;
            piece = last.piece;
            split = append-nil bytes ∙ last.split;
            short = last.short;
            behind = last.behind;
          };
          early = omega (arith, ap length last.split, length-append last.earlier last.piece);
          few = rw (append-nil bytes) (omega (arith, so_far.size, so_far.few));
          closed = false;
          ended = λ e. cc;
          adds = rw (append-nil bytes) (TakesOn-nothing _ (Keeps-own waits));
          finds = rw (append-nil bytes) (comes_exceeds recording limit input bytes so_far.front
              (omega (arith, so_far.size, over)) none);
        }

    module _ (now : SourceTold) (behind : Keeps now.found input.now.left) (inside : count ≤ limit)
        (old new : List Stretch → Type 0) where
      -- a turn that read a piece, or found that there is none
      EndsTurn-read : (piece : List ℕ) (closed : Bool) (result : Result Bool Fault)
          → Consumes input.now.left now.left piece → length piece ≤ limit - count + 1
          → length piece ≤ PIECE
          → (closed ≡ true → IsAtEnd now.left × (length (bytes ++ piece) ≤ limit))
          → TakesRead old new (recording false (take limit bytes))
          (recording closed (take limit (bytes ++ piece))) result
          → TurnFinds then_fed has_ended recording limit (input_told input.before now) then_count
          bytes (bytes ++ piece) closed result
          → EndsTurn then_fed has_ended recording limit (input_told input.before now) then_count
          bytes old new result
      EndsTurn-read piece closed result front some short ended adds found = record {
        piece = piece;
        front = Consumes-trans input.before.file input.now.left now.left bytes piece so_far.front
            front;
        last = record {
          earlier = bytes;
          piece = piece;
          split = refl;
          short = short;
          behind = found_behind input.before.file input.now.left now.found bytes so_far.front
              behind;
        };
        early = omega arith;
        few = omega (arith, so_far.size, length-append bytes piece, some, inside);
        closed = closed;
        ended = ended;
        adds = adds;
        finds = found;
      }

      module _ (room : ℕ) (some : room ≤ limit - count + 1) (fits : room ≤ PIECE) where
        -- a turn that fed a piece and goes on
        pub EndsTurn-fed : (piece : List ℕ) → Consumes input.now.left now.left piece
            → length piece ≤ room → then_count ≡ count + length piece
            → IsPieceFed then_fed recording bytes (take (limit - count) piece) old new
            → EndsTurn then_fed has_ended recording limit (input_told input.before now) then_count
            bytes old new (Ok true)
        EndsTurn-fed piece front short size fed = EndsTurn-read piece false (Ok true) front
            (omega (arith, short, some)) (omega (arith, short, fits)) (λ e. cc)
            (adds_piece inside recording piece fed.all) (
              refl,
              omega (arith, size, so_far.size, length-append bytes piece),
              rw (← IsFed-behind inside piece) fed.fed,
            )

        -- a turn whose piece was refused
        pub EndsTurn-stops : GrowsOn recording → (recording false (take limit bytes)).fault ≡ None
            → (fault : Fault)
            → StopsPiece recording (limit - count) room bytes input.now.left now.left old new fault
            → EndsTurn then_fed has_ended recording limit (input_told input.before now) then_count
            bytes old new (Err fault)
        EndsTurn-stops grows none (Trace fault) stops = EndsTurn-read stops.piece false _
            stops.front (omega (arith, stops.short, some)) (omega (arith, stops.short, fits))
            (λ e. cc) (adds_piece inside recording stops.piece stops.takes.1) (
              stops.takes.0,
              comes_fault recording limit (input_told input.before now) (bytes ++ stops.piece)
                  (Consumes-trans input.before.file input.now.left now.left bytes stops.piece
                  so_far.front stops.front) grows fault
                  (rw (← IsFed-behind inside stops.piece) stops.takes.2),
            )
        EndsTurn-stops grows none TooLong stops = absurd stops.takes
        EndsTurn-stops grows none (TooManyZones zones) stops = absurd stops.takes
        EndsTurn-stops grows none Write stops = absurd stops.takes
        EndsTurn-stops grows none Read stops = EndsTurn-read [] false _
            (Consumes-kept input.now.left input.now.left now.left [] (Consumes-nil input.now.left)
            stops.0) (omega arith) (omega arith) (λ e. cc)
            (rw (append-nil bytes) (TakesOn-nothing _ stops.1)) (
              refl,
              append-nil bytes,
              omega (arith, so_far.size, inside),
              rw (IsFed-here inside) at none,
            )
        EndsTurn-stops grows none Memory stops = EndsTurn-read stops.piece false _ stops.front
            (omega (arith, stops.short, some)) (omega (arith, stops.short, fits)) (λ e. cc)
            stops.takes tt

    -- a turn whose read took no byte, and what the readers then took in at the end
    pub EndsTurn-end : (now : SourceTold) → Keeps now.found input.now.left → count ≤ limit
        → (said : Bool → List ℕ → Recording) → said ≡ recording → (buffer : List ℕ) (taken : ℕ)
        → taken ≡ 0 → IsPiece input.now.left now.left buffer taken
        → {mid_fed : List ℕ → Type 0} (old mid new : List Stretch → Type 0)
        → IsPieceFed mid_fed recording bytes (take (limit - count) (take taken buffer)) old mid
        → (result : Result (Unit {0}) Fault)
        → (mid_fed bytes → TakesIn mid new (said false bytes) (said true bytes) result)
        → (mid_fed bytes → OnOk result (has_ended (said true bytes).last))
        → EndsTurn then_fed has_ended recording limit (input_told input.before now) then_count
        bytes old new (at_end result)
    EndsTurn-end now behind inside said same buffer taken none read {mid_fed} old mid new piece
        result takes ends =
        let nothing = nothing_of (limit - count) taken buffer none in
        let fed : mid_fed bytes = rw (nothing, append-nil bytes) at piece.fed in
        let kept : KeepsAll old mid =
        TakesOn-same piece.all (ap (recording false) (rw nothing (sym (append-nil bytes)))) in
        of_result result kept (rw same at (takes fed)) (rw same at (ends fed))
      where
        front : Consumes input.now.left now.left []
        front = rw none at read.taken

        few : length bytes ≤ limit
        few = omega (arith, so_far.size, inside)

        adds : KeepsAll old mid → TakesOn mid new (recording false bytes) (recording true bytes)
            → TakesOn old new (recording false (take limit bytes))
            (recording true (take limit (bytes ++ [])))
        adds kept takes =
            rw (append-nil bytes, IsFed-here inside) (TakesOn-after kept takes)

        of_result : (result : Result (Unit {0}) Fault) → KeepsAll old mid
            → TakesIn mid new (recording false bytes) (recording true bytes) result
            → OnOk result (has_ended (recording true bytes).last)
            → EndsTurn then_fed has_ended recording limit (input_told input.before now) then_count
            bytes old new (at_end result)
        of_result (Ok done) kept takes ends = EndsTurn-read now behind inside old new [] true _
            front (omega arith) (omega arith)
            (λ e. (read.end none, rw (append-nil bytes) few)) (adds kept takes.0)
            (rw (append-nil bytes) (refl, takes.1, ends))
        of_result (Err (Trace fault)) kept takes ends = EndsTurn-read now behind inside old new []
            true _ front (omega arith) (omega arith)
            (λ e. (read.end none, rw (append-nil bytes) few)) (adds kept takes.1) (
              takes.0,
              rw (append-nil bytes, IsFed-here inside) (comes_end recording limit
                  (input_told input.before now) bytes
                  (rw (append-nil bytes) at (Consumes-trans input.before.file input.now.left
                  now.left bytes [] so_far.front front)) fault (read.end none) few takes.2),
            )
        of_result (Err TooLong) kept takes ends = absurd takes
        of_result (Err (TooManyZones zones)) kept takes ends = absurd takes
        of_result (Err Write) kept takes ends = absurd takes
        of_result (Err Read) kept takes ends = absurd takes
        of_result (Err Memory) kept takes ends = EndsTurn-read now behind inside old new [] false _
            front (omega arith) (omega arith) (λ e. cc) (Keeps-trans kept takes) tt

-- however a turn ended, what was taken is at most one byte past the limit
pub EndsTurn-bounded : {were_fed : List ℕ → Type 0} {has_ended : (List ℕ → Bool) → Type 0}
    {recording : Bool → List ℕ → Recording} {limit : ℕ} {input : InputTold} {count : ℕ}
    {bytes : List ℕ} {waits then_waits : List Stretch → Type 0} {result : Result Bool Fault}
    → EndsTurn were_fed has_ended recording limit input count bytes waits then_waits result
    → TakesAtMost (limit + 1) input.before.file input.now.left
EndsTurn-bounded {bytes = bytes} ends = search rules

-- what a turn said that ended the input
pub said_whole : {were_fed : List ℕ → Type 0} {has_ended : (List ℕ → Bool) → Type 0}
    {recording : Bool → List ℕ → Recording} {limit : ℕ} {input : InputTold} {count : ℕ}
    {bytes : List ℕ} {waits then_waits : List Stretch → Type 0}
    (ends : EndsTurn were_fed has_ended recording limit input count bytes waits then_waits
    (Ok false))
    → recording ends.closed (take limit (bytes ++ ends.piece))
    ≡ recording true (bytes ++ ends.piece)
said_whole {recording = recording} {limit} {bytes = bytes} ends =
    rw (ends.finds.0, take-over limit (bytes ++ ends.piece) (ends.ended ends.finds.0).1) refl

-- readers refused what they were fed of a piece
pub StopsPiece-refused : (recording : Bool → List ℕ → Recording) (allowed room : ℕ)
    (bytes piece fed : List ℕ) (before now : Option (List ℕ)) (old new : List Stretch → Type 0)
    (fault : Fault) → Consumes before now piece → length piece ≤ room
    → fed ≡ take allowed piece
    → TakesIn old new (recording false bytes) (recording false (bytes ++ fed)) (Err fault)
    → StopsPiece recording allowed room bytes before now old new fault
StopsPiece-refused recording allowed room bytes piece fed before now old new fault front short is
    takes = of_fault fault refused takes
  where
    refused : PieceIsRefused recording allowed room bytes before now old new fault
    refused = record {
      piece = piece;
      front = front;
      short = short;
      takes = subst (λ (more : List ℕ). TakesIn old new (recording false bytes)
          (recording false (bytes ++ more)) (Err fault)) is takes;
    }

    of_fault : (fault : Fault)
        → PieceIsRefused recording allowed room bytes before now old new fault
        → TakesIn old new (recording false bytes) (recording false (bytes ++ fed)) (Err fault)
        → StopsPiece recording allowed room bytes before now old new fault
    of_fault (Trace first) refused takes = refused
    of_fault TooLong refused takes = refused
    of_fault (TooManyZones zones) refused takes = refused
    of_fault Write refused takes = refused
    of_fault Read refused takes = absurd takes
    of_fault Memory refused takes = refused

module _ {before now : SourceTold} {T U : Type 0} where
  -- whatever was told of a source that was read
  pub KeepsSource-ok : {value : T} {other : U}
      → KeepsSource before now (Ok value)
      → KeepsSource before now (Ok other)
  KeepsSource-ok keeps = search rules

  -- a fault that the readers had
  pub KeepsSource-readers : {value : T} (fault : Fault) → IsOfReaders (Err fault)
      → KeepsSource before now (Ok value)
      → KeepsSource {T = U} before now (Err fault)
  KeepsSource-readers fault told keeps = search rules

  -- a fault that the read had
  pub KeepsSource-err : (fault : Fault)
      → KeepsSource {T = T} before now (Err fault)
      → KeepsSource {T = U} before now (Err fault)
  KeepsSource-err fault keeps = search rules
