use Rattle.std.proofs.Common.{◌≡◌, ◌≢◌, ◌∙◌, List, [], ◌++◌, length, drop, Option, None, Some, Err, ℕ, refl, sym, ap, subst, arith, rules, length-take, length-append, length-drop}
use Rattle.std.proofs.KnownBytes.{Consumes-trans}
use Rattle.std.proofs.lemmas.Result.{err_from_is_err_and}
use Rattle.std.specs.Io.KnownBytes.{Consumes, Keeps}
use Rattle.tre_io.specs.Faults.{count_after}
use Rattle.tre_io.specs.Told.{SourceTold}
use Rattle.tre_feed.specs.Front.{StopsFront}
use Rattle.tre_feed.specs.Input.{KeepsSource, input_told}
use Rattle.tre_feed.specs.declared.fault.Fault.{Fault}
use Rattle.tre_feed.specs.declared.fault.Fault.TheVariants.{Trace, TooLong, TooManyZones, Read, Write, Memory}
use Rattle.tre_feed.proofs.front.read_front.Goals as goal

-- a piece was read behind these bytes
front_more : (file before now : Option (List ℕ)) (old new piece : List ℕ)
    → Consumes file before old → Consumes before now piece → new ≡ old ++ piece
    → Consumes file now new
front_more file before now old new piece front more is =
    subst (Consumes file now) (sym is) (Consumes-trans file before now old piece front more)

-- none was read yet
front_none : (file left : Option (List ℕ)) → Keeps file left → Consumes file left []
front_none None left kept = tt
front_none (Some all) None kept = absurd kept
front_none (Some all) (Some left) kept = sym kept

-- a read that failed, or a want of memory
stops_later : (name : List ℕ) (start before now : SourceTold) (T : Type 0) (fault : Fault)
    → before.faults ≡ start.faults → before.sound ≡ start.sound
    → KeepsSource {T = T} before now (Err fault) → (fault ≢ Read → fault ≢ Memory → ⊥)
    → StopsFront name (input_told start now) fault
stops_later name start before now T Read count sound keeps named =
    search (rules, count_after, keeps.no_failure)
stops_later name start before now T Memory count sound keeps named = keeps.cause ∙ count
stops_later name start before now T (Trace fault) count sound keeps named =
    named (λ is. cc) (λ is. cc)
stops_later name start before now T TooLong count sound keeps named =
    named (λ is. cc) (λ is. cc)
stops_later name start before now T (TooManyZones zones) count sound keeps named =
    named (λ is. cc) (λ is. cc)
stops_later name start before now T Write count sound keeps named =
    named (λ is. cc) (λ is. cc)

pub returns-in_err-read_more-clause-stops : goal.returns-in_err-read_more-clause-stops
returns-in_err-read_more-clause-stops g c =
    search (rules, err_from_is_err_and, g.S.Source, c.from_residual-in_err-read_more.ensures.1)

pub returns-in_err-read_more-clause-bounded : goal.returns-in_err-read_more-clause-bounded
returns-in_err-read_more-clause-bounded g c = λ opened.
    let source = g.S.Source in
    let read = c.in_err-read_more.ensures.read in
    record {
      taken = c.loop-bytes.bytes.items ++ read.piece;
      few = read.few;
      front = front_more (source.told c.args.input.now).file (source.told c.loop-bytes.input).left
          (source.told c.read_more.new.input).left c.loop-bytes.bytes.items _ read.piece
          c.loop-bytes.invariant.front read.front refl;
    }

pub loop-bytes-preserved : goal.loop-bytes-preserved
loop-bytes-preserved g c =
    let source = g.S.Source in
    let buffer = c.read_more.new.buffer in
    let behind = drop (length buffer) c.loop-bytes.buffer.items in
    let read = c.in_ok-read_more.ensures.read in
    let keeps = c.in_ok-read_more.ensures.source in
    record {
      front = front_more (source.told c.args.input.now).file (source.told c.loop-bytes.input).left
          (source.told c.read_more.new.input).left c.loop-bytes.bytes.items
          c.read_more.new.bytes.items read.piece
          c.loop-bytes.invariant.front read.front read.added;
      few = omega (arith, ap length read.added, read.few);
      room = omega (
        arith,
        length-take {A = ℕ} c.loop-bytes.buffer.len (buffer ++ behind),
        length-append buffer behind,
        length-drop {A = ℕ} (length buffer) c.loop-bytes.buffer.items,
        c.read_more.ensures.length,
        c.loop-bytes.buffer.ok,
        c.loop-bytes.invariant.room,
      );
      opened = keeps.same_opened ∙ c.loop-bytes.invariant.opened;
      sound = keeps.same_sound ∙ c.loop-bytes.invariant.sound;
      no_fault = keeps.cause ∙ c.loop-bytes.invariant.no_fault;
    }

pub returns-clause-read : goal.returns-clause-read
returns-clause-read g c =
    search (rules, front_more, g.S.Source, c.in_ok-read_more.ensures.read)

pub returns-clause-bounded : goal.returns-clause-bounded
returns-clause-bounded g c = λ opened.
    let source = g.S.Source in
    let read = c.in_ok-read_more.ensures.read in
    record {
      taken = c.loop-bytes.bytes.items ++ read.piece;
      few = read.few;
      front = front_more (source.told c.args.input.now).file (source.told c.loop-bytes.input).left
          (source.told c.read_more.new.input).left c.loop-bytes.bytes.items _ read.piece
          c.loop-bytes.invariant.front read.front refl;
    }

pub loop-bytes-init : goal.loop-bytes-init
loop-bytes-init g c = search (rules, front_none, g.S.Source, c.new-bytes.ensures.items)
