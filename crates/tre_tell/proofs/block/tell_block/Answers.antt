use Rattle.std.proofs.Common.{◌∙◌, ap, length, refl, sym, subst}
use Rattle.std.proofs.lemmas.List.{length-map}
use Rattle.std.specs.Io.KnownBytes.{Appends}
use Rattle.std.proofs.lemmas.Result.{err_from_is_err_and}
use Rattle.tre_tell.proofs.Told.{HasTold-more, HasTold-cut}
use Rattle.tre_io.specs.Written.{AppendsPart}
use Rattle.tre_tell.proofs.Printing.{from_place}
use Rattle.tre_tell.proofs.block.tell_block.Goals as goal

pub write_told-requires-clause-count : goal.write_told-requires-clause-count
write_told-requires-clause-count g c =
    let sessions = c.step.new.watch.sessions.items in
    length-map sessions _ ∙ (sym (length-map sessions _)
    ∙ (ap length c.in_ok-step.ensures.trees ∙ sym c.requires.labels))

pub returns-in_err-write_bytes-clause-stops : goal.returns-in_err-write_bytes-clause-stops
returns-in_err-write_bytes-clause-stops g c =
    let p = err_from_is_err_and c.from_residual-in_err-write_bytes.result
    c.from_residual-in_err-write_bytes.ensures.1 in
    λ patterns rows before so_far.
    rw (p.1, p.2, c.in_err-write_bytes.ensures.fault) (HasTold-cut c.step.new.watch
    c.args.column.now _ _ _ so_far (c.in_ok-step.ensures.stands rows so_far.stands)
    (c.in_ok-step.ensures.tells rows so_far.stands)
    (rw c.at.ensures at c.in_ok-begin.ensures.text) c.requires.comes.some
    (subst (λ bytes. AppendsPart (g.O.Sink.told c.args.out.now).written
    (g.O.Sink.told c.write_bytes.new.out).written bytes)
    (from_place _ _ _ c.deref.ensures.value c.in_ok-begin.ensures.within)
    c.in_err-write_bytes.ensures.part))

pub returns-clause-told : goal.returns-clause-told
returns-clause-told g c = λ patterns rows before so_far. HasTold-more c.step.new.watch
    c.args.column.now _ _ _ so_far (c.in_ok-step.ensures.stands rows so_far.stands)
    c.in_ok-step.ensures.trees refl (c.in_ok-step.ensures.tells rows so_far.stands)
    (rw c.at.ensures at c.in_ok-begin.ensures.text) c.requires.comes.some
    (subst (λ bytes. Appends (g.O.Sink.told c.args.out.now).written
    (g.O.Sink.told c.write_bytes.new.out).written bytes)
    (from_place _ _ _ c.deref.ensures.value c.in_ok-begin.ensures.within)
    c.in_ok-write_bytes.ensures.all)
