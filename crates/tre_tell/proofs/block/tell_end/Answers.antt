use Rattle.std.proofs.Common.{◌∙◌, sym, ap, length, subst}
use Rattle.std.proofs.lemmas.List.{length-map}
use Rattle.std.specs.Io.KnownBytes.{Appends}
use Rattle.std.proofs.lemmas.Result.{err_from_is_err_and}
use Rattle.tre_tell.proofs.Closing.{HasClosed-told, ClosingIsCut-told}
use Rattle.tre_io.specs.Written.{AppendsPart}
use Rattle.tre_tell.proofs.Printing.{from_place}
use Rattle.tre_tell.proofs.block.tell_end.Goals as goal

pub write_told-requires-clause-count : goal.write_told-requires-clause-count
write_told-requires-clause-count g c =
    let sessions = c.close.new.self.sessions.items in
    length-map sessions _ ∙ (sym (length-map sessions _)
    ∙ (ap length c.in_ok-close.ensures.trees ∙ sym c.requires.labels))

pub returns-in_err-write_bytes-clause-tells : goal.returns-in_err-write_bytes-clause-tells
returns-in_err-write_bytes-clause-tells g c =
    let p = err_from_is_err_and c.from_residual-in_err-write_bytes.result
    c.from_residual-in_err-write_bytes.ensures.1 in
    λ patterns rows before so_far.
    rw (p.1, p.2, c.in_err-write_bytes.ensures.fault) (ClosingIsCut-told c.args.lasts.now _ _ _
    so_far (c.in_ok-close.ensures.tells rows so_far.stands)
    (rw c.at-end.ensures at c.in_ok-begin.ensures.text)
    (subst (λ bytes. AppendsPart (g.O.Sink.told c.args.out.now).written
    (g.O.Sink.told c.write_bytes.new.out).written bytes)
    (from_place _ _ _ c.deref.ensures.value c.in_ok-begin.ensures.within)
    c.in_err-write_bytes.ensures.part))

pub returns-clause-tells : goal.returns-clause-tells
returns-clause-tells g c = λ patterns rows before so_far. HasClosed-told c.args.lasts.now _ _ _
    so_far (c.in_ok-close.ensures.tells rows so_far.stands)
    (rw c.at-end.ensures at c.in_ok-begin.ensures.text)
    (subst (λ bytes. Appends (g.O.Sink.told c.args.out.now).written
    (g.O.Sink.told c.write_bytes.new.out).written bytes)
    (from_place _ _ _ c.deref.ensures.value c.in_ok-begin.ensures.within)
    c.in_ok-write_bytes.ensures.all)
