use Rattle.std.proofs.Common.{refl}
use Rattle.std.proofs.lemmas.List.{get_or_read}
use Rattle.std.proofs.lemmas.Result.{err_from_is_err_and}
use Rattle.tre_answer.specs.Request.{request_for}
use Rattle.tre_answer.proofs.Stops.{EndsOver-written, shown_unread, made_unread}
use Rattle.tre_answer.proofs.Unread.{EndsOver-early, shown_for, made_for}
use Rattle.tre_answer.proofs.answering.answer.Goals as goal

pub returns-in_err-text-in-Show-clause-ends : goal.returns-in_err-text-in-Show-clause-ends
returns-in_err-text-in-Show-clause-ends g c =
    let p = err_from_is_err_and c.from_residual.result c.from_residual.ensures.1 in
    rw (p.1, p.2) (EndsOver-early c.args.job.now c.args.definitions c.args.asked.now
    _ _ c.requires.closed refl (record { unwritten = refl; writes = refl }))

pub returns-in_ok-text-in-Show-clause-ends : goal.returns-in_ok-text-in-Show-clause-ends
returns-in_ok-text-in-Show-clause-ends g c =
    let first = get_or_read c.args.asked.now.patterns.items 0 c.index.result.now
    c.requires.fits.some c.index.ensures c.index.result.now in
    let alone = c.requires.alone (shown_unread c.args.job.now.mode c.in-Show.is) in
    rw c.done_with.ensures
    (EndsOver-written 0 (request_for c.args.job.now c.args.definitions c.args.asked.now) _ _ _
    (shown_for c.args.job.now c.args.definitions c.args.asked.now c.requires.fits alone
    c.index.result.now first _ refl _ c.in-Show.is c.in_ok-text-in-Show.ensures)
    _ c.as_str.ensures.value c.write_text.result c.write_text.ensures.all c.write_text.ensures.good c.write_text.ensures.part
    c.write_text.ensures.cause c.write_text.ensures.fault)

pub returns-in_err-pattern-in-Generate-clause-ends :
    goal.returns-in_err-pattern-in-Generate-clause-ends
returns-in_err-pattern-in-Generate-clause-ends g c =
    let p = err_from_is_err_and c.from_residual-in_err-pattern-in-Generate.result
    c.from_residual-in_err-pattern-in-Generate.ensures.1 in
    rw (p.1, p.2) (EndsOver-early c.args.job.now c.args.definitions c.args.asked.now
    _ _ c.requires.closed refl (record { unwritten = refl; writes = refl }))

pub returns-in_err-text-in-Generate-clause-ends : goal.returns-in_err-text-in-Generate-clause-ends
returns-in_err-text-in-Generate-clause-ends g c =
    let p = err_from_is_err_and c.from_residual-in_err-text-in-Generate.result
    c.from_residual-in_err-text-in-Generate.ensures.1 in
    rw (p.1, p.2) (EndsOver-early c.args.job.now c.args.definitions c.args.asked.now
    _ _ c.requires.closed refl (record { unwritten = refl; writes = refl }))

pub returns-in_ok-text-in-Generate-clause-ends : goal.returns-in_ok-text-in-Generate-clause-ends
returns-in_ok-text-in-Generate-clause-ends g c =
    let first = get_or_read c.args.asked.now.patterns.items 0 c.index-in-Generate.result.now
    c.requires.fits.some c.index-in-Generate.ensures c.index-in-Generate.result.now in
    let count = c.in-Generate.count in
    let alone = c.requires.alone (made_unread c.args.job.now.mode count c.in-Generate.is) in
    rw c.done_with-in-Generate.ensures
    (EndsOver-written 0 (request_for c.args.job.now c.args.definitions c.args.asked.now) _ _ _
    (made_for c.args.job.now c.args.definitions c.args.asked.now c.requires.fits alone
    c.index-in-Generate.result.now first _ refl _ count c.in_ok-pattern-in-Generate.pattern
    c.in-Generate.is
    c.in_ok-pattern-in-Generate.ensures.tree c.in_ok-text-in-Generate.ensures)
    _ c.as_str-in-Generate.ensures.value c.write_text-in-Generate.result c.write_text-in-Generate.ensures.all
    c.write_text-in-Generate.ensures.good c.write_text-in-Generate.ensures.part
    c.write_text-in-Generate.ensures.cause c.write_text-in-Generate.ensures.fault)
