use Rattle.std.proofs.Common.{ap, refl}
use Rattle.std.proofs.lemmas.Result.{err_from_is_err_and}
use Rattle.tre_answer.proofs.Found.{StopsAs-wanting}
use Rattle.tre_answer.proofs.Stops.{EndsOver-put, EndsOver-told, told_forms, told_way}
use Rattle.tre_answer.specs.Ends.{has_checks}
use Rattle.tre_words.specs.Job.{is_whole}
use Rattle.tre_answer.proofs.answering.answer_by.Goals as goal

pub returns-in_err-found-in-Offline : goal.returns-in_err-found-in-Offline
returns-in_err-found-in-Offline g c =
    let p = err_from_is_err_and c.from_residual.result c.from_residual.ensures.1 in
    rw (p.1, p.2) (record {
      ends = c.in_err-found-in-Offline.ensures.stops _ (record { unwritten = refl; writes = refl });
      bounded = c.in_err-found-in-Offline.ensures.bounded;
      by_name = c.in_err-found-in-Offline.ensures.by_name;
    })

pub returns-in_err-room-in-Offline-clause-ends : goal.returns-in_err-room-in-Offline-clause-ends
returns-in_err-room-in-Offline-clause-ends g c =
    let p = err_from_is_err_and c.from_residual-in_err-room-in-Offline.result
    c.from_residual-in_err-room-in-Offline.ensures.1 in
    rw (p.1, p.2) (StopsAs-wanting _ _ (ap is_whole c.in-Offline.is) c.in_ok-found-in-Offline.ensures.found.reads _
    (record { unwritten = refl; writes = refl }))

pub returns-in_ok-room-in-Offline-clause-ends : goal.returns-in_ok-room-in-Offline-clause-ends
returns-in_ok-room-in-Offline-clause-ends g c =
    rw c.done_with.ensures (EndsOver-put _ _ _ _ _ c.in_ok-found-in-Offline.ensures.found
    c.write_matches-written.result c.write_matches-written.ensures)

pub tell_matches-told-requires-clause-comes : goal.tell_matches-told-requires-clause-comes
tell_matches-told-requires-clause-comes g c = told_way c.args.job.now.mode c.requires.reads
    c.in_default.not-Offline c.in_default.not-Check

pub returns-in_default-clause-ends : goal.returns-in_default-clause-ends
returns-in_default-clause-ends g c =
    let comes = told_way c.args.job.now.mode c.requires.reads c.in_default.not-Offline
    c.in_default.not-Check in
    let none = told_forms c.args.job.now.mode c.args.asked.now.forms.items _ comes
    c.requires.fits.forms in
    rw (c.done_with-in_default.ensures, none) (EndsOver-told _ _ _ comes c.tell_matches-told.result
    (rw (c.deref-in_default.ensures.value, c.deref-in_default-2.ensures.value) at
    c.tell_matches-told.ensures.ends))

pub returns-in_err-found-in-Check : goal.returns-in_err-found-in-Check
returns-in_err-found-in-Check g c =
    let p = err_from_is_err_and c.from_residual-in_err-found-in-Check.result
    c.from_residual-in_err-found-in-Check.ensures.1 in
    rw (p.1, p.2) (record {
      ends = c.in_err-found-in-Check.ensures.stops _ (record { unwritten = refl; writes = refl });
      bounded = c.in_err-found-in-Check.ensures.bounded;
      by_name = c.in_err-found-in-Check.ensures.by_name;
    })

pub find_checks-requires-clause-checks : goal.find_checks-requires-clause-checks
find_checks-requires-clause-checks g c = ap has_checks c.in-Check.is

pub returns-in_err-room-in-Check-clause-ends : goal.returns-in_err-room-in-Check-clause-ends
returns-in_err-room-in-Check-clause-ends g c =
    let p = err_from_is_err_and c.from_residual-in_err-room-in-Check.result
    c.from_residual-in_err-room-in-Check.ensures.1 in
    rw (p.1, p.2) (StopsAs-wanting _ _ (ap is_whole c.in-Check.is)
    c.in_ok-found-in-Check.ensures.found.reads _ (record { unwritten = refl; writes = refl }))

pub returns-in_ok-room-in-Check-clause-ends : goal.returns-in_ok-room-in-Check-clause-ends
returns-in_ok-room-in-Check-clause-ends g c =
    let found = c.in_ok-found-in-Check.ensures.found in
    rw (c.done_with-in-Check.ensures, c.count_failed-failed.ensures, c.deref-in-Check.ensures.value)
    (EndsOver-put _ _ _ _ _ found c.write_verdicts-written.result
    (rw c.deref-in-Check-2.ensures.value at c.write_verdicts-written.ensures))

pub write_verdicts-written-requires-clause-room : goal.write_verdicts-written-requires-clause-room
write_verdicts-written-requires-clause-room g c = rw (
  c.deref-in-Check-2.ensures.value,
  c.deref_mut-in-Check.ensures.value,
)
    (rw c.deref.ensures.value at c.in_ok-room-in-Check.ensures.room)
