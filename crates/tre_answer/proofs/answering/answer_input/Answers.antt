use Rattle.std.proofs.Common.{refl}
use Rattle.std.proofs.lemmas.Result.{err_from_is_err_and}
use Rattle.tre_answer.proofs.Recorded.{dump_says, rows_says, text_says}
use Rattle.tre_answer.proofs.Unread.{EndsOver-early, EndsOver-said}
use Rattle.tre_answer.proofs.answering.answer_input.Goals as goal

-- ---- text

pub returns-in_err-input-in-Text-clause-ends : goal.returns-in_err-input-in-Text-clause-ends
returns-in_err-input-in-Text-clause-ends g c =
    let p = err_from_is_err_and c.from_residual.result
    c.from_residual.ensures.1 in
    rw (p.1, p.2) (EndsOver-early c.args.job.now c.args.definitions c.args.asked.now
    _ _ c.requires.closed refl (record { unwritten = refl; writes = refl }))

pub answer_by-requires-clause-input : goal.answer_by-requires-clause-input
answer_by-requires-clause-input g c = record {
  asks = rw c.deref.ensures.value at c.in_ok-input-in-Text.ensures.asks;
  limit = c.in_ok-input-in-Text.ensures.limit;
}

pub returns-in_ok-input-in-Text-clause-ends : goal.returns-in_ok-input-in-Text-clause-ends
returns-in_ok-input-in-Text-clause-ends g c =
    EndsOver-said c.args.job.now c.args.asked.now _ _ c.answer_by.result _ _
    (text_says c.args.job.now c.args.definitions c.args.asked.now
    c.requires.fits c.in-Text.is c.in_ok-input-in-Text.ensures.recording)
    c.answer_by.ensures.ends

-- ---- dumps

pub returns-in_err-input-in-Vcd-clause-ends : goal.returns-in_err-input-in-Vcd-clause-ends
returns-in_err-input-in-Vcd-clause-ends g c =
    let p = err_from_is_err_and c.from_residual-in_err-input-in-Vcd.result
    c.from_residual-in_err-input-in-Vcd.ensures.1 in
    rw (p.1, p.2) (EndsOver-early c.args.job.now c.args.definitions c.args.asked.now
    _ _ c.requires.closed refl (record { unwritten = refl; writes = refl }))

pub answer_by-requires-in-Vcd-clause-input : goal.answer_by-requires-in-Vcd-clause-input
answer_by-requires-in-Vcd-clause-input g c = record {
  asks = rw c.deref-in-Vcd.ensures.value at c.in_ok-input-in-Vcd.ensures.asks;
  limit = c.in_ok-input-in-Vcd.ensures.limit;
}

pub returns-in_ok-input-in-Vcd-clause-ends : goal.returns-in_ok-input-in-Vcd-clause-ends
returns-in_ok-input-in-Vcd-clause-ends g c =
    EndsOver-said c.args.job.now c.args.asked.now _ _ c.answer_by-in-Vcd.result _ _
    (dump_says c.args.job.now c.args.definitions c.args.asked.now
    c.requires.fits _ _ c.deref-in-Vcd.ensures.value c.deref-in-Vcd-2.ensures.value c.in-Vcd.is
    c.in_ok-input-in-Vcd.ensures.recording) c.answer_by-in-Vcd.ensures.ends

-- ---- columns

pub returns-in_err-input-in-Csv-clause-ends : goal.returns-in_err-input-in-Csv-clause-ends
returns-in_err-input-in-Csv-clause-ends g c =
    let p = err_from_is_err_and c.from_residual-in_err-input-in-Csv.result
    c.from_residual-in_err-input-in-Csv.ensures.1 in
    rw (p.1, p.2) (EndsOver-early c.args.job.now c.args.definitions c.args.asked.now
    _ _ c.requires.closed refl (record { unwritten = refl; writes = refl }))

pub answer_by-requires-in-Csv-clause-input : goal.answer_by-requires-in-Csv-clause-input
answer_by-requires-in-Csv-clause-input g c = record {
  asks = rw c.deref-in-Csv.ensures.value at c.in_ok-input-in-Csv.ensures.asks;
  limit = c.in_ok-input-in-Csv.ensures.limit;
}

pub returns-in_ok-input-in-Csv-clause-ends : goal.returns-in_ok-input-in-Csv-clause-ends
returns-in_ok-input-in-Csv-clause-ends g c =
    EndsOver-said c.args.job.now c.args.asked.now _ _ c.answer_by-in-Csv.result _ _
    (rows_says c.args.job.now c.args.definitions c.args.asked.now
    c.requires.fits _ c.deref-in-Csv.ensures.value c.in-Csv.is
    c.in_ok-input-in-Csv.ensures.recording) c.answer_by-in-Csv.ensures.ends
