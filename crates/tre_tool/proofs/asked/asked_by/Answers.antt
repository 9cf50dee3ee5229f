use Rattle.std.proofs.Common.{◌∙◌, ap, refl, sym, arith}
use Rattle.std.proofs.lemmas.Result.{err_from_is_err_and}
use Rattle.tre_words.specs.Job.{file_of}
use Rattle.tre_words.specs.declared.job.Mode.TheVariants.{Watch, Check}
use Rattle.tre_tool.proofs.Asking.{StopsAsking-checks, StopsAsking-definitions, StopsAsking-memory, StopsAsking-texts, StopsAsking-watch, StopsAsking-words, asked_in, asked_of_texts, fit_texts, named_so, nothing_taken}
use Rattle.tre_tool.proofs.asked.asked_by.Goals as goal

-- ---- a made run

pub returns-in_ok-question-in-Generate-clause-asks :
    goal.returns-in_ok-question-in-Generate-clause-asks
returns-in_ok-question-in-Generate-clause-asks g c =
    let made = c.in_ok-question-in-Generate.ensures in
    record {
      asks = asked_in c.args.job.now.mode _ _ c.args.job.now _ _ _ _ c.in-Generate.is (record {
        are = made.pattern;
        formless = made.forms;
        definitions = rw c.in-Generate.is (made.columns, made.signals);
      });
      fits = record {
        labels = made.labels ∙ sym made.alone;
        some = omega (arith, made.alone);
        forms = rw c.in-Generate.is made.forms;
      };
      alone = λ unread. made.alone;
      good = refl;
    }

pub returns-in_err-question-in-Generate-clause-stops :
    goal.returns-in_err-question-in-Generate-clause-stops
returns-in_err-question-in-Generate-clause-stops g c =
    let p = err_from_is_err_and c.from_residual.result
    c.from_residual.ensures.1 in
    rw (p.1, p.2) (StopsAsking-memory c.args.job.now _ c.in_err-question-in-Generate.field-0.0
    c.in_err-question-in-Generate.ensures.failed refl)

-- ---- a watch

pub returns-in_ok-definitions-in-Watch-clause-asks :
    goal.returns-in_ok-definitions-in-Watch-clause-asks
returns-in_ok-definitions-in-Watch-clause-asks g c =
    let read = c.in_ok-asked-in-Watch.ensures in
    record {
      asks = asked_in c.args.job.now.mode _ _ c.args.job.now _ _ _ _ c.in-Watch.is (record {
        are = read.patterns;
        formless = read.forms;
        definitions = c.in_ok-definitions-in-Watch.ensures.defines;
      });
      fits = record {
        labels = read.labels;
        some = read.some;
        forms = rw c.in-Watch.is read.forms;
      };
      alone = λ unread. absurd (unread (rw c.in-Watch.is tt));
      good = read.good;
    }

pub returns-in_ok-definitions-in-Watch-clause-untouched :
    goal.returns-in_ok-definitions-in-Watch-clause-untouched
returns-in_ok-definitions-in-Watch-clause-untouched g c =
    λ unread. absurd (unread (rw c.in-Watch.is refl))

pub returns-in_ok-definitions-in-Watch-clause-by_name :
    goal.returns-in_ok-definitions-in-Watch-clause-by_name
returns-in_ok-definitions-in-Watch-clause-by_name g c =
    λ opened name named. named_so c.args.job.now.mode _ name _ (ap file_of c.in-Watch.is)
    (rw c.text-in-Watch.ensures at c.asked_of_watch.ensures.by_name opened) named

pub returns-in_err-definitions-in-Watch-clause-stops :
    goal.returns-in_err-definitions-in-Watch-clause-stops
returns-in_err-definitions-in-Watch-clause-stops g c =
    let p = err_from_is_err_and c.from_residual-in_err-definitions-in-Watch.result
    c.from_residual-in_err-definitions-in-Watch.ensures.1 in
    let read = c.in_ok-asked-in-Watch.ensures in
    rw (p.1, p.2) (StopsAsking-definitions c.args.job.now _
    c.in_err-definitions-in-Watch.field-0.0 _ c.text-in-Watch.result.now
    (c.in-Watch.is ∙ ap Watch (sym c.text-in-Watch.ensures))
    c.in_err-definitions-in-Watch.ensures.refuses read.patterns read.good)

pub returns-in_err-definitions-in-Watch-clause-untouched :
    goal.returns-in_err-definitions-in-Watch-clause-untouched
returns-in_err-definitions-in-Watch-clause-untouched g c =
    λ unread. absurd (unread (rw c.in-Watch.is refl))

pub returns-in_err-definitions-in-Watch-clause-by_name :
    goal.returns-in_err-definitions-in-Watch-clause-by_name
returns-in_err-definitions-in-Watch-clause-by_name g c =
    λ opened name named. named_so c.args.job.now.mode _ name _ (ap file_of c.in-Watch.is)
    (rw c.text-in-Watch.ensures at c.asked_of_watch.ensures.by_name opened) named

pub returns-in_err-asked-in-Watch-clause-stops : goal.returns-in_err-asked-in-Watch-clause-stops
returns-in_err-asked-in-Watch-clause-stops g c =
    let p = err_from_is_err_and c.from_residual-in_err-asked-in-Watch.result
    c.from_residual-in_err-asked-in-Watch.ensures.1 in
    rw (p.1, p.2) (StopsAsking-watch c.args.job.now _ c.in_err-asked-in-Watch.field-0.0
    c.text-in-Watch.result.now (c.in-Watch.is ∙ ap Watch (sym c.text-in-Watch.ensures))
    c.in_err-asked-in-Watch.ensures.stops)

pub returns-in_err-asked-in-Watch-clause-untouched :
    goal.returns-in_err-asked-in-Watch-clause-untouched
returns-in_err-asked-in-Watch-clause-untouched g c =
    λ unread. absurd (unread (rw c.in-Watch.is refl))

pub returns-in_err-asked-in-Watch-clause-by_name :
    goal.returns-in_err-asked-in-Watch-clause-by_name
returns-in_err-asked-in-Watch-clause-by_name g c =
    λ opened name named. named_so c.args.job.now.mode _ name _ (ap file_of c.in-Watch.is)
    (rw c.text-in-Watch.ensures at c.in_err-asked-in-Watch.ensures.by_name opened) named

-- ---- checks that are judged

pub returns-in_ok-question-in-Check-clause-asks : goal.returns-in_ok-question-in-Check-clause-asks
returns-in_ok-question-in-Check-clause-asks g c =
    let read = c.in_ok-question-in-Check.ensures in
    record {
      asks = asked_in c.args.job.now.mode _ _ c.args.job.now _ _ _ _ c.in-Check.is (record {
        columns = c.in_ok-given-in-Check.given.columns.items;
        parts = c.in_ok-given-in-Check.given.signals.items;
        definitions = c.in_ok-given-in-Check.ensures.defines;
        verdicts = rw c.meanings_of-known.ensures at read.verdicts;
      });
      fits = record {
        labels = read.labels;
        some = read.some;
        forms = rw c.in-Check.is (sym read.count);
      };
      alone = λ unread. absurd (unread (rw c.in-Check.is tt));
      good = read.good;
    }

pub returns-in_ok-question-in-Check-clause-untouched :
    goal.returns-in_ok-question-in-Check-clause-untouched
returns-in_ok-question-in-Check-clause-untouched g c =
    λ unread. absurd (unread (rw c.in-Check.is refl))

pub returns-in_ok-question-in-Check-clause-by_name :
    goal.returns-in_ok-question-in-Check-clause-by_name
returns-in_ok-question-in-Check-clause-by_name g c =
    λ opened name named. named_so c.args.job.now.mode _ name _ (ap file_of c.in-Check.is)
    (rw c.text.ensures at c.asked_of_verdicts.ensures.by_name opened) named

pub returns-in_err-question-in-Check-clause-stops :
    goal.returns-in_err-question-in-Check-clause-stops
returns-in_err-question-in-Check-clause-stops g c =
    let p = err_from_is_err_and c.from_residual-in_err-question-in-Check.result
    c.from_residual-in_err-question-in-Check.ensures.1 in
    rw (p.1, p.2) (StopsAsking-checks c.args.job.now _ c.in_err-question-in-Check.field-0.0 _
    c.in_ok-given-in-Check.given.columns.items c.in_ok-given-in-Check.given.signals.items
    (c.in-Check.is ∙ ap Check (sym c.text.ensures)) c.in_ok-given-in-Check.ensures.defines
    (rw c.meanings_of-known.ensures at c.in_err-question-in-Check.ensures.stops))

pub returns-in_err-question-in-Check-clause-untouched :
    goal.returns-in_err-question-in-Check-clause-untouched
returns-in_err-question-in-Check-clause-untouched g c =
    λ unread. absurd (unread (rw c.in-Check.is refl))

pub returns-in_err-question-in-Check-clause-by_name :
    goal.returns-in_err-question-in-Check-clause-by_name
returns-in_err-question-in-Check-clause-by_name g c =
    λ opened name named. named_so c.args.job.now.mode _ name _ (ap file_of c.in-Check.is)
    (rw c.text.ensures at c.in_err-question-in-Check.ensures.by_name opened) named

pub returns-in_err-given-in-Check-clause-stops : goal.returns-in_err-given-in-Check-clause-stops
returns-in_err-given-in-Check-clause-stops g c =
    let p = err_from_is_err_and c.from_residual-in_err-given-in-Check.result
    c.from_residual-in_err-given-in-Check.ensures.1 in
    rw (p.1, p.2) (StopsAsking-words c.args.job.now _ c.in_err-given-in-Check.field-0.0 _
    c.in-Check.is c.in_err-given-in-Check.ensures.refuses refl)

-- ---- the texts of a job

pub returns-in_ok-question-in_default-clause-asks :
    goal.returns-in_ok-question-in_default-clause-asks
returns-in_ok-question-in_default-clause-asks g c =
    let read = c.in_ok-question-in_default.ensures in
    record {
      asks = asked_of_texts c.args.job.now.mode _ c.args.job.now _ _ _ _ (record {
        made = c.in_default.not-Generate;
        checked = c.in_default.not-Check;
        watched = c.in_default.not-Watch;
      }) read.spells
          read.forms read.defines;
      fits = record {
        labels = read.labels;
        some = read.some;
        forms = fit_texts c.args.job.now.mode _ _ (record {
          made = c.in_default.not-Generate;
          checked = c.in_default.not-Check;
          watched = c.in_default.not-Watch;
        }) read.forms;
      };
      alone = λ unread. read.alone (nothing_taken c.args.job.now c.requires.job unread);
      good = refl;
    }

pub returns-in_err-question-in_default-clause-stops :
    goal.returns-in_err-question-in_default-clause-stops
returns-in_err-question-in_default-clause-stops g c =
    let p = err_from_is_err_and c.from_residual-in_err-question-in_default.result
    c.from_residual-in_err-question-in_default.ensures.1 in
    rw (p.1, p.2) (StopsAsking-texts c.args.job.now _ c.in_err-question-in_default.field-0.0
    (record {
      made = c.in_default.not-Generate;
      checked = c.in_default.not-Check;
      watched = c.in_default.not-Watch;
    })
    c.in_err-question-in_default.ensures.refuses refl)
