use Rattle.std.proofs.Common.{refl}
use Rattle.tre_zone.specs.ZoneList.{SetHolds}
use Rattle.tre_judge.specs.Verdicts.{Unanswered}
use Rattle.tre_judge.proofs.Deciding.{some_pair, no_pair, own_pair, own_none, nothing}
use Rattle.tre_judge.proofs.judging.judge_sets.Goals as goal

pub returns-then-not-is_empty : goal.returns-then-not-is_empty
returns-then-not-is_empty c = record {
  verdict_is = some_pair c.in_ok-failing.failing (Unanswered c.args.form
      (SetHolds c.args.subject.now) (SetHolds c.args.may.now)) c.in_ok-failing.ensures
      c.zones-failing.ensures.tight (λ h. let e = c.if-not-is_empty.ensures.1 h in (cc));
  exact = c.in_ok-failing.ensures;
}

pub returns-then-is_empty : goal.returns-then-is_empty
returns-then-is_empty c = record {
  verdict_is = own_none c.args.subject.now (c.if-is_empty.ensures.0 refl);
  exact = nothing c.in_ok-failing.failing (c.if-not-is_empty.ensures.0 refl);
}

pub returns-then-is_empty-2 : goal.returns-then-is_empty-2
returns-then-is_empty-2 c = record {
  verdict_is = (
    no_pair c.in_ok-waiting.waiting (Unanswered c.args.form (SetHolds c.args.subject.now)
        (SetHolds c.args.answers.now)) c.in_ok-waiting.ensures (c.if-is_empty-2.ensures.0 refl),
    own_pair c.args.subject.now c.zones-subject.ensures.tight
        (λ h. let e = c.if-is_empty.ensures.1 h in (cc)),
  );
  exact = nothing c.in_ok-waiting.waiting (c.if-is_empty-2.ensures.0 refl);
}

pub returns : goal.returns
returns c = record {
  verdict_is = (
    no_pair c.in_ok-failing.failing (Unanswered c.args.form (SetHolds c.args.subject.now)
        (SetHolds c.args.may.now)) c.in_ok-failing.ensures (c.if-not-is_empty.ensures.0 refl),
    some_pair c.in_ok-waiting.waiting (Unanswered c.args.form (SetHolds c.args.subject.now)
        (SetHolds c.args.answers.now)) c.in_ok-waiting.ensures c.zones-waiting.ensures.tight
        (λ h. let e = c.if-is_empty-2.ensures.1 h in (cc)),
  );
  exact = c.in_ok-waiting.ensures;
}
