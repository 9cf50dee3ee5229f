-- What fails has no answer: what is a match may be one.
use Rattle.std.proofs.Common.{◌≡◌, ℕ, true, inl}
use Rattle.tre_judge.specs.Verdicts.{Fails, Unanswered}
use Rattle.tre_syntax.specs.Begun.{MayMatch}
use Rattle.tre_syntax.specs.Meaning.{Matches}
use Rattle.tre_syntax.specs.PatternTree.{PatternTree}
use Rattle.tre_trace.specs.Trace.{Timeline}
use Rattle.tre_watch.specs.Forms.{has_arrow}
use Rattle.tre_watch.specs.declared.form.Form.{Form}
use Rattle.tre_watch.specs.declared.form.Form.TheVariants.{Plain, Never, Found, Same, Follows}

pub failing : (form : Form) (tree second : PatternTree) (trace other : Timeline) (a b n : ℕ)
    → has_arrow form ≡ true → Fails form (Matches tree trace) (MayMatch second other) a b n
    → Unanswered form (Matches tree trace) (Matches second other) a b n
failing Plain tree second trace other a b n two h = h
failing Never tree second trace other a b n two h = absurd cc
failing Found tree second trace other a b n two h = h
failing Same tree second trace other a b n two h =
    record { related = h.related; never = λ is. h.never (inl is) }
failing Follows tree second trace other a b n two h = record {
  related = h.related;
  never = λ leads. h.never (record {
    factor = leads.factor;
    positive = leads.positive;
    to = leads.to;
    led = inl leads.led;
  });
}
