-- Where the canonical zones are asked for, checks of which the same becomes have one text.
use Rattle.std.proofs.Common.{◌≡◌, ℕ, ◌<◌, ◌≤◌, ◌↔◌, true, List, [], ◌∷◌, drop, get_or, refl, sym, subst, ap, ◌∙◌}
use Rattle.tre_judge.proofs.Ordered.{IsOrdered-Shown}
use Rattle.tre_judge.specs.Verdicts.{ShownOver}
use Rattle.tre_judge.specs.declared.verdict.Verdict.{Verdict}
use Rattle.tre_pairs.proofs.Laws.{IsOrdered}
use Rattle.tre_syntax.specs.Begun.{MayMatch}
use Rattle.tre_syntax.specs.Meaning.{Matches}
use Rattle.tre_syntax.specs.PatternTree.{PatternTree}
use Rattle.tre_syntax.specs.Rest.{whole, AtomMatches}
use Rattle.tre_syntax.proofs.Atoms.{IsOrdered-Atom, IsInstant-Empty}
use Rattle.tre_syntax.proofs.MeaningLaws.{IsOrdered-Meaning}
use Rattle.tre_tell.specs.Request.{Request}
use Rattle.tre_tell.specs.Sought.{Sought}
use Rattle.tre_trace.specs.Trace.{Timeline}
use Rattle.tre_watch.specs.Forms.{patterns_of}
use Rattle.tre_watch.specs.declared.form.Form.{Form}
use Rattle.tre_zone.specs.ZoneList.{SetHolds}
use Rattle.tre_zone.specs.declared.zone_bounds.ZoneBounds.{ZoneBounds}
use Rattle.tre_answer.proofs.Canonical.{one_strips}
use Rattle.tre_answer.specs.Alike.{SayTheSame}
use Rattle.tre_answer.specs.Findings.{Finding, AreFindings, IsCheckedAnswer, findings_text}
use Rattle.tre_answer.specs.Said.{end_for}
use Rattle.tre_answer.specs.Wanted.{AreZonesOf}

-- the zones are those of what some check of some patterns shows
record IsShown (finding : Finding) : Type 0 where
  form : Form
  tree : PatternTree
  trace : Timeline
  second : PatternTree
  other : Timeline
  shown : AreZonesOf true (ShownOver form finding.verdict tree trace second other) finding.zones

abbrev AreShown : List Finding → Type 0
AreShown [] = Unit {0}
AreShown (finding ∷ findings) = IsShown finding × AreShown findings

are_shown : (forms : List Form) (patterns : List Sought) (traces : List Timeline)
    (findings : List Finding) → AreFindings true forms patterns traces findings → AreShown findings
are_shown [] patterns traces [] are = tt
are_shown (form ∷ forms) (pattern ∷ patterns) (trace ∷ traces) (finding ∷ findings) are = (
  record {
    form = form;
    tree = pattern.tree;
    trace = trace;
    second = (get_or patterns 0 pattern).tree;
    other = get_or traces 0 trace;
    shown = are.1.shown;
  },
  are_shown forms (drop (patterns_of form) (pattern ∷ patterns))
      (drop (patterns_of form) (trace ∷ traces)) findings are.2,
)
are_shown [] patterns traces (finding ∷ findings) are = absurd are
are_shown (form ∷ forms) [] traces findings are = absurd are
are_shown (form ∷ forms) (pattern ∷ patterns) [] findings are = absurd are
are_shown (form ∷ forms) (pattern ∷ patterns) (trace ∷ traces) [] are = absurd are

-- what is shown of matches is rising
shown_rising : (finding : Finding) (is : IsShown finding)
    → IsOrdered (ShownOver is.form finding.verdict is.tree is.trace is.second is.other)
shown_rising finding is = IsOrdered-Shown is.form finding.verdict (Matches is.tree is.trace)
    (MayMatch is.second is.other) (Matches is.second is.other)
    (IsOrdered-Meaning (AtomMatches (whole is.trace)) (IsOrdered-Atom (whole is.trace))
    (IsInstant-Empty (whole is.trace)) is.tree)

same_zones : (one other : Finding) → IsShown one → IsShown other
    → ((a b n : ℕ) → 0 < n → a ≤ b → SetHolds one.zones a b n ↔ SetHolds other.zones a b n)
    → one.zones ≡ other.zones
same_zones one other is is' same = one_strips true true
    (ShownOver is.form one.verdict is.tree is.trace is.second is.other)
    (ShownOver is'.form other.verdict is'.tree is'.trace is'.second is'.other)
    one.zones other.zones refl refl (λ a b n some. (
      (λ h. let le = (shown_rising one is).le a b n h in
          (is'.shown.exact.exact a b n some le).0
          ((same a b n some le).0 ((is.shown.exact.exact a b n some le).1 h))),
      (λ h. let le = (shown_rising other is').le a b n h in
          (is.shown.exact.exact a b n some le).0
          ((same a b n some le).1 ((is'.shown.exact.exact a b n some le).1 h))),
    )) is.shown is'.shown

same_findings : (findings others : List Finding) → AreShown findings → AreShown others
    → SayTheSame findings others → findings ≡ others
same_findings [] [] are are' same = refl
same_findings (one ∷ findings) (other ∷ others) are are' same =
    let zones = same_zones one other are.0 are'.0 same.2 in
    let rest = same_findings findings others are.1 are'.1 same.3 in
    ap (λ (name : List ℕ). record one { name = name } ∷ findings) same.0
    ∙ (ap (λ (verdict : Verdict).
    record one { name = other.name; verdict = verdict } ∷ findings) same.1
    ∙ (ap (λ (zones : List ZoneBounds).
    record other { zones = zones } ∷ findings) zones
    ∙ ap (λ (list : List Finding). other ∷ list) rest))
same_findings [] (other ∷ others) are are' same = absurd same
same_findings (one ∷ findings) [] are are' same = absurd same

pub checked_text : (one other : Request) (bytes others : List ℕ) (failed second : ℕ)
    (text texts : List ℕ) (first : IsCheckedAnswer one bytes failed text)
    (last : IsCheckedAnswer other others second texts) → one.job.normal ≡ true
    → other.job.normal ≡ true → one.job.scale ≡ other.job.scale
    → end_for one bytes ≡ end_for other others → SayTheSame first.findings last.findings
    → text ≡ texts
checked_text one other bytes others failed second text texts first last is is' scale end same =
    let shown = are_shown one.forms one.patterns first.right.traces first.findings
    (subst (λ b. AreFindings b one.forms one.patterns first.right.traces first.findings) is
    first.right.found) in
    let shown' = are_shown other.forms other.patterns last.right.traces last.findings
    (subst (λ b. AreFindings b other.forms other.patterns last.right.traces last.findings) is'
    last.right.found) in
    let findings = same_findings first.findings last.findings shown shown' same in
    first.printed
    ∙ (ap (λ scale. findings_text scale first.findings (end_for one bytes)) scale
    ∙ (ap (λ list. findings_text other.job.scale list (end_for one bytes)) findings
    ∙ (ap (findings_text other.job.scale last.findings) end ∙ sym last.printed)))
