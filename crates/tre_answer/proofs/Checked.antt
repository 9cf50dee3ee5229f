-- What was found of checks over a whole input.
use Rattle.std.proofs.Common.{◌≡◌, ℕ, ◌<◌, ◌≤◌, Bool, true, List, [], length, Option, IfSome, IsSomeAnd, inl, refl, sym, ap}
use Rattle.std.specs.Io.KnownBytes.{IsAtEnd}
use Rattle.tre_feed.specs.Input.{InputTold}
use Rattle.tre_feed.specs.declared.fault.Fault.{Fault}
use Rattle.tre_feed.specs.declared.fault.Fault.TheVariants.{Trace, TooLong, TooManyZones, Read, Write, Memory}
use Rattle.tre_tell.specs.Request.{Request}
use Rattle.tre_tell.specs.Streams.{OfBytes}
use Rattle.tre_trace.specs.Trace.{Timeline}
use Rattle.tre_watch.specs.Forms.{patterns_in}
use Rattle.tre_watch.specs.declared.form.Form.{Form}
use Rattle.tre_words.specs.Job.{is_whole}
use Rattle.tre_words.specs.declared.job.Mode.{Mode}
use Rattle.tre_words.specs.declared.job.Mode.TheVariants.{Offline, Online, Show, Generate, Watch, Check}
use Rattle.tre_answer.specs.Ends.{AreTooManyIn, IsAnswerIn, has_checks}
use Rattle.tre_answer.specs.Findings.{AreFindings, AreFindingsFor, ChecksHaveTooMany, Finding, IsCheckedAnswer, failed_in, findings_text, zones_in}
use Rattle.tre_answer.specs.Parts.{IsFoundFor, IsLimitFault, IsReadAs, StopsAs}
use Rattle.tre_answer.specs.Request.{FitForms}
use Rattle.tre_answer.proofs.Found.{StopsAs-wanting, of_read}

-- ---- a mode that has checks

pub checks_whole : (mode : Mode) → has_checks mode ≡ true → is_whole mode ≡ true
checks_whole Offline has = absurd (cc)
checks_whole Online has = absurd (cc)
checks_whole Show has = absurd (cc)
checks_whole (Generate count) has = absurd (cc)
checks_whole (Watch file) has = absurd (cc)
checks_whole (Check file) has = refl

pub checks_fit : (mode : Mode) (forms : List Form) (count : ℕ) → has_checks mode ≡ true
    → FitForms mode forms count → patterns_in forms ≡ count
checks_fit Offline forms count has fits = absurd (cc)
checks_fit Online forms count has fits = absurd (cc)
checks_fit Show forms count has fits = absurd (cc)
checks_fit (Generate made) forms count has fits = absurd (cc)
checks_fit (Watch file) forms count has fits = absurd (cc)
checks_fit (Check file) forms count has fits = fits

checked_answer : (mode : Mode) (failed : ℕ) (request : Request) (input : InputTold)
    (front text : List ℕ) → has_checks mode ≡ true → IsAtEnd input.now.left
    → OfBytes input (λ bytes. IsCheckedAnswer request bytes failed text)
    → IsAnswerIn mode failed request input front text
checked_answer Offline failed request input front text has ended of = absurd (cc)
checked_answer Online failed request input front text has ended of = absurd (cc)
checked_answer Show failed request input front text has ended of = absurd (cc)
checked_answer (Generate count) failed request input front text has ended of = absurd (cc)
checked_answer (Watch file) failed request input front text has ended of = absurd (cc)
checked_answer (Check file) failed request input front text has ended of = (ended, of)

too_many : (mode : Mode) (request : Request) (input : InputTold) (count : ℕ)
    → has_checks mode ≡ true → OfBytes input (λ bytes. ChecksHaveTooMany request bytes count)
    → OfBytes input (λ bytes. AreTooManyIn mode request bytes count)
too_many Offline request input count has of = absurd (cc)
too_many Online request input count has of = absurd (cc)
too_many Show request input count has of = absurd (cc)
too_many (Generate made) request input count has of = absurd (cc)
too_many (Watch file) request input count has of = absurd (cc)
too_many (Check file) request input count has of = of

-- ---- what was found

module _ (request : Request) (input : InputTold) (traces : List Timeline) (end : ℕ)
    (read : IsReadAs request input traces end) (findings : List Finding)
    (found : AreFindings request.job.normal request.forms request.patterns traces findings)
    (has : has_checks request.job.mode ≡ true) where
  right_findings : AreFindingsFor request read.bytes findings
  right_findings = record { traces = traces; are = read.are; found = found }

  -- the text of the answer
  pub IsFoundFor-checks : IfSome request.job.max_zones (λ most. zones_in findings ≤ most)
      → IsFoundFor (failed_in findings) request input (findings_text request.job.scale findings end)
  IsFoundFor-checks few = record {
    reads = read.reads;
    right = checked_answer request.job.mode (failed_in findings) request input [] _ has
        read.all.all_read
        (of_read request input traces end read (λ bytes. IsCheckedAnswer request bytes
        (failed_in findings) (findings_text request.job.scale findings end)) (record {
          findings = findings;
          right = right_findings;
          few = few;
          fail = refl;
          printed = ap (findings_text request.job.scale findings) read.ends;
        }));
    unchecked = inl has;
  }

  -- there are too many zones, or no number says how many
  pub StopsAs-limit : (fault : Fault)
      → IsLimitFault (zones_in findings) request.job.max_zones fault → StopsAs request input fault
  StopsAs-limit (Trace fault) limit = absurd limit
  StopsAs-limit TooLong limit = absurd limit
  StopsAs-limit (TooManyZones count) limit = λ output unwritten. record {
    whole = checks_whole request.job.mode has;
    ended = read.all.all_read;
    cause = too_many request.job.mode request input count has
        (of_read request input traces end read (λ bytes. ChecksHaveTooMany request bytes count)
        (record {
          findings = findings;
          right = right_findings;
          counted = sym limit.0;
          many = rw limit.0 limit.1;
        }));
    nothing = unwritten;
  }
  StopsAs-limit Read limit = absurd limit
  StopsAs-limit Write limit = absurd limit
  StopsAs-limit Memory limit =
      StopsAs-wanting request input (checks_whole request.job.mode has) read.reads
