-- The answer to what is asked, before the input is opened and where none is read.
use Rattle.std.proofs.Common.{◌≡◌, ◌∙◌, ℕ, zero, suc, List, [], ◌∷◌, ◌++◌, All, length, get_or, flat_map, map, codes, Bool, false, string_bytes, Result, Err, inr, refl, sym, ap, subst, append-nil, arith}
use Rattle.tre_feed.specs.Input.{InputTold, AllReadsGood}
use Rattle.tre_feed.specs.declared.fault.Fault.{Fault}
use Rattle.tre_feed.specs.declared.fault.Fault.TheVariants.{Memory}
use Rattle.tre_generate.specs.Summary.{IsSummary}
use Rattle.tre_answer.specs.declared.asked.Definitions.{Definitions}
use Rattle.tre_show.specs.PatternText.{expression_text}
use Rattle.tre_syntax.specs.Pattern.{pattern_tree, names_of}
use Rattle.tre_syntax.specs.declared.pattern.Pattern.{Pattern}
use Rattle.tre_tell.specs.Outputs.{OutputTold, NothingWritten}
use Rattle.tre_tell.specs.Sought.{Sought, sought_by}
use Rattle.tre_tell.proofs.Loop.{StandsAtMemory-unread}
use Rattle.tre_trace.specs.Reading.{Recording}
use Rattle.tre_words.specs.declared.job.Job.{Job}
use Rattle.tre_words.specs.declared.job.Mode.{Mode}
use Rattle.tre_words.specs.declared.job.Mode.TheVariants.{Show, Generate}
use Rattle.tre_answer.specs.Ends.{EndsOver, IsAnswerIn}
use Rattle.tre_answer.specs.Parts.{IsFoundFor}
use Rattle.tre_answer.specs.Request.{FitsJob, request_for, request_over}
use Rattle.tre_answer.specs.declared.asked.Asked.{Asked}
use Rattle.tre_answer.proofs.Recorded.{labels_fit, nothing_said}

-- ---- where memory was wanting before the input was opened

pub EndsOver-early : (job : Job) (definitions : Definitions) (asked : Asked) (input : InputTold)
    (output : OutputTold) → input.now.opened ≡ false → AllReadsGood input
    → NothingWritten output
    → EndsOver (request_for job definitions asked) input output (Err Memory)
EndsOver-early job definitions asked input output closed reads unwritten = (
  reads,
  StandsAtMemory-unread (request_for job definitions asked) (nothing_said job definitions asked)
      input output (λ is_open. cc) unwritten (λ is_open. cc),
)

-- ---- what the input says

-- an answer over what an input says is one over what is asked for
pub EndsOver-said : (job : Job) (asked : Asked) (input : InputTold) (output : OutputTold)
    (result : Result ℕ Fault) (said other : Bool → List ℕ → Recording) → said ≡ other
    → EndsOver (request_over job asked said) input output result
    → EndsOver (request_over job asked other) input output result
EndsOver-said job asked input output result said other same =
    subst (λ recording. EndsOver (request_over job asked recording) input output result) same

-- ---- where no input is read

shown_one : (scale : ℕ) (labels : List (List ℕ)) (patterns : List Pattern) (pattern : Pattern)
    (text : List ℕ) → length labels ≡ length patterns → length patterns ≡ 1
    → pattern ≡ get_or patterns 0 pattern
    → text ≡ expression_text scale (names_of pattern) (pattern_tree pattern) ++ codes "\n"
    → text ≡ flat_map (λ (sought : Sought). expression_text scale sought.names sought.tree
    ++ codes "\n") (sought_by labels patterns)
shown_one scale (label ∷ []) (first ∷ []) pattern text count one is same =
    same
    ∙ (ap (λ (p : Pattern). expression_text scale (names_of p) (pattern_tree p) ++ codes "\n") is
    ∙ sym (append-nil (expression_text scale (names_of first) (pattern_tree first)
    ++ codes "\n")))
shown_one scale labels [] pattern text count one is same = absurd (omega (arith, one))
shown_one scale labels (first ∷ second ∷ patterns) pattern text count one is same =
    absurd (omega (arith, one))
shown_one scale [] (first ∷ []) pattern text count one is same = absurd (omega (arith, count))
shown_one scale (label ∷ other ∷ labels) (first ∷ []) pattern text count one is same =
    absurd (omega (arith, count))

made_one : (count : ℕ) (labels : List (List ℕ)) (patterns : List Pattern) (pattern copy : Pattern)
    (text : List ℕ) → length labels ≡ length patterns → length patterns ≡ 1
    → pattern ≡ get_or patterns 0 pattern → pattern_tree copy ≡ pattern_tree pattern
    → IsSummary (pattern_tree copy) count text
    → All (λ (sought : Sought). IsSummary sought.tree count text) (sought_by labels patterns)
made_one count (label ∷ []) (first ∷ []) pattern copy text same one is copied summary zero d below =
    subst (λ tree. IsSummary tree count text) (copied ∙ ap pattern_tree is) summary
made_one count (label ∷ []) (first ∷ []) pattern copy text same one is copied summary (suc k) d
    below = absurd (omega (arith, below))
made_one count labels [] pattern copy text same one is copied summary k d below =
    absurd (omega (arith, one))
made_one count labels (first ∷ second ∷ patterns) pattern copy text same one is copied summary k d
    below = absurd (omega (arith, one))
made_one count [] (first ∷ []) pattern copy text same one is copied summary k d below =
    absurd (omega (arith, same))
made_one count (label ∷ other ∷ labels) (first ∷ []) pattern copy text same one is copied summary k
    d below = absurd (omega (arith, same))

module _ (job : Job) (definitions : Definitions) (asked : Asked) (fits : FitsJob job asked)
    (alone : length asked.patterns.items ≡ 1) (pattern : Pattern)
    (first : pattern ≡ get_or asked.patterns.items 0 pattern) (input : InputTold)
    (reads : AllReadsGood input) (text : List ℕ) where
  shown_in : (mode : Mode) → mode ≡ Show
      → text ≡ expression_text job.scale (names_of pattern) (pattern_tree pattern) ++ codes "\n"
      → IsAnswerIn mode 0 (request_for job definitions asked) input [] text
  shown_in mode is same = rw is (shown_one job.scale (map string_bytes asked.labels.items)
      asked.patterns.items pattern text (labels_fit job definitions asked fits) alone first same)

  made_in : (mode : Mode) (count : ℕ) (copy : Pattern) → mode ≡ Generate count
      → pattern_tree copy ≡ pattern_tree pattern → IsSummary (pattern_tree copy) count text
      → IsAnswerIn mode 0 (request_for job definitions asked) input [] text
  made_in mode count copy is copied summary = rw is (made_one count
      (map string_bytes asked.labels.items) asked.patterns.items pattern copy text
      (labels_fit job definitions asked fits) alone first copied summary)

  -- the pattern's text is the answer
  pub shown_for : job.mode ≡ Show
      → text ≡ expression_text job.scale (names_of pattern) (pattern_tree pattern) ++ codes "\n"
      → IsFoundFor 0 (request_for job definitions asked) input text
  shown_for is same = record { reads = reads; right = shown_in job.mode is same; unchecked = inr refl }

  -- the summary of a made run is
  pub made_for : (count : ℕ) (copy : Pattern) → job.mode ≡ Generate count
      → pattern_tree copy ≡ pattern_tree pattern → IsSummary (pattern_tree copy) count text
      → IsFoundFor 0 (request_for job definitions asked) input text
  made_for count copy is copied summary =
      record {
        reads = reads;
        right = made_in job.mode count copy is copied summary;
        unchecked = inr refl;
      }
