-- What is told of an input as it comes, and what of that stands in the output.
use Rattle.std.specs.Prelude.{◌≡◌, ℕ, ◌≤◌, Bool, true, false, All, List, [], ◌∷◌, ◌++◌, length, map, take, IfSome, IsTrue}
use Rattle.std.specs.Io.KnownBytes.{IsAtEnd}
use Rattle.tre_feed.specs.Input.{InputTold, WereRead}
use Rattle.tre_feed.specs.declared.TheConstants.{PIECE}
use Rattle.tre_trace.specs.Reading.{Stretch, no_names, segments_for}
use Rattle.tre_trace.specs.Trace.{Timeline, quiet}
use Rattle.tre_tell.specs.Blocks.{AreAccounts, blocks_from, ending_text}
use Rattle.tre_tell.specs.Outputs.{OutputTold}
use Rattle.tre_tell.specs.Request.{Request, AreReadAs}
use Rattle.tre_tell.specs.Sought.{Sought}
use Rattle.tre_tell.specs.Streams.{WroteText}
use Rattle.tre_tell.specs.Transcript.{Account, IsClosing}

abbrev pub fronts : List Sought → List Stretch → List Timeline
fronts patterns stretches =
    map (λ pattern. quiet (segments_for pattern.names stretches)) patterns

-- The text of the blocks of stretches, which tells when each ends.
abbrev pub blocks_for : Request → List Account → List Stretch → List ℕ
blocks_for request accounts stretches =
    blocks_from request.job.scale accounts 0 0 (segments_for no_names stretches)

-- The blocks of these stretches were written, and nothing else.
pub record BlocksStand (request : Request) (output : OutputTold) (stretches : List Stretch)
    : Type 0 where
  pub accounts : List Account
  pub are : AreAccounts request.patterns (fronts request.patterns stretches) accounts
  pub stand : WroteText output (blocks_for request accounts stretches)

-- All stretches that are known are `told`, and then `more`. The bytes were `earlier` when the last
-- read began, which gave the piece; what was complete then is told. They are closed only at the
-- end, within the limit.
pub record IsPrompt (request : Request) (input : InputTold) (told more : List Stretch) : Type 0
  where
    pub earlier : List ℕ
    pub piece : List ℕ
    pub short : length piece ≤ PIECE
    pub behind : IsTrue input.now.opened →
        IfSome input.before.file (λ all. IfSome input.now.found (λ rest. all ≡ earlier ++ rest))
    pub read : WereRead input (earlier ++ piece)
    pub closed : Bool
    pub ended : closed ≡ true →
        IsAtEnd input.now.left × (length (earlier ++ piece) ≤ request.job.max_bytes)
    pub known : told ++ more
        ≡ (request.recording closed (take request.job.max_bytes (earlier ++ piece))).stretches
    pub prompt : length (request.recording false (take request.job.max_bytes earlier)).stretches
        ≤ length told

-- The text is the blocks of the stretches that are told and of one more; the front lacks that one.
pub record IsNextBlock (request : Request) (input : InputTold) (front text : List ℕ) : Type 0 where
  pub opened : IsTrue input.now.opened
  pub told : List Stretch
  pub next : Stretch
  pub more : List Stretch
  pub prompt : IsPrompt request input told (next ∷ more)
  pub accounts : List Account
  pub are : AreAccounts request.patterns (fronts request.patterns (told ++ next ∷ [])) accounts
  pub front_is : front ≡ blocks_for request accounts told
  pub text_is : text ≡ blocks_for request accounts (told ++ next ∷ [])

-- The text tells all of an input of these bytes: the blocks, its front, and what the end completes.
pub record IsOnlineAnswer (request : Request) (bytes front text : List ℕ) : Type 0 where
  pub traces : List Timeline
  pub are : AreReadAs request bytes traces
  pub accounts : List Account
  pub told : AreAccounts request.patterns traces accounts
  pub closed : All IsClosing accounts
  pub front_is : front ≡ blocks_for request accounts (request.recording true bytes).stretches
  pub text_is : text ≡ front ++ ending_text request.job.scale accounts
      (segments_for no_names (request.recording true bytes).stretches)
