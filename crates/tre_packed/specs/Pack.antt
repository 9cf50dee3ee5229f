-- How segments are packed.
use Rattle.std.specs.Prelude.{◌≡◌, List, All}
use Rattle.tre_packed.specs.Offsets.{items_in}
use Rattle.tre_packed.specs.Said.{said_from}
use Rattle.tre_packed.specs.Times.{AreOffsets}
use Rattle.tre_packed.specs.Said.{HasBits}
use Rattle.tre_packed.specs.declared.blocks.Blocks.{Blocks}
use Rattle.tre_trace.specs.Beside.{AreBeside}
use Rattle.tre_trace.specs.Trace.{end_of, IsTrace}
use Rattle.tre_trace.specs.declared.segment.Segment.{Segment}

-- The blocks have these segments, which are a trace.
pub record IsPack (segments : List Segment) (blocks : Blocks) : Type 0 where
  pub trace : IsTrace segments
  pub bits : All HasBits segments
  pub end : blocks.end ≡ end_of 0 segments
  pub offsets : AreOffsets segments (items_in blocks.offsets)
  pub planes : AreBeside segments blocks.planes
  pub said : blocks.said.items ≡ said_from 0 segments
