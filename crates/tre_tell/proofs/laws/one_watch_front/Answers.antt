use Rattle.std.proofs.Common.{ℕ}
use Rattle.tre_tell.proofs.WatchTexts.{RowTells, tells_of, front_once}
use Rattle.tre_tell.proofs.laws.one_watch_front.Goals as goal

pub returns : goal.returns
returns c =
    let tells : (scale : ℕ) → RowTells scale = λ scale.
    tells_of scale (c.one_front.ensures.line scale) (c.one_front.ensures.number scale) (record {
      read = c.written_is_read.ensures scale;
      digit = c.begins_with_a_digit.ensures scale;
    }) in
    record {
      blocks = λ scale accounts others segments seconds are are' labels same.
          (front_once scale (tells scale) accounts others segments seconds are are' labels
          same).blocks_same;
      lengths = λ scale accounts others segments seconds are are' labels same.
          (front_once scale (tells scale) accounts others segments seconds are are' labels
          same).lengths_same;
    }
