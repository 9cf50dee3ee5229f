use Rattle.std.proofs.Common.{ℕ}
use Rattle.tre_tell.proofs.OnlineTexts.{FrontTells, text_once}
use Rattle.tre_tell.proofs.laws.one_online_text.Goals as goal

pub returns : goal.returns
returns c =
    let tells : (scale : ℕ) → FrontTells scale = λ scale. record {
      lines = c.one_front.ensures.lines scale;
      number = c.one_front.ensures.number scale;
    } in
    record {
      blocks = λ scale blocks others closing ending trace other are are' same.
          (text_once scale (tells scale) blocks others closing ending trace other are are'
          same).blocks_same;
      closings = λ scale blocks others closing ending trace other are are' same.
          (text_once scale (tells scale) blocks others closing ending trace other are are'
          same).closing_same;
      lengths = λ scale blocks others closing ending trace other are are' same.
          (text_once scale (tells scale) blocks others closing ending trace other are are'
          same).lengths_same;
    }
