use Rattle.std.proofs.Common.{◌∙◌, ap, bit_and}
use Rattle.std.proofs.lemmas.Nat.{and_mask}
use Rattle.tre_feed.proofs.places.bits_below.Goals as goal

pub returns : goal.returns
returns c = ap (bit_and c.args.bits) c.all_below.ensures ∙ and_mask c.args.bits c.args.place
