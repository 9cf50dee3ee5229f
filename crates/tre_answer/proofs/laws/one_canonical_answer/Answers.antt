use Rattle.tre_answer.proofs.Canonical.{canonical_text, canonical_count, never_both, same_itself, same_zones}
use Rattle.tre_answer.proofs.laws.one_canonical_answer.Goals as goal

pub returns : goal.returns
returns c = record {
  text = canonical_text;
  count = canonical_count;
  apart = never_both;
  itself = same_itself;
  zones = same_zones;
}
