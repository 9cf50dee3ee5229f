use Rattle.std.proofs.Common.{◌≡◌, ◌<◌, length, false, slice_index}
use Rattle.std.specs.List.{list_all}
use Rattle.tre_text.specs.TextReading.{is_blank, spells_word, fields_among}
use Rattle.tre_text.specs.Lines.{bits_after}
use Rattle.tre_text.specs.Words.{IsRest}
use Rattle.tre_text.proofs.line.read_names.Given as goal

-- the fields so far are names, and their bits are set
abbrev pub invariant-loop-rest : goal.invariant-loop-rest
invariant-loop-rest l =
    let all = fields_among l.fn.fields in
    let left = fields_among l.rest in
    record {
      words : list_all spells_word all ≡ list_all spells_word left;
      value : bits_after l.names l.bits all ≡ bits_after l.names l.valuation left;
      rest : IsRest l.fn.fields l.rest;
      first : 0 < length l.rest → is_blank (slice_index l.rest 0) ≡ false;
    }

abbrev pub decreases-loop-rest : goal.decreases-loop-rest
decreases-loop-rest l = length l.rest
