use Rattle.std.proofs.Common.{◌∙◌, [], ◌∷◌, ap, map, rules}
use Rattle.std.proofs.lemmas.List.{length-map}
use Rattle.tre_syntax.specs.Pattern.{names_of}
use Rattle.tre_vcd.specs.Needs.{definitions_of, needs}
use Rattle.tre_vcd.specs.VcdReading.{vcd_recording}
use Rattle.tre_feed.specs.Dump.{dump_terms}
use Rattle.tre_feed.proofs.Inputs.{if_ok_then}
use Rattle.tre_feed.proofs.Needing.{needs-alike}
use Rattle.tre_vcd.specs.contracts.token_reader.TokenReaderPartReader.TheImpl.{ghosts as token_reader}
use Rattle.tre_feed.proofs.Parts.{parts_names}
use Rattle.tre_feed.proofs.Grouping.{AreRead-shared}
use Rattle.tre_feed.proofs.dump.dump_input.Goals as goal

pub new-requires-clause-some : goal.new-requires-clause-some
new-requires-clause-some c =
    search (rules, AreRead-shared, parts_names, length-map, c.in_ok-shares.shares.groups.items)

pub new-requires-clause-within : goal.new-requires-clause-within
new-requires-clause-within c =
    search (rules, AreRead-shared, parts_names, token_reader, c.in_ok-shares.shares.groups.items)

pub returns-clause-asks : goal.returns-clause-asks
returns-clause-asks c = c.new.ensures.asks (map names_of c.args.patterns.now)
    (AreRead-shared (parts_names token_reader.names) (map names_of c.args.patterns.now)
    c.in_ok-shares.shares.groups.items c.in_ok-shares.shares.views.items _
    c.in-Ok.readers.items
    (c.in-Ok.ensures.names ∙ c.deref.ensures.value ∙ c.into_parts-groups.ensures.groups)
    c.into_parts-groups.ensures.views c.in_ok-shares.ensures.each).each

pub returns-clause-new : goal.returns-clause-new
returns-clause-new c = c.new.ensures.new
    (dump_terms (needs c.in_ok-needed.needed.value ∷ []) c.args.scale c.args.unit
    (definitions_of c.in_ok-needed.needed.value)) c.in-Ok.ensures.fresh

pub returns-clause-recording : goal.returns-clause-recording
returns-clause-recording c =
    if_ok_then c.new.result _ _
    (λ input is. is
    ∙ ap (λ defined. vcd_recording (dump_terms (needs c.in_ok-needed.needed.value ∷ [])
    c.args.scale c.args.unit defined)) c.in_ok-needed.ensures.definitions
    ∙ needs-alike (needs c.in_ok-needed.needed.value)
    (map names_of c.args.patterns.now) c.args.scale c.args.unit c.args.definitions.now
    c.in_ok-needed.ensures.needs)
    (c.new.ensures.recording
    (dump_terms (needs c.in_ok-needed.needed.value ∷ []) c.args.scale c.args.unit
    (definitions_of c.in_ok-needed.needed.value)) c.in-Ok.ensures.fresh)
