use Rattle.std.proofs.Common.{◌∙◌, map, rules}
use Rattle.std.proofs.lemmas.List.{length-map}
use Rattle.tre_syntax.specs.Pattern.{names_of}
use Rattle.tre_text.specs.contracts.line_reader.LineReaderPartReader.TheImpl.{ghosts as line_reader}
use Rattle.tre_feed.proofs.Parts.{parts_names}
use Rattle.tre_feed.proofs.Grouping.{AreRead-shared}
use Rattle.tre_feed.proofs.text.text_input.Goals as goal

pub new-requires-clause-some : goal.new-requires-clause-some
new-requires-clause-some c =
    search (rules, AreRead-shared, parts_names, length-map, c.in_ok-shares.shares.groups.items)

pub new-requires-clause-within : goal.new-requires-clause-within
new-requires-clause-within c =
    search (rules, AreRead-shared, parts_names, line_reader, c.in_ok-shares.shares.groups.items)

pub returns-clause-asks : goal.returns-clause-asks
returns-clause-asks c = c.new.ensures.asks (map names_of c.args.patterns.now)
    (AreRead-shared (parts_names line_reader.names) (map names_of c.args.patterns.now)
    c.in_ok-shares.shares.groups.items c.in_ok-shares.shares.views.items _
    c.in-Ok.readers.items
    (c.in-Ok.ensures.names ∙ c.deref.ensures.value ∙ c.into_parts-groups.ensures.groups)
    c.into_parts-groups.ensures.views c.in_ok-shares.ensures.each).each

pub returns-clause-new : goal.returns-clause-new
returns-clause-new c = c.new.ensures.new c.args.scale c.in-Ok.ensures.fresh

pub returns-clause-recording : goal.returns-clause-recording
returns-clause-recording c = c.new.ensures.recording _ c.in-Ok.ensures.fresh
