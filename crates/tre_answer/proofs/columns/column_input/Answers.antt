use Rattle.std.proofs.Common.{◌∙◌, ap, map, rules}
use Rattle.std.proofs.lemmas.List.{length-map}
use Rattle.std.proofs.lemmas.Result.{IfOk-weaker}
use Rattle.tre_num.specs.Needs.{terms_of}
use Rattle.tre_num.specs.Rows.{rows_recording}
use Rattle.tre_num.specs.contracts.reader.ColumnsReaderTraceReader.TheImpl.{ghosts as columns_reader}
use Rattle.tre_syntax.specs.Pattern.{names_of}
use Rattle.tre_feed.proofs.Grouping.{AreRead-shared}
use Rattle.tre_answer.proofs.Recorded.{rows_terms}
use Rattle.tre_answer.proofs.columns.column_input.Goals as goal

pub new-requires-clause-some : goal.new-requires-clause-some
new-requires-clause-some c =
    search (rules, AreRead-shared, length-map, c.in-Ok.shares.groups.items)

pub new-requires-clause-within : goal.new-requires-clause-within
new-requires-clause-within c =
    search (rules, AreRead-shared, columns_reader, c.in-Ok.shares.groups.items)

pub returns-clause-asks : goal.returns-clause-asks
returns-clause-asks c = c.new.ensures.asks (map names_of c.args.patterns.now)
    (AreRead-shared columns_reader.names (map names_of c.args.patterns.now)
    c.in-Ok.shares.groups.items c.in-Ok.shares.views.items _
    c.in-Ok-column_readers.readers.items
    (c.in-Ok-column_readers.ensures.names ∙ c.deref.ensures.value ∙ c.into_parts-groups.ensures.groups)
    c.into_parts-groups.ensures.views c.in-Ok.ensures.each).each

pub returns-clause-new : goal.returns-clause-new
returns-clause-new c =
    c.new.ensures.new (terms_of c.in_ok-needed.needed.value c.args.scale) c.in-Ok-column_readers.ensures.fresh

pub returns-clause-recording : goal.returns-clause-recording
returns-clause-recording c =
    IfOk-weaker c.new.result _ _
    (λ input is. is
    ∙ ap rows_recording (rows_terms c.args.scale c.in_ok-needed.ensures.definitions
    c.in_ok-needed.ensures.declared))
    (c.new.ensures.recording (terms_of c.in_ok-needed.needed.value c.args.scale)
    c.in-Ok-column_readers.ensures.fresh)
