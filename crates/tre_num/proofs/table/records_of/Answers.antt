use Rattle.std.proofs.Common.{ap, ◌∙◌, subst}
use Rattle.tre_num.proofs.CsvRecords.{same_records}
use Rattle.std.specs.Option.{option_map}
use Rattle.csv.specs.Reading.{strip_bom}
use Rattle.tre_num.proofs.Records.{IsLeft-begins}
use Rattle.tre_num.specs.Left.{IsLeft}
use Rattle.tre_num.proofs.table.records_of.Goals as goal

pub returns : goal.returns
returns g c bytes known =
    let reader = c.from_reader.ensures in
    let built = c.has_headers.ensures in
    let loose = c.flexible.ensures in
    subst (IsLeft g.R.Read.remaining c.from_reader.result) (same_records bytes)
    (IsLeft-begins g.R.Read.remaining c.from_reader.result (strip_bom bytes)
    (rw (loose, built) at reader.trim ∙ c.new.ensures.trim)
    (rw (loose, built) at reader.has_headers)
    reader.headers
    (rw (loose, built) at reader.config ∙ c.new.ensures.config)
    reader.state (reader.source ∙ ap (option_map strip_bom) known))
