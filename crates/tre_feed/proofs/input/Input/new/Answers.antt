use Rattle.std.proofs.Common.{◌≡◌, [], refl, rules}
use Rattle.tre_feed.proofs.Begun.{readers_count, readers_names, readers_so}
use Rattle.tre_feed.proofs.input.Input.new.Goals as goal

pub returns-clause-new : goal.returns-clause-new
returns-clause-new g c =
    let reader = g.R.TraceReader in
    λ terms stand. record {
      fed = record {
        all = terms;
        stand = readers_so (λ one. (reader.terms one ≡ terms) × reader.represents one [])
            c.in-Ok-fed_each.each.items c.args.each.items c.in-Ok-fed_each.ensures.readers stand;
      };
      none = record { rows = c.in-Ok-fed_each.ensures.none };
      taken = refl;
    }

pub returns-clause-asks : goal.returns-clause-asks
returns-clause-asks g c =
    search (rules, readers_names, g.R.TraceReader.names, c.in-Ok-fed_each.each.items)

pub returns-clause-recording : goal.returns-clause-recording
returns-clause-recording g c =
    search (rules, readers_count, g.R.TraceReader, c.in-Ok-fed_each.each.items, c.args.each.items)

pub invariant_of-result : goal.invariant_of-result
invariant_of-result g c =
    search (
      rules,
      readers_count,
      c.in-Ok-fed_each.each.items,
      c.in-Ok-fed_each.ensures.readers,
      c.requires.within,
    )
