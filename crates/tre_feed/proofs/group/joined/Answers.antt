use Rattle.tre_feed.proofs.group.joined.Goals as goal

pub returns-clause-shows : goal.returns-clause-shows
returns-clause-shows c = record {
  names = rw (← c.names.ensures.names) c.in_ok-names.ensures.places;
  events = rw (← c.events.ensures.events) c.in_ok-events.ensures.places;
}

pub returns-clause-wider : goal.returns-clause-wider
returns-clause-wider c = record {
  names = c.in_ok-names.ensures.kept;
  events = c.in_ok-events.ensures.kept;
}
