-- What a reader must believe: the list of a set (IsZoneSet), and what adding a zone changes
-- (IsAdded, Without). What the functions inside promise each other: Stays, FoundHolds, IsThinned
-- and its words, zones that rise (Rise) and cuts of zones (Cut).
pub mod ZoneSet
pub mod Cut
pub mod Rise
pub mod Near
