-- What a reader must believe: bars over a begin, profiles, runs and strips, and the order in which
-- strips are listed.
pub mod Bar
pub mod Profile
pub mod Runs
pub mod Strips
pub mod Listed
-- What the functions inside promise each other: ends that keep their order over some times, the
-- profile of zones over them, zones that leave out what others hold, one pass over time, and the
-- strips that are found on the way.
pub mod Times
pub mod Profiles
pub mod Trim
pub mod Sweep
pub mod Found
pub mod Spun
