-- bounds that are missed
pub mod Denying
-- a zone cut at the six bounds of another
pub mod Cutting
-- parts that are added, compared and found
pub mod Comparing
-- what the difference of two sets holds
pub mod Differences
-- of taken zones a stretch
pub mod Stretched
