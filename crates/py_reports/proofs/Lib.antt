-- walks along links
mod WalkLemmas
-- the exceptions of a report, and the whole of it
mod ChainsLemmas
mod ReportsLemmas
-- the entries of a traceback
mod EntriesLemmas
-- the lines of texts
mod LinesLemmas
-- reports that are worked by hand
mod WorkedLemmas
-- reports of journals as these go on: among more objects, and with the same paths and names in another table
pub mod ClosedLemmas
pub mod GrowthLemmas
pub mod AlikeLemmas
