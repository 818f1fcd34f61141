-- what the laws say
pub mod RowsLemmas
-- what is read of objects
pub mod ReadingLemmas
