-- what is read of objects
pub mod ReadingLemmas
-- objects that answers can read, as they grow and change
pub mod ReadableLemmas
-- replies by cases on the operands
pub mod AnswersLemmas
-- replies among more objects
pub mod RepliesLemmas
-- objects that give replies
pub mod GivingLemmas
-- what comes of what is thrown
pub mod ThrownLemmas
