-- what a question is answered
pub mod Answers
-- objects that answers can read
pub mod Readable
-- what the functions of the crate promise
pub mod Replying
