-- the text of a script that is made from a seed
pub mod Made
-- what is so of each of them
pub mod Laws
-- what the drives of a run came to
pub mod Summaries
