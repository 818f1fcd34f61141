-- what the drives of a script ask
pub mod Drives
-- what is known behind events, and which one may come next
pub mod Followed
-- what follows
pub mod Laws
