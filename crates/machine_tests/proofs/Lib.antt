-- What is proved of machines that tests make.
pub mod AddedLemmas
