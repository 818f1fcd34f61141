-- what is so of each text that is made from a seed
pub mod Runs
