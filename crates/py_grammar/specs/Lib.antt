-- what the contract of `parse_script` rests on: which bytes are a script, and which line is the bad one
pub mod Script
pub mod Grammar
pub mod Rules
pub mod RawText
pub mod RawRules
pub mod Lines
-- what every script keeps, for the layers above
pub mod WellFormed
-- what the functions inside the crate promise each other
pub mod Pieces
pub mod Reader
pub mod Tables
pub mod Reading
-- a small script and rules, worked by hand
pub mod Worked
pub mod WorkedRaw
