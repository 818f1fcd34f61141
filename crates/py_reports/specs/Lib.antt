-- which exceptions a report has, and in which order
pub mod Chains
-- source texts, and the places of codes
pub mod Lines
pub mod Scenes
-- what is printed of one exception
pub mod Entries
pub mod SyntaxLines
pub mod Parts
-- the whole report, and its steps
pub mod Reports
pub mod Steps
pub mod Laws
-- what functions inside the crate promise each other
pub mod Inside
-- reports that are worked by hand
pub mod Worked
