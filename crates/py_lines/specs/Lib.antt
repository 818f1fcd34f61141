-- what a line says
pub mod Statements
pub mod Line
pub mod Views
pub mod Reading
pub mod Printing
pub mod RawLines
pub mod Meaning
pub mod Senses
pub mod Keywords
pub mod Instructions
pub mod Parts
pub mod Words
pub mod Tokens
pub mod Comments
-- what holds of every line
pub mod Laws
-- small lines, worked by hand
pub mod Worked
pub mod WorkedRaw
-- what the functions inside the crate promise each other
pub mod Pieces
pub mod Finding
pub mod RawFinding
pub mod PartFinding
