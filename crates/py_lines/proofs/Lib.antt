-- how a line is cut into tokens, and what words spell
mod Lexing
pub mod Few
mod Numbers
mod Texts
mod Comments
-- what readers find, and what they don't
mod Finders
mod Counts
mod TokenFinders
mod OneAtom
mod Expressions
mod Fronts
mod Searching
mod Alike
mod Finds
mod RawFinds
mod RawConsts
mod RawSteps
mod Cutting
mod PartTokens
mod KindPieces
mod BlockPieces
mod Units
mod Instructions
mod Eachs
-- lines by their tokens
mod Classes
mod RawOneToOne
mod OneToOne
mod RawTotals
mod Totals
pub mod Readings
mod Ascii
mod PartsAscii
mod Known
pub mod Utf8
mod WorkedLemmas
mod RawWorked
