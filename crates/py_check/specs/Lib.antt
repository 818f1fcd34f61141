-- lists of kinds and of blocks as they lie in memory
pub mod KindRuns
pub mod Blocks
pub mod FewerBlocks
-- what fits a note, and how many blocks notes have
pub mod Notes
pub mod Depths
-- the kinds of constants
pub mod Constants
-- operands and labels
pub mod Operands
-- what the rules read of a code
pub mod Sheet
-- what instructions do to the stack, what they take, where control may come to, and
-- where it comes to that leaves blocks
pub mod Effects
pub mod Taking
pub mod Making
pub mod Landing
pub mod Leaving
-- the rules on whole codes and on units, codes that keep them, and which is broken first
pub mod WholeCode
pub mod Typing
pub mod Breaking
-- what follows from them
pub mod Laws
-- what the machine carries out so far
pub mod Running
-- the table of effects, stacks and units as the checker has them, and the handlers that it looks at first
pub mod Table
pub mod Opened
pub mod Sites
pub mod Innermost
pub mod Checking
-- codes worked by hand
pub mod Worked
pub mod WorkedHandlers
pub mod WorkedRaw
pub mod WorkedRows
pub mod WorkedRules
