-- states of frames, and what a step leads to
pub mod States
-- which exception is handled
pub mod Handled
pub mod Slot
-- what leaving blocks does
pub mod Unwinding
-- which objects are those of constants
pub mod Constants
-- which answers requests want
pub mod Answers
pub mod Suits
-- what instructions ask, what they do, by the table of effects or in a way of their own, and what they do with an answer
pub mod Asked
pub mod Table
pub mod Rows
pub mod Receiving
-- which instruction may ask what
pub mod Questions
-- runs of the rows of a code
pub mod RunOfRows
-- where a frame stands, and of which unit it tells
pub mod Standing
-- which objects a frame names
pub mod Below
-- codes that frames can run
pub mod Sound
-- how a frame fits the notes of its code
pub mod Fitting
-- what holds of every run
pub mod Laws
-- the parameters of a code
pub mod Signature
-- frames that leave blocks, worked by hand
pub mod WorkedUnwinding
