-- objects of constants
pub mod ConstantLemmas
-- kinds of objects
pub mod KindLemmas
-- blocks
pub mod BlockLemmas
-- what the rules say of units
pub mod TypingLemmas
-- frames that land
pub mod LandingLemmas
-- leaving blocks
pub mod UnwindingLemmas
-- operands that are taken
pub mod TakingLemmas
-- values among the first objects
pub mod BelowLemmas
-- what instructions ask
pub mod AskingLemmas
-- frames that go on
pub mod BehindLemmas
-- what runs so far
pub mod RunningLemmas
-- what units do
pub mod ActingLemmas
-- what answers do
pub mod AnsweringLemmas
-- steps
pub mod StepLemmas
-- what is handled is an exception
pub mod HandledLemmas
-- what is handled, among the first objects
pub mod HandledBelowLemmas
-- where every row leads to
pub mod WalkLemmas
-- the slot, units that tell, and numbers of objects
pub mod StandingLemmas
-- more objects
pub mod GrowingLemmas
-- other tests of what is handled where exceptions are thrown in
pub mod UnderLemmas
-- steps that can be made
pub mod GoingLemmas
-- exits that are asked
pub mod ExitLemmas
-- whole runs
pub mod RunLemmas
