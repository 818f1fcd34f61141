-- what was raised
pub mod RaisesLemmas
-- when states and raises are the same
pub mod SameStates
-- what is seen of alike payloads
pub mod AlikeLemmas
-- what is raised, thrown and answered by generators
pub mod ExceptionsAgree
-- replies
pub mod AnswersAgree
-- calls, sends, throws, closes, entries and exits
pub mod CoursesAgree
-- the same questions, one kind at a time
pub mod Requests
-- what is the same as more objects are related
pub mod Growing
-- what the same events make of the same states
pub mod StatesAgree
pub mod GeneratorsAgree
pub mod RaisesAgree
-- one more pair of related objects
pub mod Pairing
-- what the same replies give
pub mod Births
-- what activations tell next
pub mod Telling
-- what may come in each phase
pub mod Phases
-- both go on by the same event
pub mod Steps
-- two runs of one script are the same
pub mod RunsAgree
-- exits are told the tracebacks of raises where they are told what exceptions have
pub mod NamedBefore
pub mod EntriesTold
pub mod RaisesTold
pub mod LinksTell
pub mod AsksEach
