-- what one list of objects has once: payloads, names of types, and which classes derive from which
pub mod PayloadsOnce
-- what is raised and thrown, and what generators answer
pub mod ThrownOnce
-- replies
pub mod OneReply
-- calls, sends, throws, closes, entries and exits
pub mod OneCourse
-- at one past
pub mod OneAnswer
