-- which objects a script's declarations have
pub mod Behind
pub mod Entries
-- two runs of one script: what is alike before any event, what drives ask, what activations tell
pub mod CoreLemmas
pub mod EarlierLemmas
pub mod AlikeObjects
mod AskedAgree
mod TracesAgree
mod OneScript
-- where they look names up, and what exits are told
pub mod GlobalsAsked
pub mod ExitsTold
-- how they end, and what is written of them
mod Lengths
mod TextsAgree
mod LinkedText
pub mod ScriptsAgree
-- what is written where no object changes, and journals worked by hand
mod PlainText
pub mod WorkedObjects
pub mod Journals
mod WorkedLemmas
pub mod WorkedShowLemmas
mod WorkedLoopLemmas
mod OneText
mod WorkedCallLemmas
mod WorkedFinallyLemmas
mod WorkedGeneratorLemmas
mod WorkedWithLemmas
mod WorkedRawLemmas
mod WorkedContextLemmas
mod WorkedReportLemmas
mod ComparedLemmas
