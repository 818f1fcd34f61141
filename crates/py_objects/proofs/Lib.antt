-- the places of the built-in classes
pub mod ErrorKindsLemmas
pub mod AttrsLemmas
pub mod PairsLemmas
pub mod Slots
pub mod BelowLemmas
pub mod EditsLemmas
-- what readers tell of payloads
pub mod ValuesLemmas
-- what changes leave as it was made
pub mod ChangesLemmas
pub mod OriginalsLemmas
-- changes made one event after another
pub mod DueLemmas
-- truth values among objects
pub mod SingletonsLemmas
pub mod StoreLemmas
pub mod OwnLemmas
-- objects and stores that grow, and new objects
pub mod GrowthLemmas
pub mod FrameEntriesLemmas
pub mod GrownLemmas
pub mod NewLemmas
-- what a class derives from stays, through changes and as more objects come
pub mod AncestryLemmas
