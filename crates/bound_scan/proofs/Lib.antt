pub mod Analyses
pub mod Begun
mod CountLoops
pub mod DigitsLaws
pub mod Entering
pub mod EntriesRaised
pub mod EntryEnds
pub mod FewHops
mod Finished
pub mod EntryKeys
pub mod Halfway
pub mod InCellsLaws
mod InTime
pub mod KeyLaws
pub mod KeysTaken
pub mod Limits
pub mod Lists
pub mod Onward
pub mod Ordering
pub mod Raises
pub mod Recents
pub mod RoundLaws
pub mod Rows
pub mod RowSums
pub mod RowsHeld
pub mod Scans
mod ShortWalks
pub mod Nodes
pub mod GoesOnto
pub mod GoingOn
mod Traces
mod Sought
pub mod Unders
pub mod Unpassed
pub mod Walked
pub mod Worsts
