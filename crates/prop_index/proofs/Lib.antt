mod Ascending
mod Buckets
mod Causes
mod Changed
mod Collects
pub mod ContentsWanted
mod Counting
mod DefinitionAdded
pub mod FillSteps
mod DefinitionsStay
mod EntryNodes
mod EntrySpares
mod FillTouches
mod Found
mod Gathers
mod GoneRules
mod GraphFound
mod HeadsAdded
mod IndexBlames
mod IndexFull
mod IndexMade
pub mod IndexTouches
pub mod LeftValues
pub mod LinkRules
mod ListKept
mod LiveCounts
mod Lookups
mod Made
pub mod IndexNamed
mod MadeRules
mod MakeFaults
mod PairStands
mod RecordFits
mod RecordsAdded
mod Reread
mod Searches
mod Steps
pub mod Sparing
mod Unlinked
mod Unwritten
pub mod Values
mod Walks
pub mod IndexCounts
