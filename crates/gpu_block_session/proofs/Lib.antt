pub mod CommandLists
pub mod BlockOwning
pub mod Numbers
pub mod BlockWords
pub mod Canonical
pub mod BlockSorts
pub mod Runs
mod Input
pub mod Leading
