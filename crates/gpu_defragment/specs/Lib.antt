pub mod Defragmentation
pub mod Ends
