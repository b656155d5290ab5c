pub mod Rounding
pub mod Paging
pub mod Skipping
pub mod Spanning
pub mod Listed
pub mod Planning
pub mod Alive
pub mod Ordering
pub mod OneOrder
pub mod OnePlan
pub mod Offsets
pub mod Choice
pub mod Apart
pub mod Measure
pub mod Listing
pub mod Reusing
mod Joining
mod Beside
