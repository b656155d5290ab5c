pub mod Paging
pub mod Placing
pub mod Steps
