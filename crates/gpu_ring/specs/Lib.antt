pub mod Line
pub mod Fit
pub mod RingState
pub mod Stretch
pub mod Calls
pub mod Runs
