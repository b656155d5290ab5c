pub mod Rounding
pub mod Places
pub mod Sizing
pub mod Runs
pub mod Never
