pub mod Refusal
pub mod ErrorText
pub mod Sizes
pub mod Kind
pub mod Settings
pub mod Report
pub mod Bytes
