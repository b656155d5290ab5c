pub mod Texts
pub mod ReadEscapes
pub mod ReadLists
pub mod Reports
pub mod Blocks
pub mod Numbers
pub mod ReadApart
pub mod Laid
pub mod Cells
pub mod Drawn
pub mod Escapes
pub mod Writing
mod Measures
mod Parted
