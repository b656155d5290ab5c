pub mod Changes
pub mod HeapsAndResources
pub mod HeapsAndSets
pub mod Maps
pub mod Writes
