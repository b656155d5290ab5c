pub mod Answer
pub mod Objects
pub mod ResidencySet
pub mod Scripted
pub mod Simulation
pub mod SimulationLaws
pub mod Sizes
